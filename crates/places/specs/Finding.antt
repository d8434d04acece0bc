-- Parts as the walks find them. These need not be believed: they are between the crate's own functions.
use Rattle.std.specs.Prelude.{ℕ, ◌≡◌, false, cond, List, length, eqb}
use Rattle.atoms.specs.Kinds as kinds
use Rattle.atoms.specs.Atoms.{atoms, child_in}
use Rattle.structure.specs.Profile.{first_before}
use Rattle.places.specs.Places.{part_in, nothing}
use Rattle.places.specs.declared.Part.{Part}
use Rattle.places.specs.declared.tables.Found.{Found}
use Rattle.places.specs.declared.trak.Three.{Three}
use Rattle.places.specs.declared.trak.Heads.{Heads}

-- the first part of a kind: the one found, or the next one if it is of that kind
abbrev pub first_part : Part → ℕ → ℕ → Part → Part
first_part found wanted kind next = cond (eqb found.len 0) (cond (eqb kind wanted) next found) found

abbrev pub no_tables : Found
no_tables = record { stsd = nothing; stts = nothing; ctts = nothing; stsc = nothing; stsz = nothing; stco = nothing; co64 = nothing; stss = nothing }

abbrev pub with_atom : Found → ℕ → Part → Found
with_atom f kind next =
    record {
      stsd = first_part f.stsd kinds.stsd kind next;
      stts = first_part f.stts kinds.stts kind next;
      ctts = first_part f.ctts kinds.ctts kind next;
      stsc = first_part f.stsc kinds.stsc kind next;
      stsz = first_part f.stsz kinds.stsz kind next;
      stco = first_part f.stco kinds.stco kind next;
      co64 = first_part f.co64 kinds.co64 kind next;
      stss = first_part f.stss kinds.stss kind next;
    }

-- an atom of that kind is none of the tables
pub record NoTable (kind : ℕ) : Type 0 where
  pub stsd : eqb kind kinds.stsd ≡ false
  pub stts : eqb kind kinds.stts ≡ false
  pub ctts : eqb kind kinds.ctts ≡ false
  pub stsc : eqb kind kinds.stsc ≡ false
  pub stsz : eqb kind kinds.stsz ≡ false
  pub stco : eqb kind kinds.stco ≡ false
  pub co64 : eqb kind kinds.co64 ≡ false
  pub stss : eqb kind kinds.stss ≡ false

-- stco, and where there is none co64
abbrev pub offsets_in : List ℕ → Part → Part → Part
offsets_in s stco co64 = cond (eqb (length (part_in s stco)) 0) co64 stco

-- each part is the first atom of its kind in the body of an stbl
pub record Finds (s body : List ℕ) (f : Found) : Type 0 where
  pub stsd : part_in s f.stsd ≡ child_in kinds.stbl kinds.stsd 0 body
  pub stts : part_in s f.stts ≡ child_in kinds.stbl kinds.stts 0 body
  pub ctts : part_in s f.ctts ≡ child_in kinds.stbl kinds.ctts 0 body
  pub stsc : part_in s f.stsc ≡ child_in kinds.stbl kinds.stsc 0 body
  pub stsz : part_in s f.stsz ≡ child_in kinds.stbl kinds.stsz 0 body
  pub stco : part_in s f.stco ≡ child_in kinds.stbl kinds.stco 0 body
  pub co64 : part_in s f.co64 ≡ child_in kinds.stbl kinds.co64 0 body
  pub stss : part_in s f.stss ≡ child_in kinds.stbl kinds.stss 0 body

-- three kinds in any body

abbrev pub with_one : Three → ℕ → ℕ → ℕ → ℕ → Part → Three
with_one f a b c kind next =
    record {
      a = first_part f.a a kind next;
      b = first_part f.b b kind next;
      c = first_part f.c c kind next;
    }

-- each part is the first atom of its kind in the body of the parent p
pub record FindsThree (s : List ℕ) (p a b c : ℕ) (body : List ℕ) (f : Three) : Type 0 where
  pub a_first : part_in s f.a ≡ child_in p a 0 body
  pub b_first : part_in s f.b ≡ child_in p b 0 body
  pub c_first : part_in s f.c ≡ child_in p c 0 body

-- a trak

pub record NoHead (kind : ℕ) : Type 0 where
  pub tkhd : eqb kind kinds.tkhd ≡ false
  pub mdia : eqb kind kinds.mdia ≡ false
  pub edts : eqb kind kinds.edts ≡ false
  pub prfl : eqb kind kinds.prfl ≡ false

-- no more once there is a tkhd
abbrev pub first_profile : Part → Part → ℕ → Part → Part
first_profile tkhd found kind next = cond (eqb tkhd.len 0) (first_part found kinds.prfl kind next) found

abbrev pub with_head : Heads → ℕ → Part → Heads
with_head f kind next =
    record {
      tkhd = first_part f.tkhd kinds.tkhd kind next;
      mdia = first_part f.mdia kinds.mdia kind next;
      edts = first_part f.edts kinds.edts kind next;
      prfl = first_profile f.tkhd f.prfl kind next;
    }

-- each part is the first atom of its kind in the trak with the body t, and the profile the first before its tkhd
pub record FindsHeads (t : List ℕ) (f : Heads) : Type 0 where
  pub tkhd : part_in t f.tkhd ≡ child_in kinds.trak kinds.tkhd 0 t
  pub mdia : part_in t f.mdia ≡ child_in kinds.trak kinds.mdia 0 t
  pub edts : part_in t f.edts ≡ child_in kinds.trak kinds.edts 0 t
  pub prfl : part_in t f.prfl ≡ first_before kinds.tkhd (atoms kinds.trak t)
