-- A part of what is lent, by value, and the parts of a track.
use Rattle.std.specs.Prelude.{ℕ, ◌≡◌, List, take, drop}
use Rattle.atoms.specs.Kinds as kinds
use Rattle.atoms.specs.Atoms.{child_in}
use Rattle.structure.specs.Track.{mdia_of, table_of, offset_table, elst_of, dref_of, profile_of}
use Rattle.places.specs.declared.Part.{Part}
use Rattle.places.specs.declared.tables.Tables.{Tables}
use Rattle.places.specs.declared.trak.Parts.{Parts}
use Rattle.places.specs.declared.trak.Trak.{Trak}

-- its bytes in s: what there is of them where it passes the end
unfoldable pub part_in : List ℕ → Part → List ℕ
part_in s p = take p.len (drop p.at s)

-- the parts are the tables of the track whose trak has the body t
pub record AreTables (s t : List ℕ) (p : Tables) : Type 0 where
  pub stts : part_in s p.stts ≡ table_of kinds.stts t
  pub ctts : part_in s p.ctts ≡ table_of kinds.ctts t
  pub stsc : part_in s p.stsc ≡ table_of kinds.stsc t
  pub stsz : part_in s p.stsz ≡ table_of kinds.stsz t
  pub offsets : part_in s p.offsets ≡ offset_table t
  pub stss : part_in s p.stss ≡ table_of kinds.stss t

-- the parts are those of the trak with the body t, as places in t
pub record AreParts (t : List ℕ) (p : Parts) : Type 0 where
  pub tkhd : part_in t p.tkhd ≡ child_in kinds.trak kinds.tkhd 0 t
  pub profile : part_in t p.profile ≡ profile_of t
  pub mdhd : part_in t p.mdhd ≡ child_in kinds.mdia kinds.mdhd 0 (mdia_of t)
  pub hdlr : part_in t p.hdlr ≡ child_in kinds.mdia kinds.hdlr 0 (mdia_of t)
  pub elst : part_in t p.elst ≡ elst_of t
  pub dref : part_in t p.dref ≡ dref_of t
  pub stsd : part_in t p.stsd ≡ table_of kinds.stsd t
  pub stts : part_in t p.stts ≡ table_of kinds.stts t
  pub ctts : part_in t p.ctts ≡ table_of kinds.ctts t
  pub stsc : part_in t p.stsc ≡ table_of kinds.stsc t
  pub stsz : part_in t p.stsz ≡ table_of kinds.stsz t
  pub offsets : part_in t p.offsets ≡ offset_table t
  pub stss : part_in t p.stss ≡ table_of kinds.stss t

-- the trak with the body t, in what is lent
pub record IsTrak (s t : List ℕ) (x : Trak) : Type 0 where
  pub body : part_in s x.body ≡ t
  pub parts : AreParts t x.parts

abbrev pub nothing : Part
nothing = record { at = 0; len = 0 }

abbrev pub no_trak : Trak
no_trak =
    record {
      body = nothing;
      parts = record {
        tkhd = nothing;
        profile = nothing;
        mdhd = nothing;
        hdlr = nothing;
        elst = nothing;
        dref = nothing;
        stsd = nothing;
        stts = nothing;
        ctts = nothing;
        stsc = nothing;
        stsz = nothing;
        offsets = nothing;
        stss = nothing;
      };
    }
