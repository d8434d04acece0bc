-- The walks that find parts: what they keep of each kind.
-- Assumes nothing.
use Prim.Native.Nat.{ℕ, ◌+◌, ◌-◌, ◌≤◌, ◌<◌}
use mathlib.Core.Path.{◌≡◌, refl, sym, ap, ◌∙◌}
use mathlib.Core.Bool.{Bool, true, false, cond, ◌||◌}
use mathlib.Core.List.{List, []}
use native.Mathlib.Omega.{arith}
use native.Mathlib.Decide.{ℕ_discrete}
use borrow.Author.Tests.{eq-eqb, ne_eqb}
use lib.Dec.{eqb}
use lib.ListN.{length, take, drop}
use Rattle.lists.proofs.Booleans.{or_left, or_right}
use Rattle.bigendian.specs.BigEndian.{u32_at}
use Rattle.atoms.specs.Kinds as kinds
use Rattle.atoms.specs.Atoms.{body_of, size_in, atoms, child_in}
use Rattle.atoms.proofs.Laws.{child_none, child_here, child_next}
use Rattle.structure.specs.Track.{mdia_of, minf_of, stbl_of, table_of, offset_table, elst_of, dref_of, profile_of}
use Rattle.structure.specs.Profile.{first_before, of_version0, profile_in}
use Rattle.structure.proofs.Places.{profile_none, profile_head, profile_here, profile_next}
use Rattle.places.specs.Places.{part_in, nothing, AreTables, AreParts}
use Rattle.places.specs.Finding.{first_part, no_tables, NoTable, with_atom, offsets_in, Finds, with_one, FindsThree, NoHead, first_profile, with_head, FindsHeads}
use Rattle.places.specs.declared.Part.{Part}
use Rattle.places.specs.declared.tables.Found.{Found}
use Rattle.places.specs.declared.trak.Three.{Three}
use Rattle.places.specs.declared.trak.Heads.{Heads}

pub not_left : true ≡ false → ⊥
not_left e = let z : ◌≡◌ {A = ℕ} 0 1 = ap (λ b. cond b 0 1) e in omega arith

-- of a kind k in the body of the parent p, before the rest t of it: found, or still to be found in t
pub record Seeks (s : List ℕ) (p : ℕ) (body t : List ℕ) (k : ℕ) (x : Part) : Type 0 where
  pub ahead : x.len ≡ 0 → child_in p k 0 t ≡ child_in p k 0 body
  pub found : (x.len ≡ 0 → ⊥) → part_in s x ≡ child_in p k 0 body

seeks_none : (s : List ℕ) (p : ℕ) (body : List ℕ) (k : ℕ) → Seeks s p body body k nothing
seeks_none s p body k = record { ahead = λ z. refl; found = λ z. absurd (z refl) }

module _ (s : List ℕ) (p : ℕ) (body t : List ℕ) (n : ℕ) (e : n ≡ size_in p t) where
  seeks_end : n < 8 → (k : ℕ) (x : Part) → Seeks s p body t k x → part_in s x ≡ child_in p k 0 body
  unfolding part_in
  seeks_end h k x q = elim (ℕ_discrete x.len 0) [
    | yes z ↦ rw z (sym (child_none p t n e k 0 h) ∙ q.ahead z)
    | no z ↦ q.found z
  ]

  seeks_next : 8 ≤ n → (next : Part) → next.len ≡ n → part_in s next ≡ take n t → (k : ℕ) (x : Part) → Seeks s p body t k x
      → Seeks s p body (drop n t) k (first_part x k (u32_at t 4) next)
  seeks_next h next l g k x q = elim (ℕ_discrete x.len 0) [
    | yes z ↦ elim (ℕ_discrete (u32_at t 4) k) [
      | yes y ↦
          rw (eq-eqb x.len 0 z, eq-eqb (u32_at t 4) k y) (record {
            ahead = λ v. absurd (omega arith);
            found = λ v. g ∙ sym (child_here p t n e k 0 h y refl) ∙ q.ahead z;
          })
      | no y ↦
          rw (eq-eqb x.len 0 z, ne_eqb (u32_at t 4) k y) (record {
            ahead = λ v. sym (child_next p t n e k 0 h y) ∙ q.ahead z;
            found = λ v. absurd (v z);
          })
    ]
    | no z ↦ rw (ne_eqb x.len 0 z) (record { ahead = λ v. absurd (z v); found = q.found })
  ]

-- a part of another kind than the wanted one changes nothing
pub first_same : (x : Part) (wanted kind : ℕ) (next : Part) → eqb kind wanted ≡ false → x ≡ first_part x wanted kind next
first_same x wanted kind next e = rw e (go (eqb x.len 0))
  where
    go : (b : Bool) → x ≡ cond b x x
    go true = refl
    go false = refl

-- ---- three kinds

-- inside an atom a size is read in one way
pub inside_any : (p : ℕ) (t : List ℕ) → (p ≡ 0 → ⊥) → size_in kinds.trak t ≡ size_in p t
unfolding size_in
inside_any p t h = rw (ne_eqb p 0 h)

pub same_three : (f : Three) (a b c kind : ℕ) (next : Part) → (eqb kind a || (eqb kind b || eqb kind c)) ≡ false → f ≡ with_one f a b c kind next
same_three f a b c kind next e i =
    let r = or_right (eqb kind a) _ e in
    record {
      a = first_same f.a a kind next (or_left (eqb kind a) _ e) i;
      b = first_same f.b b kind next (or_left (eqb kind b) _ r) i;
      c = first_same f.c c kind next (or_right (eqb kind b) _ r) i;
    }

pub record FindingThree (s : List ℕ) (p a b c : ℕ) (body t : List ℕ) (f : Three) : Type 0 where
  pub a_seeks : Seeks s p body t a f.a
  pub b_seeks : Seeks s p body t b f.b
  pub c_seeks : Seeks s p body t c f.c

pub three_start : (s : List ℕ) (p a b c : ℕ) (body : List ℕ) → FindingThree s p a b c body body (record { a = nothing; b = nothing; c = nothing })
three_start s p a b c body = let n = seeks_none s p body in record { a_seeks = n a; b_seeks = n b; c_seeks = n c }

module _ (s : List ℕ) (p a b c : ℕ) (body t : List ℕ) (f : Three) (n : ℕ) (e : n ≡ size_in p t) (w : FindingThree s p a b c body t f) where
  pub three_end : n < 8 → FindsThree s p a b c body f
  three_end h =
      let v = seeks_end s p body t n e h in
      record { a_first = v a f.a w.a_seeks; b_first = v b f.b w.b_seeks; c_first = v c f.c w.c_seeks }

  pub three_next : 8 ≤ n → (next : Part) → next.len ≡ n → part_in s next ≡ take n t → FindingThree s p a b c body (drop n t) (with_one f a b c (u32_at t 4) next)
  three_next h next l g =
      let v = seeks_next s p body t n e h next l g in
      record { a_seeks = v a f.a w.a_seeks; b_seeks = v b f.b w.b_seeks; c_seeks = v c f.c w.c_seeks }

-- ---- a trak

pub same_heads : (f : Heads) (kind : ℕ) (next : Part) → NoHead kind → f ≡ with_head f kind next
same_heads f kind next n i =
    record {
      tkhd = first_same f.tkhd kinds.tkhd kind next n.tkhd i;
      mdia = first_same f.mdia kinds.mdia kind next n.mdia i;
      edts = first_same f.edts kinds.edts kind next n.edts i;
      prfl = profile_same (eqb f.tkhd.len 0) (first_same f.prfl kinds.prfl kind next n.prfl) i;
    }
  where
    profile_same : (b : Bool) → f.prfl ≡ first_part f.prfl kinds.prfl kind next → f.prfl ≡ cond b (first_part f.prfl kinds.prfl kind next) f.prfl
    profile_same true e = e
    profile_same false e = refl

-- the profile, before the rest t of the trak: found, passed by, or still to be found in t
pub record SeeksProfile (s t : List ℕ) (x y : Part) : Type 0 where
  pub ahead : x.len ≡ 0 → y.len ≡ 0 → first_before kinds.tkhd (atoms kinds.trak t) ≡ first_before kinds.tkhd (atoms kinds.trak s)
  pub found : (y.len ≡ 0 → ⊥) → part_in s y ≡ first_before kinds.tkhd (atoms kinds.trak s)
  pub none : (x.len ≡ 0 → ⊥) → y.len ≡ 0 → first_before kinds.tkhd (atoms kinds.trak s) ≡ []

pub record FindingHeads (s t : List ℕ) (f : Heads) : Type 0 where
  pub tkhd : Seeks s kinds.trak s t kinds.tkhd f.tkhd
  pub mdia : Seeks s kinds.trak s t kinds.mdia f.mdia
  pub edts : Seeks s kinds.trak s t kinds.edts f.edts
  pub prfl : SeeksProfile s t f.tkhd f.prfl

pub heads_start : (s : List ℕ) → FindingHeads s s (record { tkhd = nothing; mdia = nothing; edts = nothing; prfl = nothing })
heads_start s =
    let n = seeks_none s kinds.trak s in
    record {
      tkhd = n kinds.tkhd;
      mdia = n kinds.mdia;
      edts = n kinds.edts;
      prfl = record { ahead = λ a b. refl; found = λ a. absurd (a refl); none = λ a b. absurd (a refl) };
    }

module _ (s t : List ℕ) (n : ℕ) (e : n ≡ size_in kinds.trak t) where
  profile_end : n < 8 → (x y : Part) → SeeksProfile s t x y → part_in s y ≡ first_before kinds.tkhd (atoms kinds.trak s)
  unfolding part_in
  profile_end h x y q = elim (ℕ_discrete y.len 0) [
    | yes z ↦ elim (ℕ_discrete x.len 0) [
      | yes v ↦ rw z (sym (profile_none kinds.trak kinds.tkhd t n e h) ∙ q.ahead v z)
      | no v ↦ rw z (sym (q.none v z))
    ]
    | no z ↦ q.found z
  ]

  profile_step : 8 ≤ n → (next : Part) → next.len ≡ n → part_in s next ≡ take n t → (x y : Part) → SeeksProfile s t x y
      → SeeksProfile s (drop n t) (first_part x kinds.tkhd (u32_at t 4) next) (first_profile x y (u32_at t 4) next)
  profile_step h next l g x y q = elim (ℕ_discrete x.len 0) [
    | no v ↦ rw (ne_eqb x.len 0 v) (record { ahead = λ a b. absurd (v a); found = q.found; none = q.none })
    | yes v ↦ elim (ℕ_discrete y.len 0) [
      | no z ↦
          rw (eq-eqb x.len 0 v, ne_eqb y.len 0 z) (record { ahead = λ a b. absurd (z b); found = q.found; none = λ a b. absurd (z b) })
      | yes z ↦ elim (ℕ_discrete (u32_at t 4) kinds.tkhd) [
        | yes k ↦
            rw (eq-eqb x.len 0 v, eq-eqb y.len 0 z, eq-eqb (u32_at t 4) kinds.tkhd k, ne_eqb (u32_at t 4) kinds.prfl (λ a. omega (arith, k, a))) (record {
              ahead = λ a b. absurd (omega arith);
              found = λ a. absurd (a z);
              none = λ a b. sym (q.ahead v z) ∙ profile_head kinds.trak kinds.tkhd t n e h k;
            })
        | no k ↦ elim (ℕ_discrete (u32_at t 4) kinds.prfl) [
          | yes j ↦
              rw (eq-eqb x.len 0 v, eq-eqb y.len 0 z, ne_eqb (u32_at t 4) kinds.tkhd k, eq-eqb (u32_at t 4) kinds.prfl j) (record {
                ahead = λ a b. absurd (omega arith);
                found = λ a. g ∙ sym (profile_here kinds.trak kinds.tkhd t n e h k j) ∙ q.ahead v z;
                none = λ a b. absurd (a v);
              })
          | no j ↦
              rw (eq-eqb x.len 0 v, eq-eqb y.len 0 z, ne_eqb (u32_at t 4) kinds.tkhd k, ne_eqb (u32_at t 4) kinds.prfl j) (record {
                ahead = λ a b. sym (profile_next kinds.trak kinds.tkhd t n e h k j) ∙ q.ahead v z;
                found = λ a. absurd (a z);
                none = λ a b. absurd (a v);
              })
        ]
      ]
    ]
  ]

  pub heads_end : n < 8 → (f : Heads) → FindingHeads s t f → FindsHeads s f
  heads_end h f w =
      let v = seeks_end s kinds.trak s t n e h in
      record {
        tkhd = v kinds.tkhd f.tkhd w.tkhd;
        mdia = v kinds.mdia f.mdia w.mdia;
        edts = v kinds.edts f.edts w.edts;
        prfl = profile_end h f.tkhd f.prfl w.prfl;
      }

  pub heads_next : 8 ≤ n → (f : Heads) → FindingHeads s t f → (next : Part) → next.len ≡ n → part_in s next ≡ take n t
      → FindingHeads s (drop n t) (with_head f (u32_at t 4) next)
  heads_next h f w next l g =
      let v = seeks_next s kinds.trak s t n e h next l g in
      record {
        tkhd = v kinds.tkhd f.tkhd w.tkhd;
        mdia = v kinds.mdia f.mdia w.mdia;
        edts = v kinds.edts f.edts w.edts;
        prfl = profile_step h next l g f.tkhd f.prfl w.prfl;
      }

-- ---- the tables of an stbl

pub same_tables : (f : Found) (kind : ℕ) (next : Part) → NoTable kind → f ≡ with_atom f kind next
same_tables f kind next n i =
    record {
      stsd = first_same f.stsd kinds.stsd kind next n.stsd i;
      stts = first_same f.stts kinds.stts kind next n.stts i;
      ctts = first_same f.ctts kinds.ctts kind next n.ctts i;
      stsc = first_same f.stsc kinds.stsc kind next n.stsc i;
      stsz = first_same f.stsz kinds.stsz kind next n.stsz i;
      stco = first_same f.stco kinds.stco kind next n.stco i;
      co64 = first_same f.co64 kinds.co64 kind next n.co64 i;
      stss = first_same f.stss kinds.stss kind next n.stss i;
    }

-- the same of all eight
pub record Finding (s body t : List ℕ) (f : Found) : Type 0 where
  pub stsd : Seeks s kinds.stbl body t kinds.stsd f.stsd
  pub stts : Seeks s kinds.stbl body t kinds.stts f.stts
  pub ctts : Seeks s kinds.stbl body t kinds.ctts f.ctts
  pub stsc : Seeks s kinds.stbl body t kinds.stsc f.stsc
  pub stsz : Seeks s kinds.stbl body t kinds.stsz f.stsz
  pub stco : Seeks s kinds.stbl body t kinds.stco f.stco
  pub co64 : Seeks s kinds.stbl body t kinds.co64 f.co64
  pub stss : Seeks s kinds.stbl body t kinds.stss f.stss

pub finding_start : (s body : List ℕ) → Finding s body body no_tables
finding_start s body =
    let n = seeks_none s kinds.stbl body in
    record {
      stsd = n kinds.stsd;
      stts = n kinds.stts;
      ctts = n kinds.ctts;
      stsc = n kinds.stsc;
      stsz = n kinds.stsz;
      stco = n kinds.stco;
      co64 = n kinds.co64;
      stss = n kinds.stss;
    }

module _ (s body t : List ℕ) (f : Found) (n : ℕ) (e : n ≡ size_in kinds.stbl t) (a : Finding s body t f) where
  pub finding_end : n < 8 → Finds s body f
  finding_end h =
      let w = seeks_end s kinds.stbl body t n e h in
      record {
        stsd = w kinds.stsd f.stsd a.stsd;
        stts = w kinds.stts f.stts a.stts;
        ctts = w kinds.ctts f.ctts a.ctts;
        stsc = w kinds.stsc f.stsc a.stsc;
        stsz = w kinds.stsz f.stsz a.stsz;
        stco = w kinds.stco f.stco a.stco;
        co64 = w kinds.co64 f.co64 a.co64;
        stss = w kinds.stss f.stss a.stss;
      }

  pub finding_next : 8 ≤ n → (next : Part) → next.len ≡ n → part_in s next ≡ take n t → Finding s body (drop n t) (with_atom f (u32_at t 4) next)
  finding_next h next l g =
      let w = seeks_next s kinds.stbl body t n e h next l g in
      record {
        stsd = w kinds.stsd f.stsd a.stsd;
        stts = w kinds.stts f.stts a.stts;
        ctts = w kinds.ctts f.ctts a.ctts;
        stsc = w kinds.stsc f.stsc a.stsc;
        stsz = w kinds.stsz f.stsz a.stsz;
        stco = w kinds.stco f.stco a.stco;
        co64 = w kinds.co64 f.co64 a.co64;
        stss = w kinds.stss f.stss a.stss;
      }

-- ---- the tables of a track, and all its parts

part_cond : (s : List ℕ) (b : Bool) (p q : Part) → part_in s (cond b p q) ≡ cond b (part_in s p) (part_in s q)
part_cond s true p q = refl
part_cond s false p q = refl

module _ (s t body : List ℕ) (f : Found) (p : Part) (e : body ≡ stbl_of t) (q : Finds s body f) (d : p ≡ offsets_in s f.stco f.co64) where
  table_is : (k : ℕ) → child_in kinds.stbl k 0 body ≡ table_of k t
  unfolding table_of
  table_is k = ap (child_in kinds.stbl k 0) e

  offsets_are : part_in s p ≡ offset_table t
  unfolding offset_table
  offsets_are =
      ap (part_in s) d
      ∙ part_cond s (eqb (length (part_in s f.stco)) 0) f.co64 f.stco
      ∙ rw (q.stco ∙ table_is kinds.stco, q.co64 ∙ table_is kinds.co64)

  pub are_tables : AreTables s t (record { stts = f.stts; ctts = f.ctts; stsc = f.stsc; stsz = f.stsz; offsets = p; stss = f.stss })
  are_tables = record {
    stts = q.stts ∙ table_is kinds.stts;
    ctts = q.ctts ∙ table_is kinds.ctts;
    stsc = q.stsc ∙ table_is kinds.stsc;
    stsz = q.stsz ∙ table_is kinds.stsz;
    offsets = offsets_are;
    stss = q.stss ∙ table_is kinds.stss;
  }

-- from what the walks over the containers find
module _ (t : List ℕ) (x : Heads) (y z : Three) (f : Found) (in-mdia in_minf in_stbl in-edts in-dinf profile elst dref offsets : Part)
    (found-trak : FindsHeads t x)
    (version : part_in t profile ≡ of_version0 (part_in t x.prfl))
    (mdia : part_in t in-mdia ≡ body_of (part_in t x.mdia))
    (found-mdia : FindsThree t kinds.mdia kinds.mdhd kinds.hdlr kinds.minf (part_in t in-mdia) y)
    (minf : part_in t in_minf ≡ body_of (part_in t y.c))
    (found-minf : FindsThree t kinds.minf kinds.stbl kinds.dinf kinds.dinf (part_in t in_minf) z)
    (stbl : part_in t in_stbl ≡ body_of (part_in t z.a))
    (found-stbl : Finds t (part_in t in_stbl) f)
    (edts : part_in t in-edts ≡ body_of (part_in t x.edts))
    (found-elst : part_in t elst ≡ child_in kinds.edts kinds.elst 0 (part_in t in-edts))
    (dinf : part_in t in-dinf ≡ body_of (part_in t z.b))
    (found-dref : part_in t dref ≡ child_in kinds.dinf kinds.dref 0 (part_in t in-dinf))
    (chosen : offsets ≡ offsets_in t f.stco f.co64)
  where
    is_mdia : part_in t in-mdia ≡ mdia_of t
    unfolding mdia_of
    is_mdia = mdia ∙ ap body_of found-trak.mdia

    is_minf : part_in t in_minf ≡ minf_of t
    unfolding minf_of
    is_minf = minf ∙ ap body_of (found-mdia.c_first ∙ ap (child_in kinds.mdia kinds.minf 0) is_mdia)

    is_stbl : part_in t in_stbl ≡ stbl_of t
    unfolding stbl_of
    is_stbl = stbl ∙ ap body_of (found-minf.a_first ∙ ap (child_in kinds.minf kinds.stbl 0) is_minf)

    pub are_parts : AreParts t (record {
      tkhd = x.tkhd;
      profile = profile;
      mdhd = y.a;
      hdlr = y.b;
      elst = elst;
      dref = dref;
      stsd = f.stsd;
      stts = f.stts;
      ctts = f.ctts;
      stsc = f.stsc;
      stsz = f.stsz;
      offsets = offsets;
      stss = f.stss;
    })
    unfolding elst_of dref_of profile_of profile_in
    are_parts =
        let w = table_is t t (part_in t in_stbl) f offsets is_stbl found-stbl chosen in
        record {
          tkhd = found-trak.tkhd;
          profile = version ∙ ap of_version0 found-trak.prfl;
          mdhd = found-mdia.a_first ∙ ap (child_in kinds.mdia kinds.mdhd 0) is_mdia;
          hdlr = found-mdia.b_first ∙ ap (child_in kinds.mdia kinds.hdlr 0) is_mdia;
          elst =
              found-elst
              ∙ ap (λ (l : List ℕ). child_in kinds.edts kinds.elst 0 l) (edts ∙ ap body_of found-trak.edts);
          dref =
              found-dref
              ∙ ap (λ (l : List ℕ). child_in kinds.dinf kinds.dref 0 l) (dinf ∙ ap body_of (found-minf.b_first ∙ ap (child_in kinds.minf kinds.dinf 0) is_minf));
          stsd = found-stbl.stsd ∙ w kinds.stsd;
          stts = found-stbl.stts ∙ w kinds.stts;
          ctts = found-stbl.ctts ∙ w kinds.ctts;
          stsc = found-stbl.stsc ∙ w kinds.stsc;
          stsz = found-stbl.stsz ∙ w kinds.stsz;
          offsets = offsets_are t t (part_in t in_stbl) f offsets is_stbl found-stbl chosen;
          stss = found-stbl.stss ∙ w kinds.stss;
        }
