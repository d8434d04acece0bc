-- The walk over a moov: what is kept of its header and profile, and of its traks.
-- Assumes nothing.
use Prim.Native.Nat.{ℕ, zero, suc, ◌+◌, ◌-◌, ◌≤◌, ◌<◌}
use mathlib.Core.Path.{◌≡◌, refl, sym, ap, ◌∙◌}
use mathlib.Core.List.{List, [], ◌∷◌}
use native.Mathlib.Omega.{arith}
use native.Mathlib.Decide.{ℕ_discrete, dec_le}
use borrow.Author.Tests.{eq-eqb, ne_eqb, le-leb, lt-leb}
use lib.ListN.{length, take, drop, get_or, set, length-drop, length-replicate, length-set}
use lib.Seq.{drop-drop, get_or-drop, get_or-set_same, get_or-set_other}
use Rattle.bigendian.specs.BigEndian.{u32_at}
use Rattle.atoms.specs.Kinds as kinds
use Rattle.atoms.specs.Atoms.{size_in, atoms, child_in}
use Rattle.atoms.proofs.Laws.{child_none, child_here, child_next}
use Rattle.structure.specs.Profile.{first_before}
use Rattle.structure.proofs.Places.{profile_none, profile_head, profile_here, profile_next}
use Rattle.places.specs.Places.{part_in, nothing, IsTrak, no_trak}
use Rattle.places.specs.Finding.{first_part}
use Rattle.places.specs.Movies.{AreTraks, FindsMovieHeads, no_traks, with_trak}
use Rattle.places.specs.declared.Part.{Part}
use Rattle.places.specs.declared.trak.Trak.{Trak}
use Rattle.places.specs.declared.moov.Traks.{Traks}

-- ---- the header and the profile

-- before the rest t of the body: the header is still to be found, and the profile is found or still to be found
pub record SeeksHeads (s body t : List ℕ) (y : Part) : Type 0 where
  pub mvhd : child_in kinds.moov kinds.mvhd 0 t ≡ child_in kinds.moov kinds.mvhd 0 body
  pub ahead : y.len ≡ 0 → first_before kinds.mvhd (atoms kinds.moov t) ≡ first_before kinds.mvhd (atoms kinds.moov body)
  pub found : (y.len ≡ 0 → ⊥) → part_in s y ≡ first_before kinds.mvhd (atoms kinds.moov body)

pub heads_begin : (s body : List ℕ) → SeeksHeads s body body nothing
heads_begin s body = record { mvhd = refl; ahead = λ z. refl; found = λ z. absurd (z refl) }

module _ (s body t : List ℕ) (n : ℕ) (e : n ≡ size_in kinds.moov t) (y : Part) (w : SeeksHeads s body t y) where
  at_end : first_before kinds.mvhd (atoms kinds.moov t) ≡ [] → part_in s y ≡ first_before kinds.mvhd (atoms kinds.moov body)
  unfolding part_in
  at_end q = elim (ℕ_discrete y.len 0) [
    | yes z ↦ rw z (sym q ∙ w.ahead z)
    | no z ↦ w.found z
  ]

  pub heads_none : n < 8 → FindsMovieHeads s body (record { mvhd = nothing; profile = y })
  unfolding part_in
  heads_none h = record {
    mvhd = sym (child_none kinds.moov t n e kinds.mvhd 0 h) ∙ w.mvhd;
    profile = at_end (profile_none kinds.moov kinds.mvhd t n e h);
  }

  module _ (h : 8 ≤ n) (next : Part) (g : part_in s next ≡ take n t) where
    pub heads_found : u32_at t 4 ≡ kinds.mvhd → FindsMovieHeads s body (record { mvhd = next; profile = y })
    heads_found f = record {
      mvhd = g ∙ sym (child_here kinds.moov t n e kinds.mvhd 0 h f refl) ∙ w.mvhd;
      profile = at_end (profile_head kinds.moov kinds.mvhd t n e h f);
    }

    pub heads_on : next.len ≡ n → (u32_at t 4 ≡ kinds.mvhd → ⊥) → SeeksHeads s body (drop n t) (first_part y kinds.prfl (u32_at t 4) next)
    heads_on l f = elim (ℕ_discrete y.len 0) [
      | no z ↦ rw (ne_eqb y.len 0 z) (record { mvhd = past; ahead = λ v. absurd (z v); found = w.found })
      | yes z ↦ elim (ℕ_discrete (u32_at t 4) kinds.prfl) [
        | yes k ↦
            rw (eq-eqb y.len 0 z, eq-eqb (u32_at t 4) kinds.prfl k) (record {
              mvhd = past;
              ahead = λ v. absurd (omega arith);
              found = λ v. g ∙ sym (profile_here kinds.moov kinds.mvhd t n e h f k) ∙ w.ahead z;
            })
        | no k ↦
            rw (eq-eqb y.len 0 z, ne_eqb (u32_at t 4) kinds.prfl k) (record {
              mvhd = past;
              ahead = λ v. sym (profile_next kinds.moov kinds.mvhd t n e h f k) ∙ w.ahead z;
              found = λ v. absurd (v z);
            })
      ]
    ]
      where
        past : child_in kinds.moov kinds.mvhd 0 (drop n t) ≡ child_in kinds.moov kinds.mvhd 0 body
        past = sym (child_next kinds.moov t n e kinds.mvhd 0 h f) ∙ w.mvhd

-- ---- the traks

-- those of the tracks ts that precede the rest of them
pub record TraksBefore (s : List ℕ) (ts rest : List (List ℕ)) (r : Traks) : Type 0 where
  pub few : r.count ≤ 16 → (drop r.count ts ≡ rest) × (r.count ≤ length ts)
  pub many : 16 < r.count → 16 < length ts
  pub each : (i : ℕ) → i < 16 → i < r.count → IsTrak s (get_or ts i []) (get_or r.of i no_trak)
  pub room : length r.of ≡ 16

pub traks_start : (s : List ℕ) (ts : List (List ℕ)) → TraksBefore s ts ts no_traks
traks_start s ts = record {
  few = λ h. (refl, omega arith);
  many = λ h. absurd (omega arith);
  each = λ i h k. absurd (omega arith);
  room = length-replicate 16 no_trak;
}

pub traks_end : (s : List ℕ) (ts rest : List (List ℕ)) (r : Traks) → rest ≡ [] → TraksBefore s ts rest r → AreTraks s ts r
traks_end s ts rest r e w = record {
  few = exact;
  many = w.many;
  each = λ i h k. elim (dec_le r.count 16) [
    | yes l ↦ w.each i h (omega (arith, exact l))
    | no l ↦ w.each i h (omega arith)
  ];
}
  where
    exact : r.count ≤ 16 → r.count ≡ length ts
    exact h = let q = w.few h in omega (arith, q.1, length-drop r.count ts, ap length (q.0 ∙ e))

module _ (s : List ℕ) (ts rest : List (List ℕ)) (r : Traks) (b : List ℕ) (x : Trak) (w : TraksBefore s ts (b ∷ rest) r) (k : IsTrak s b x) where
  more : r.count ≤ 16 → r.count < length ts
  more h = let q = w.few h in omega (arith, q.1, length-drop r.count ts, ap length q.0)

  first : r.count ≤ 16 → get_or ts r.count [] ≡ b
  first h =
      let z : r.count + 0 ≡ r.count = omega arith in
      rw z at (sym (get_or-drop r.count ts 0 []) ∙ ap (λ (l : List (List ℕ)). get_or l 0 []) (w.few h).0)

  follow : r.count ≤ 16 → drop (r.count + 1) ts ≡ rest
  follow h = sym (drop-drop 1 r.count ts) ∙ ap (drop 1) (w.few h).0

  pub traks_next : TraksBefore s ts rest (with_trak r x)
  traks_next = elim (dec_le 16 r.count) [
    | yes h ↦
        rw (le-leb 16 r.count h) (record {
          few = λ g. absurd (omega arith);
          many = λ g. elim (dec_le r.count 16) [
            | yes l ↦ omega (arith, more l)
            | no l ↦ w.many (omega arith)
          ];
          each = λ i g l. w.each i g (omega arith);
          room = w.room;
        })
    | no h ↦
        let o : r.count < 16 = omega arith in
        rw (lt-leb 16 r.count o) (record {
          few = λ g. (follow (omega arith), omega (arith, more (omega arith)));
          many = λ g. absurd (omega arith);
          each = λ i g l. elim (ℕ_discrete i r.count) [
            | yes q ↦ rw (q, get_or-set_same r.of r.count x no_trak (omega (arith, w.room)), first (omega arith)) k
            | no q ↦ rw (get_or-set_other r.of r.count i x no_trak q) (w.each i g (omega arith))
          ];
          room = length-set r.of r.count x ∙ w.room;
        })
  ]
