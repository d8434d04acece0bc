-- The place of the first track with an ID: no track before the place has it.
-- Assumes nothing.
use Prim.Native.Nat.{ℕ, ◌+◌, ◌<◌}
use mathlib.Core.Path.{◌≡◌, refl, sym, ◌∙◌}
use mathlib.Core.List.{List, [], map}
use mathlib.Core.Bool.{true}
use native.Mathlib.Omega.{arith}
use borrow.Author.Tests.{eq-eqb, ne_eqb}
use lib.ListN.{length, get_or, drop, drop_of_length-le}
use Rattle.words.specs.Words.{listed}
use Rattle.structure.specs.Track.{id_of}
use Rattle.movie.specs.Tracks.{with_id}
use Rattle.movie.proofs.Traks.{from_here}
use Rattle.questions.specs.Asking.{StandsAt}

module _ (ts : List (List ℕ)) (i : ℕ) (h : i < length ts) (n : ℕ) (d : n ≡ id_of (get_or ts i [])) where
  id_here : (id : ℕ) → n ≡ id → (listed id (map id_of (drop i ts)) ≡ true) × (with_id id (drop i ts) ≡ get_or ts i [])
  id_here id q = (rw (from_here ts i h, ← d, eq-eqb n id q), rw (from_here ts i h, ← d, eq-eqb n id q))

  id_past : (id : ℕ) → (n ≡ id → ⊥) → (listed id (map id_of (drop i ts)) ≡ listed id (map id_of (drop (i + 1) ts))) × (with_id id (drop i ts) ≡ with_id id (drop (i + 1) ts))
  id_past id q = (rw (from_here ts i h, ← d, ne_eqb n id q), rw (from_here ts i h, ← d, ne_eqb n id q))

-- no track before i has the ID
pub record NotBefore (id : ℕ) (ts : List (List ℕ)) (i : ℕ) : Type 0 where
  pub has : listed id (map id_of (drop i ts)) ≡ listed id (map id_of ts)
  pub track : with_id id (drop i ts) ≡ with_id id ts

pub before_none : (id : ℕ) (ts : List (List ℕ)) → NotBefore id ts 0
before_none id ts = record { has = refl; track = refl }

module _ (id : ℕ) (ts : List (List ℕ)) (i : ℕ) (w : NotBefore id ts i) where
  pub place_none : i ≡ length ts → StandsAt id ts i
  place_none e = record {
    within = omega arith;
    found = λ h. absurd (omega arith);
    none = λ q. sym w.has ∙ rw (drop_of_length-le ts {i = i} (omega arith));
  }

  module _ (h : i < length ts) (n : ℕ) (d : n ≡ id_of (get_or ts i [])) where
    pub place_here : n ≡ id → StandsAt id ts i
    place_here q =
        let k = id_here ts i h n d id q in
        record { within = omega arith; found = λ g. (sym w.has ∙ k.0, sym w.track ∙ k.1); none = λ e. absurd (omega arith) }

    pub place_next : (n ≡ id → ⊥) → NotBefore id ts (i + 1)
    place_next q = let k = id_past ts i h n d id q in record { has = sym k.0 ∙ w.has; track = sym k.1 ∙ w.track }
