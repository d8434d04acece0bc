-- The first rule: how many tracks there are, and the subtype of one after the other.
-- Assumes nothing.
use Prim.Native.Nat.{ℕ, ◌+◌, ◌≤◌, ◌<◌}
use mathlib.Core.Path.{◌≡◌, sym, ap, ◌∙◌}
use mathlib.Core.Bool.{true, false, not, ◌||◌}
use mathlib.Core.List.{List, []}
use native.Mathlib.Omega.{arith}
use native.Mathlib.Decide.{ℕ_discrete}
use borrow.Author.Tests.{eq-eqb, ne_eqb}
use lib.Dec.{eqb}
use lib.ListN.{length, get_or, drop, drop_of_length-le}
use Rattle.lists.proofs.Booleans.{and_false}
use Rattle.bigendian.specs.BigEndian.{u32_at}
use Rattle.atoms.specs.Kinds.{mdia, hdlr, vide}
use Rattle.atoms.specs.Atoms.{child_in}
use Rattle.structure.specs.Track.{mdia_of, subtype_of}
use Rattle.structure.specs.Movie.{tracks_of}
use Rattle.movie.proofs.Traks.{from_here}
use Rattle.quay_tracks.specs.Profile.{all_of, other_tracks}

pub subtype_by : (t x : List ℕ) (n : ℕ) → x ≡ child_in mdia hdlr 0 (mdia_of t) → n ≡ u32_at x 16 → n ≡ subtype_of t
unfolding subtype_of
subtype_by t x n e f = f ∙ ap (λ (l : List ℕ). u32_at l 16) e

module _ (m : List ℕ) (count : ℕ) (c : count ≡ length (tracks_of m)) where
  pub no_tracks : count ≡ 0 → other_tracks m ≡ true
  unfolding other_tracks
  no_tracks z = rw (ne_eqb (length (tracks_of m)) 1 (λ y. omega arith), ne_eqb (length (tracks_of m)) 2 (λ y. omega arith))

  pub many_tracks : 2 < count → other_tracks m ≡ true
  unfolding other_tracks
  many_tracks z = rw (ne_eqb (length (tracks_of m)) 1 (λ y. omega arith), ne_eqb (length (tracks_of m)) 2 (λ y. omega arith))

  module _ (i : ℕ) (w : all_of vide (drop i (tracks_of m)) ≡ all_of vide (tracks_of m)) where
    pub another_subtype : i < length (tracks_of m) → (n : ℕ) → n ≡ subtype_of (get_or (tracks_of m) i []) → (n ≡ vide → ⊥) → other_tracks m ≡ true
    unfolding other_tracks
    another_subtype h n e z =
        let f : all_of vide (tracks_of m) ≡ false = sym w ∙ rw (from_here (tracks_of m) i h, ← e, ne_eqb n vide z) in
        rw f (ap not (and_false (eqb (length (tracks_of m)) 1 || eqb (length (tracks_of m)) 2)))

    pub next_subtype : i < length (tracks_of m) → (n : ℕ) → n ≡ subtype_of (get_or (tracks_of m) i []) → n ≡ vide → all_of vide (drop (i + 1) (tracks_of m)) ≡ all_of vide (tracks_of m)
    next_subtype h n e z = sym (rw (from_here (tracks_of m) i h, ← e, eq-eqb n vide z)) ∙ w

    one_or_two : (k : ℕ) → 0 < k → k ≤ 2 → (eqb k 1 || eqb k 2) ≡ true
    one_or_two k a b = elim (ℕ_discrete k 1) [
      | yes z ↦ rw (eq-eqb k 1 z)
      | no z ↦ let y : k ≡ 2 = omega arith in rw (ne_eqb k 1 z, eq-eqb k 2 y)
    ]

    pub all_pictures : (count ≡ 0 → ⊥) → count ≤ 2 → count ≤ i → other_tracks m ≡ false
    unfolding other_tracks
    all_pictures a b h =
        let f : all_of vide (tracks_of m) ≡ true = sym w ∙ rw (drop_of_length-le (tracks_of m) {i = i} (omega arith)) in
        rw (one_or_two (length (tracks_of m)) (omega arith) (omega arith), f)
