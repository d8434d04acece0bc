-- A body has a child of a kind exactly if the first of them has bytes: every atom has at least 8.
-- Assumes nothing.
use Prim.Native.Nat.{ℕ, zero, suc, ◌≤◌, ◌<◌}
use mathlib.Core.Path.{◌≡◌, refl, sym, ap, ◌∙◌}
use mathlib.Core.List.{List, [], ◌∷◌}
use mathlib.Core.Bool.{Bool, true, false, not}
use lib.ListN.{length, take, drop, get_or, length-drop}
use lib.Seq.{length-take-le}
use lib.Dec.{ltb, eqb}
use borrow.Author.Tests.{ltb-true, ltb-false, lt-ltb, le-ltb, eqb-true, eqb-false, eq-eqb, ne_eqb}
use native.Mathlib.Omega.{arith}
use native.Mathlib.Decide.{dec_lt}
use Rattle.bigendian.specs.BigEndian.{u32_at}
use Rattle.atoms.specs.Atoms.{size_in, atoms, of_kind, count_in, child_in}
use Rattle.atoms.proofs.Laws.{size_le, kinds_none, kinds_next, child_here, child_next}

module _ (p k : ℕ) where
  first_by : (n : ℕ) (t : List ℕ) → length t < n → 0 < count_in p k t → 8 ≤ length (child_in p k 0 t)
  first_by zero t l c = absurd (omega arith)
  first_by (suc n) t l c = elim (dec_lt (size_in p t) 8) [
    | yes h ↦ absurd (omega (arith, ap length (kinds_none p t (size_in p t) refl k h)))
    | no h ↦ go (eqb (u32_at t 4) k) refl (omega arith) (first_by n (drop (size_in p t) t) (omega (arith, length-drop (size_in p t) t, size_le p t)))
  ]
    where
      go : (b : Bool) → eqb (u32_at t 4) k ≡ b → 8 ≤ size_in p t
          → (0 < count_in p k (drop (size_in p t) t) → 8 ≤ length (child_in p k 0 (drop (size_in p t) t))) → 8 ≤ length (child_in p k 0 t)
      go true e h f =
          rw (child_here p t (size_in p t) refl k 0 h (eqb-true _ _ e) refl) (omega (arith, length-take-le (size_in p t) t (size_le p t), h))
      go false e h f =
          let m = eqb-false _ _ e in
          rw (child_next p t (size_in p t) refl k 0 h m) (f (rw (kinds_next p t (size_in p t) refl k h m) at c))

  none_first : (l : List (List ℕ)) → length l ≡ 0 → length (get_or l 0 []) ≡ 0
  none_first [] e = refl
  none_first (a ∷ l) e = absurd (omega arith)

  pub child_there : (t : List ℕ) (n : ℕ) → n ≡ length (child_in p k 0 t) → not (eqb n 0) ≡ ltb 0 (count_in p k t)
  child_there t n e = go (ltb 0 (count_in p k t)) refl
    where
      go : (b : Bool) → ltb 0 (count_in p k t) ≡ b → not (eqb n 0) ≡ b
      go true h = rw (ne_eqb n 0 (λ z. omega (arith, e, z, first_by (suc (length t)) t (omega arith) (ltb-true 0 (count_in p k t) h))))
      go false h = rw (eq-eqb n 0 (e ∙ none_first (of_kind k (atoms p t)) (omega (arith, ltb-false 0 (count_in p k t) h))))
