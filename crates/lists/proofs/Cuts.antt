-- Parts of a table at whole entries, over the width: what follows the first k entries, and the first k, are cut at k * w bytes.
-- Assumes nothing.
use Prim.Native.Nat.{ℕ, zero, suc, ◌+◌, ◌*◌, ◌≤◌, ◌<◌}
use mathlib.Core.Path.{◌≡◌, sym, ap, ◌∙◌}
use mathlib.Core.List.{List, [], ◌∷◌}
use native.Mathlib.Decide.{dec_lt}
use native.Mathlib.Nat.{suc-mul, zero-mul}
use native.Mathlib.Omega.{arith}
use lib.ListN.{length, take, drop, length-drop, length-take}
use lib.Seq.{take-nil, take-take, drop-drop}
use Rattle.lists.specs.Entries.{rows_of}
use Rattle.lists.proofs.Rows.{rows_none, rows_next}

pub drop_take : {A : Type 0} (m n : ℕ) (l : List A) → drop m (take (m + n) l) ≡ take n (drop m l)
drop_take zero n l = let e : 0 + n ≡ n = omega arith in ap (λ (k : ℕ). take k l) e
drop_take (suc m) n [] = ap (drop (suc m)) (take-nil (suc m + n)) ∙ sym (take-nil n)
drop_take (suc m) n (x ∷ l) =
    let e : suc m + n ≡ suc (m + n) = omega arith in
    ap (λ (k : ℕ). drop (suc m) (take k (x ∷ l))) e ∙ drop_take m n l

module _ (w : ℕ) (p : 0 < w) where
  -- the entries past the first k are those of what follows the first k * w bytes
  pub rows_drop : (k : ℕ) (t : List ℕ) → rows_of w (drop (k * w) t) ≡ drop k (rows_of w t)
  rows_drop zero t = ap (λ (n : ℕ). rows_of w (drop n t)) (zero-mul w)
  rows_drop (suc k) t = elim (dec_lt (length t) w) [
    | yes l ↦ rows_none w (drop (suc k * w) t) (omega (arith, length-drop (suc k * w) t)) ∙ sym (ap (drop (suc k)) (rows_none w t l))
    | no l ↦
        let h : w ≤ length t = omega arith in
        let e : suc k * w ≡ w + k * w = omega (arith, suc-mul k w) in
        ap (λ (n : ℕ). rows_of w (drop n t)) e
        ∙ ap (rows_of w) (sym (drop-drop (k * w) w t))
        ∙ rows_drop k (drop w t)
        ∙ sym (ap (drop (suc k)) (rows_next w t p h))
  ]

  -- the first k entries are those of the first k * w bytes
  pub rows_take : (k : ℕ) (t : List ℕ) → rows_of w (take (k * w) t) ≡ take k (rows_of w t)
  rows_take zero t = ap (λ (n : ℕ). rows_of w (take n t)) (zero-mul w) ∙ rows_none w [] p
  rows_take (suc k) t = elim (dec_lt (length t) w) [
    | yes l ↦ rows_none w (take (suc k * w) t) (omega (arith, length-take (suc k * w) t)) ∙ sym (ap (take (suc k)) (rows_none w t l))
    | no l ↦
        let h : w ≤ length t = omega arith in
        let e : suc k * w ≡ w + k * w = omega (arith, suc-mul k w) in
        let f : w ≤ length (take (w + k * w) t) = omega (arith, length-take (w + k * w) t) in
        let m : w ≤ w + k * w = omega arith in
        ap (λ (n : ℕ). rows_of w (take n t)) e
        ∙ rows_next w (take (w + k * w) t) p f
        ∙ ap (λ (x : List ℕ). x ∷ rows_of w (drop w (take (w + k * w) t))) (take-take w (w + k * w) t m)
        ∙ ap (λ (x : List ℕ). take w t ∷ rows_of w x) (drop_take w (k * w) t)
        ∙ ap (λ (x : List (List ℕ)). take w t ∷ x) (rows_take k (drop w t))
        ∙ sym (ap (take (suc k)) (rows_next w t p h))
  ]
