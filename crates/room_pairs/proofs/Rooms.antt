-- A room as the numbers that its elements stand for.
-- Assumes nothing.
use Rattle.std.proofs.Common.{◌≡◌, ℕ, suc, ◌+◌, List, [], ◌∷◌, map, length, set, sym, ◌∙◌, arith}
use Rattle.std.proofs.Math.Seq.{sets}
use Rattle.std.proofs.lemmas.List.{length-map, map-set}

module _ {A : Type 0} (value : A → ℕ) where
  pub same_length : (after room : List A) → length (map value after) ≡ length (map value room) → length after ≡ length room
  same_length after room e = sym (length-map after value) ∙ e ∙ length-map room value

  -- two stores, one place after the other
  pub two_stores : (room : List A) (at : ℕ) (x y : A) (n m : ℕ) → value x ≡ n → value y ≡ m
      → map value (set (set room at x) (at + 1) y) ≡ sets (map value room) at (n ∷ m ∷ [])
  two_stores room at x y n m e f =
      let s : at + 1 ≡ suc at = omega arith in
      map-set value (set room at x) (at + 1) y ∙ rw (map-set value room at x, e, f, s)
