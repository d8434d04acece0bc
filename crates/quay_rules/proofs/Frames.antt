-- The ninth rule, by the cases of a feature.
-- Assumes nothing.
use Rattle.std.specs.Prelude.{Option, Some, None}
use Prim.Native.Nat.{ℕ}
use mathlib.Core.Path.{◌≡◌, sym, ap}
use mathlib.Core.Bool.{true}
use lib.Dec.{ltb}
use Rattle.quay_rules.specs.Rules.{too_fast}

pub computed : (f : Option ℕ) (v : ℕ) → f ≡ Some v → ltb 1966080 v ≡ too_fast f
unfolding too_fast
computed f v e = sym (ap too_fast e)

pub not_computed : (f : Option ℕ) → f ≡ None → true ≡ too_fast f
unfolding too_fast
not_computed f e = sym (ap too_fast e)
