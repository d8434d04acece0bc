-- The paper's limits of a rate, and quotients rounded up, each computed from the definitions.
-- Assumes nothing.
use Rattle.std.specs.Prelude.{Some, None}
use Prim.Native.Nat.{◌*◌}
use mathlib.Core.Path.{◌≡◌, refl}
use Rattle.rates.specs.Rates.{round_up, value_of, rate_of}

-- a divisor of 0; a numerator of 2^64 whose quotient is small; the greatest value, and one more
divisor_none : rate_of 1056000 0 ≡ None
unfolding rate_of
divisor_none = refl

numerator_over : rate_of (0x100000000 * 0x100000000) 0x100000000000 ≡ None
unfolding rate_of
numerator_over = refl

value_greatest : rate_of 4294967295 1 ≡ Some 4294967295
unfolding rate_of value_of round_up
value_greatest = refl

value_over : rate_of 4294967296 1 ≡ None
unfolding rate_of value_of round_up
value_over = refl

-- an exact quotient, and an inexact one
exact : round_up 12 4 ≡ 3
unfolding round_up
exact = refl

inexact : round_up 13 4 ≡ 4
unfolding round_up
inexact = refl
