-- Peaks of small tracks, each computed from the definitions.
-- Assumes nothing.
use Rattle.std.specs.Prelude.{Some, None}
use mathlib.Core.Path.{◌≡◌, refl}
use mathlib.Core.List.{[], ◌∷◌}
use Rattle.rates.specs.Rates.{round_up, value_of, rate_of}
use Rattle.peaks.specs.Peaks.{peak_of, peak_in}

-- film W lasts less than a second: the whole track, as its average
of_w : peak_in 600 (24 ∷ 24 ∷ 24 ∷ 48 ∷ []) (100 ∷ 50 ∷ 0 ∷ 70 ∷ []) ≡ Some (record { rate = 8800; first = 1; count = 4 })
unfolding peak_in peak_of rate_of value_of round_up
of_w = refl

-- a total of just the scale is one run
at_scale : peak_in 120 (24 ∷ 24 ∷ 24 ∷ 48 ∷ []) (100 ∷ 50 ∷ 0 ∷ 70 ∷ []) ≡ Some (record { rate = 1760; first = 1; count = 4 })
unfolding peak_in peak_of rate_of value_of round_up
at_scale = refl

-- the runs of samples 1 to 4 last 2, 2, 3 and 2: 8 × 3, 8 × 9, 8 × 8 × 2 / 3 and 8 × 1 bits a second
burst : peak_in 2 (1 ∷ 1 ∷ 1 ∷ 2 ∷ []) (1 ∷ 2 ∷ 7 ∷ 1 ∷ []) ≡ Some (record { rate = 72; first = 2; count = 2 })
unfolding peak_in peak_of rate_of value_of round_up
burst = refl

-- a run that never gets there is left out, though its rate would be the greatest
left_out : peak_in 2 (2 ∷ 1 ∷ []) (1 ∷ 9 ∷ []) ≡ Some (record { rate = 8; first = 1; count = 1 })
unfolding peak_in peak_of rate_of value_of round_up
left_out = refl

-- of equal rates the first; a run may start with a sample of no duration, and its bytes count
first_of_equals : peak_in 2 (2 ∷ 0 ∷ 2 ∷ 2 ∷ []) (5 ∷ 1 ∷ 5 ∷ 6 ∷ []) ≡ Some (record { rate = 48; first = 2; count = 2 })
unfolding peak_in peak_of rate_of value_of round_up
first_of_equals = refl

-- no samples, and none that lasts
no_samples : peak_in 600 [] [] ≡ None
unfolding peak_in peak_of rate_of
no_samples = refl

no_duration : peak_in 600 (0 ∷ 0 ∷ []) (9 ∷ 9 ∷ []) ≡ None
unfolding peak_in peak_of rate_of
no_duration = refl

-- one run over 4,294,967,295 bits a second, and the feature can't be computed
one_over : peak_in 1 (1 ∷ 1 ∷ []) (1 ∷ 536870912 ∷ []) ≡ None
unfolding peak_in peak_of rate_of value_of round_up
one_over = refl
