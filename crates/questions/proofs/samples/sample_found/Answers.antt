-- `questions::samples::sample_found` meets its contract: the numbers are low, or the sample is refused.
-- Assumes nothing.
use mathlib.Core.Path.{sym, ap, ◌∙◌}
use native.Mathlib.Omega.{arith}
use lib.IntN.{pos, ◌+ℤ◌}
use Rattle.bigendian.proofs.Halves.{kept}
use Rattle.questions.proofs.Shift.{kept_narrow}
use Rattle.questions.proofs.Said.{low_known, found_refused, found_is}
use Rattle.questions.proofs.samples.sample_found.Goals as goal

pub located_offset-offset-requires : goal.located_offset-offset-requires
located_offset-offset-requires c = tt

pub is_low-requires : goal.is_low-requires
is_low-requires c = tt

pub returns-then-not-is_low : goal.returns-then-not-is_low
returns-then-not-is_low c = found_refused _ _ _ _ _ _ _ _ _ _ c.located_offset-offset.ensures c.is_low.ensures c.if-not-is_low.true

pub overflow_cast-start : goal.overflow_cast-start
overflow_cast-start c =
    let l = low_known _ _ _ _ (sym c.is_low.ensures ∙ c.if-not-is_low.false) in
    record { fits = omega (arith, l.0) }

pub shifted-requires : goal.shifted-requires
shifted-requires c = tt

pub overflow_add-result : goal.overflow_add-result
overflow_add-result c =
    let l = low_known _ _ _ _ (sym c.is_low.ensures ∙ c.if-not-is_low.false) in
    record { fits = omega (arith, l.1, c.well_formed) }

pub size_of-requires : goal.size_of-requires
size_of-requires c = tt

pub returns : goal.returns
returns c =
    let s = c.shifted in
    found_is _ _ _ _ _ _ _ _ _ _ c.located_offset-offset.ensures c.is_low.ensures c.if-not-is_low.false _ _
    (kept s.result s.type_inv ∙ s.ensures ∙ ap (λ z. pos c.args.timing.start +ℤ z) (kept_narrow c.args.shift (omega (arith, c.well_formed)))) c.size_of.ensures
