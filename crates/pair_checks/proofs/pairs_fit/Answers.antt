-- `pair_checks::pairs_fit` meets its contract: the first pair is looked at, and no other can fail.
-- Assumes nothing.
use Rattle.pair_checks.proofs.Fits.{too_long, short_fits, start_low, past_fits, first_fits}
use native.Mathlib.Omega.{arith}
use mathlib.Core.Path.{sym, ◌∙◌}
use Rattle.pair_checks.proofs.pairs_fit.Goals as goal

pub returns-then-stsc-gt4294967295 : goal.returns-then-stsc-gt4294967295
returns-then-stsc-gt4294967295 c = too_long _ _ _ _ _ _ c.if-stsc-gt4294967295.true

pub returns-then-not-is_long : goal.returns-then-not-is_long
returns-then-not-is_long c = short_fits _ _ _ _ _ _ c.if-stsc-gt4294967295.false (sym c.is_long.ensures ∙ c.if-not-is_long.true) (λ i. (c.type_inv.stsz i).fits) (λ i. (c.type_inv.offsets i).fits) (omega arith) (omega arith)

pub returns-then-is_past : goal.returns-then-is_past
returns-then-is_past c = past_fits _ _ _ _ _ _ _ c.start_place-p.ensures c.if-stsc-gt4294967295.false (sym c.is_past.ensures ∙ c.if-is_past.true)

pub start_fits-requires : goal.start_fits-requires
start_fits-requires c = omega (arith, start_low _ _ _ _ c.start_place-p.ensures)

pub returns : goal.returns
returns c = first_fits _ _ _ _ _ _ _ c.start_place-p.ensures (sym c.is_past.ensures ∙ c.if-is_past.false) (λ i. (c.type_inv.stsz i).fits) (λ i. (c.type_inv.offsets i).fits) (omega arith) c.if-stsc-gt4294967295.false _ c.start_fits.ensures
