-- `questions::samples::sample_in` meets its contract: what is looked up is what each table says of the sample.
-- Assumes nothing.
use mathlib.Core.Path.{◌∙◌}
use Rattle.questions.proofs.Shift.{narrowed, passed_narrow}
use Rattle.questions.proofs.Said.{found_said}
use Rattle.questions.proofs.samples.sample_in.Goals as goal

pub timing_of-requires : goal.timing_of-requires
timing_of-requires c = tt

pub composition_offset-requires : goal.composition_offset-requires
composition_offset-requires c = tt

pub overflow_cast-composition_offset : goal.overflow_cast-composition_offset
overflow_cast-composition_offset c = let o = c.composition_offset in narrowed o.result o.ensures.1

pub is_sync-requires : goal.is_sync-requires
is_sync-requires c = tt

pub returns : goal.returns
returns c =
    let o = c.composition_offset in
    c.sample_found.ensures
    ∙ found_said _ _ _ _ _ _ _ _ _ _ _ _ c.timing_of.ensures (passed_narrow o.result o.ensures.1 ∙ o.ensures.0) c.locate.ensures c.is_sync.ensures
