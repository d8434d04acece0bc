-- `stepping::Stepper::at` meets its contract: refused as any question of the track is, or the start by the track's tables.
-- Assumes nothing.
use Rattle.refusals.proofs.Numbers.{passed}
use Rattle.movie.proofs.Refused.{code_err, code_ok}
use Rattle.stepping.proofs.Started.{start_asked, start-said}
use Rattle.stepping.proofs.Stepper.at.Goals as goal

pub returns-in_err-asked : goal.returns-in_err-asked
returns-in_err-asked c = rw (passed c.from_residual.result _ c.from_residual.ensures.1) (start_asked _ _ _ _ _ (code_err _ _ _ c.of.ensures.refusal c.in_err-asked.was))

pub tables_in-tables-requires : goal.tables_in-tables-requires
tables_in-tables-requires c = let k = c.of.ensures.trak _ c.in_ok-asked.was in rw k.body k.parts

pub returns : goal.returns
returns c =
    let o = c.of.ensures in
    let q = c.in_ok-asked.was in
    start-said _ _ _ _ _ _ _ _ _ (code_ok _ _ _ o.refusal q) (o.trak _ q).body c.tables_in-tables.ensures c.part_of.ensures c.u32_at.ensures c.start_in.ensures
