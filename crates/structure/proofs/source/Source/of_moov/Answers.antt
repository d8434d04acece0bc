-- `structure::source::Source::of_moov` meets its contract: a whole file's source with two fields set.
-- Assumes nothing.
use mathlib.Core.Path.{ap}
use mathlib.Core.Bool.{true}
use Rattle.structure.specs.declared.source.Source.{Source}
use Rattle.structure.proofs.source.Source.of_moov.Goals as goal

pub whole-source-requires : goal.whole-source-requires
whole-source-requires c = tt

pub returns : goal.returns
returns c = ap (λ (w : Source). record { strict = w.strict; alone = true; length = c.args.length }) c.whole-source.ensures
