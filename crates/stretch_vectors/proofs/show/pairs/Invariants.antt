-- `stretch_vectors::show::pairs` is safe and ends: its measure is how much of the pairs is left.
-- Assumes nothing.
use Rattle.std.proofs.Common.{length}
use Rattle.stretch_vectors.proofs.show.pairs.Given as goal

abbrev pub invariant-loop-rest : goal.invariant-loop-rest
invariant-loop-rest g l = Unit {0}

abbrev pub decreases-loop-rest : goal.decreases-loop-rest
decreases-loop-rest g l = length l.rest
