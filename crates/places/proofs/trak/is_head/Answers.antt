-- `places::trak::is_head` meets its contract: past the arms the kind is none of the four.
-- Assumes nothing.
use native.Mathlib.Omega.{arith}
use Rattle.std.proofs.lemmas.Grind.{common_steps}
use Rattle.places.proofs.Finding.{not_left}
use Rattle.places.proofs.trak.is_head.Goals as goal

pub returns-in-1953196132 : goal.returns-in-1953196132
returns-in-1953196132 c e = absurd (not_left e)

pub returns-in_default : goal.returns-in_default
returns-in_default c z =
    record {
      tkhd = grind (arith, common_steps);
      mdia = grind (arith, common_steps);
      edts = grind (arith, common_steps);
      prfl = grind (arith, common_steps);
    }
