-- `places::tables::is_table` meets its contract: past the arms the kind is none of the tables'.
-- Assumes nothing.
use native.Mathlib.Omega.{arith}
use Rattle.std.proofs.lemmas.Grind.{common_steps}
use Rattle.places.proofs.Finding.{not_left}
use Rattle.places.proofs.tables.is_table.Goals as goal

pub returns-in-1937011556 : goal.returns-in-1937011556
returns-in-1937011556 c e = absurd (not_left e)

pub returns-in-1937011555 : goal.returns-in-1937011555
returns-in-1937011555 c e = absurd (not_left e)

pub returns-in_default : goal.returns-in_default
returns-in_default c z =
    record {
      stsd = grind (arith, common_steps);
      stts = grind (arith, common_steps);
      ctts = grind (arith, common_steps);
      stsc = grind (arith, common_steps);
      stsz = grind (arith, common_steps);
      stco = grind (arith, common_steps);
      co64 = grind (arith, common_steps);
      stss = grind (arith, common_steps);
    }
