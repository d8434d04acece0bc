-- `format_checks::has_format` meets its contract; the loop's invariant: the descriptions of the rest decide for all of them.
-- Assumes nothing.
use mathlib.Core.Path.{◌≡◌}
use lib.ListN.{length}
use Rattle.atoms.specs.Pieces.{pieces}
use Rattle.leaves.specs.Leaves.{size_entry}
use Rattle.words.specs.Words.{listed}
use Rattle.descriptions.specs.Descriptions.{descriptions}
use Rattle.format_checks.specs.Formats.{formats}
use Rattle.format_checks.proofs.has_format.Given as goal

abbrev pub invariant-loop-t : goal.invariant-loop-t
invariant-loop-t l = listed l.format (formats (pieces (size_entry l.least) l.t)) ≡ listed l.format (formats (descriptions l.least l.stsd))

abbrev pub decreases-loop-t : goal.decreases-loop-t
decreases-loop-t l = length l.t
