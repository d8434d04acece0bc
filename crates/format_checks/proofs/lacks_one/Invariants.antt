-- `format_checks::lacks_one` meets its contract; the loop's invariant: the descriptions of the rest decide for all of them.
-- Assumes nothing.
use mathlib.Core.Path.{◌≡◌}
use lib.ListN.{length}
use Rattle.atoms.specs.Pieces.{pieces}
use Rattle.leaves.specs.Leaves.{size_entry}
use Rattle.descriptions.specs.Descriptions.{descriptions}
use Rattle.profiles.specs.Profiles.{kept_of}
use Rattle.format_checks.specs.Formats.{formats, format_values, lacks_one}
use Rattle.format_checks.proofs.lacks_one.Given as goal

abbrev pub invariant-loop-t : goal.invariant-loop-t
invariant-loop-t l = lacks_one (format_values l.subtype (kept_of l.profile)) (formats (pieces (size_entry l.least) l.t)) ≡ lacks_one (format_values l.subtype (kept_of l.profile)) (formats (descriptions l.least l.stsd))

abbrev pub decreases-loop-t : goal.decreases-loop-t
decreases-loop-t l = length l.t
