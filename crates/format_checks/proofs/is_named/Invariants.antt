-- `format_checks::is_named` meets its contract; the loop's invariant: the records of the rest decide for all of them.
-- Assumes nothing.
use mathlib.Core.Path.{◌≡◌}
use lib.ListN.{length}
use Rattle.words.specs.Words.{listed}
use Rattle.profiles.specs.Profiles.{kept_in, kept_of}
use Rattle.format_checks.specs.Formats.{format_values}
use Rattle.format_checks.proofs.is_named.Given as goal

abbrev pub invariant-loop-t : goal.invariant-loop-t
invariant-loop-t l = listed l.format (format_values l.subtype (kept_in l.t)) ≡ listed l.format (format_values l.subtype (kept_of l.profile))

abbrev pub decreases-loop-t : goal.decreases-loop-t
decreases-loop-t l = length l.t
