-- `format_checks::is_named` meets its contract; the loop's invariant: the records of the rest decide for all of them.
-- Assumes nothing.
use native.Mathlib.Omega.{arith}
use mathlib.Core.Path.{sym, ap, ◌∙◌}
use lib.ListN.{length-drop}
use Rattle.bigendian.proofs.Parts.{rest as part-rest}
use Rattle.words.specs.Words.{listed}
use Rattle.profiles.proofs.Kept.{kept-in}
use Rattle.format_checks.proofs.Formats.{values_none, named_here, named_next}
use Rattle.format_checks.proofs.is_named.Goals as goal

pub loop-t-init : goal.loop-t-init
loop-t-init c = rw (c.after-t.ensures, kept-in c.args.profile.now)

pub returns-then-record_names : goal.returns-then-record_names
returns-then-record_names c =
    let l = c.loop-t in
    sym (named_here _ _ _ c.loop-t-test.true (sym c.record_names.ensures ∙ c.if-record_names.true)) ∙ l.invariant

pub loop-t-smaller : goal.loop-t-smaller
loop-t-smaller c = let l = c.loop-t.t.now in rw (part-rest 16 l) (omega (arith, length-drop 16 l, c.loop-t-test.true))

pub loop-t-preserved : goal.loop-t-preserved
loop-t-preserved c =
    let l = c.loop-t in
    rw (part-rest 16 l.t.now) (sym (named_next _ _ _ c.loop-t-test.true (sym c.record_names.ensures ∙ c.if-record_names.false)) ∙ l.invariant)

pub returns : goal.returns
returns c =
    let l = c.loop-t in
    ap (listed _) (sym (values_none _ _ c.loop-t-test.false)) ∙ l.invariant
