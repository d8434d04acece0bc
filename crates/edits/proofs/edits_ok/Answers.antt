-- `edits::edits_ok` meets its contract: what the rest says is what the whole list says.
-- Assumes nothing.
use mathlib.Core.Path.{sym, ap, ◌∙◌}
use native.Mathlib.Omega.{arith}
use lib.ListN.{length}
use Rattle.bigendian.proofs.Entries.{begins, comes, none_comes}
use Rattle.edits.specs.Edits.{edits_in, all_ok}
use Rattle.edits.proofs.Turns.{entry_edit, all_wrong, all_right, all_end, ok_absent, ok_empty, ok_each}
use Rattle.edits.proofs.edits_ok.Goals as goal

pub returns-then-elst-eq0 : goal.returns-then-elst-eq0
returns-then-elst-eq0 c = sym (ok_absent _ _ _ _ c.if-elst-eq0.true)

pub returns-then-part-lt12 : goal.returns-then-part-lt12
returns-then-part-lt12 c =
    let a = c.args in
    sym (ok_empty _ _ _ a.elst.now c.if-elst-eq0.false (omega (arith, ap length c.after-part.ensures, c.if-part-lt12.true)))

pub loop-entry-init : goal.loop-entry-init
loop-entry-init c =
    let begin = begins c.into_iter-entry-iterator.ensures.into_iter_gives c.chunks_exact-entry-items.ensures.rest c.chunks_exact-entry-items.ensures.size c.after-part.ensures in
    let a = c.args in
    let e = begin.rest in (
      begin.size,
      ap (λ l. all_ok a.scale a.movie a.total (edits_in l)) e
          ∙ ok_each _ _ _ a.elst.now c.if-elst-eq0.false (omega (arith, ap length c.after-part.ensures, c.if-part-lt12.false)),
    )

pub edit_ok-requires : goal.edit_ok-requires
edit_ok-requires c = c.edit_at-e.ensures.1

pub returns-then-not-edit_ok : goal.returns-then-not-edit_ok
returns-then-not-edit_ok c =
    let e = comes c.loop-entry.entry-iterator c.next.new.self c.loop-entry.invariant.0 c.in-Some.entry c.in-Some.ensures.steps in
    sym
    (all_wrong _ _ _ _ e.long (c.edit_at-e.ensures.0 ∙ entry_edit e)
    (sym c.edit_ok.ensures ∙ c.if-not-edit_ok.true)) ∙ c.loop-entry.invariant.1

pub loop-entry-preserved : goal.loop-entry-preserved
loop-entry-preserved c =
    let e = comes c.loop-entry.entry-iterator c.next.new.self c.loop-entry.invariant.0 c.in-Some.entry c.in-Some.ensures.steps in (
      e.size,
      rw e.rest
          (sym
          (all_right _ _ _ _ e.long (c.edit_at-e.ensures.0 ∙ entry_edit e)
          (sym c.edit_ok.ensures ∙ c.if-not-edit_ok.false)) ∙ c.loop-entry.invariant.1),
    )

pub returns : goal.returns
returns c = let end = none_comes c.loop-entry.entry-iterator c.next.new.self c.loop-entry.invariant.0 c.in-None.ensures.steps in sym (all_end _ _ _ _ end) ∙ c.loop-entry.invariant.1
