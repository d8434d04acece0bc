-- `averages::edits_added` meets its contract: what is added, and what the entries not yet read cover, is what all cover.
-- Assumes nothing.
use Rattle.std.specs.Slice.Iter.{chunks_exact_rest}
use mathlib.Core.List.{◌∷◌}
use mathlib.Core.Path.{◌∙◌}
use native.Mathlib.Omega.{arith}
use lib.ListN.{drop}
use Rattle.bigendian.proofs.Entries.{begins, comes, none_comes}
use Rattle.runs.specs.Runs.{per_sample}
use Rattle.words.specs.Words.{sizes}
use Rattle.edits.specs.Edits.{edits, edits_in}
use Rattle.edits.proofs.Turns.{entry_edit, edits-in, edits_none, edits_next}
use Rattle.averages.proofs.Covers.{Adding, adding_none, adding_right, adding_room, adding_next, adding_end}
use Rattle.averages.proofs.edits_added.Goals as goal

pub loop-entry-init : goal.loop-entry-init
loop-entry-init c = let begin = begins c.into_iter-entry-iterator.ensures.into_iter_gives c.chunks_exact-entry-items.ensures.rest c.chunks_exact-entry-items.ensures.size c.after.ensures in (begin.size, rw (begin.rest, edits-in c.args.elst.now) (adding_none _ _ _ _ _ c.requires.1))

pub entry_added-a-requires : goal.entry_added-a-requires
entry_added-a-requires c =
    let e = comes c.loop-entry.entry-iterator c.next.new.self c.loop-entry.invariant.0 c.in-Some.entry c.in-Some.ensures.steps in
    let ahead : let a = c.args in
    Adding a.scale a.movie (per_sample a.stts.now) (sizes a.stsz.now) (edits a.elst.now) (c.edit_at.result ∷ edits_in (drop 12 (chunks_exact_rest c.loop-entry.entry-iterator))) c.loop-entry.bytes
    c.loop-entry.units = rw (edits_next (chunks_exact_rest c.loop-entry.entry-iterator) e.long (c.edit_at.ensures.0 ∙ entry_edit e)) at c.loop-entry.invariant.1 in
    (c.requires.0, c.edit_at.ensures.1, adding_right _ _ _ _ (ahead))

pub overflow_add-bytes : goal.overflow_add-bytes
overflow_add-bytes c =
    let e = comes c.loop-entry.entry-iterator c.next.new.self c.loop-entry.invariant.0 c.in-Some.entry c.in-Some.ensures.steps in
    let ahead : let a = c.args in
    Adding a.scale a.movie (per_sample a.stts.now) (sizes a.stsz.now) (edits a.elst.now) (c.edit_at.result ∷ edits_in (drop 12 (chunks_exact_rest c.loop-entry.entry-iterator))) c.loop-entry.bytes
    c.loop-entry.units = rw (edits_next (chunks_exact_rest c.loop-entry.entry-iterator) e.long (c.edit_at.ensures.0 ∙ entry_edit e)) at c.loop-entry.invariant.1 in
    omega (arith, (adding_room _ _ _ _ (ahead)).0, c.entry_added-a.ensures.1)

pub overflow_add-units : goal.overflow_add-units
overflow_add-units c =
    let e = comes c.loop-entry.entry-iterator c.next.new.self c.loop-entry.invariant.0 c.in-Some.entry c.in-Some.ensures.steps in
    let ahead : let a = c.args in
    Adding a.scale a.movie (per_sample a.stts.now) (sizes a.stsz.now) (edits a.elst.now) (c.edit_at.result ∷ edits_in (drop 12 (chunks_exact_rest c.loop-entry.entry-iterator))) c.loop-entry.bytes
    c.loop-entry.units = rw (edits_next (chunks_exact_rest c.loop-entry.entry-iterator) e.long (c.edit_at.ensures.0 ∙ entry_edit e)) at c.loop-entry.invariant.1 in
    omega (arith, (adding_room _ _ _ _ (ahead)).1, c.entry_added-a.ensures.2)

pub loop-entry-preserved : goal.loop-entry-preserved
loop-entry-preserved c =
    let e = comes c.loop-entry.entry-iterator c.next.new.self c.loop-entry.invariant.0 c.in-Some.entry c.in-Some.ensures.steps in
    let ahead : let a = c.args in
    Adding a.scale a.movie (per_sample a.stts.now) (sizes a.stsz.now) (edits a.elst.now) (c.edit_at.result ∷ edits_in (drop 12 (chunks_exact_rest c.loop-entry.entry-iterator))) c.loop-entry.bytes
    c.loop-entry.units = rw (edits_next (chunks_exact_rest c.loop-entry.entry-iterator) e.long (c.edit_at.ensures.0 ∙ entry_edit e)) at c.loop-entry.invariant.1 in
    let x = c.entry_added-a in (e.size, rw e.rest (adding_next _ _ _ _ (ahead) x.result x.ensures.0 x.ensures.1 x.ensures.2))

pub returns : goal.returns
returns c = let end = none_comes c.loop-entry.entry-iterator c.next.new.self c.loop-entry.invariant.0 c.in-None.ensures.steps in adding_end _ _ _ _ (rw (edits_none _ end) at c.loop-entry.invariant.1)
