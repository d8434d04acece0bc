-- `edits::media_at` meets its contract: the rest of the time falls in the rest of the entries as the time falls in all of them.
-- Assumes nothing.
use Prim.Native.Nat.{◌<◌}
use mathlib.Core.Path.{◌≡◌, sym, ap, ◌∙◌}
use native.Mathlib.Omega.{arith}
use Rattle.bigendian.proofs.Halves.{kept}
use Rattle.bigendian.proofs.Entries.{begins, comes, none_comes}
use Rattle.edits.specs.Edits.{edits_in, start_of, shown_at, map_in, media_at}
use Rattle.edits.proofs.Turns.{entry_edit, map_here, map_past, map_end, media_absent, media_listed}
use Rattle.edits.proofs.media_at.Goals as goal

pub returns-then-elst-eq0 : goal.returns-then-elst-eq0
returns-then-elst-eq0 c = c.shown.ensures ∙ sym (media_absent _ _ _ _ _ c.if-elst-eq0.true)

pub loop-entry-init : goal.loop-entry-init
loop-entry-init c =
    let begin = begins c.into_iter-entry-iterator.ensures.into_iter_gives c.chunks_exact-entry-items.ensures.rest c.chunks_exact-entry-items.ensures.size c.after.ensures in
    let a = c.args in
    (begin.size, ap (λ l. map_in a.scale a.movie a.total (edits_in l) a.t.0) begin.rest ∙ media_listed _ _ _ a.elst.now a.t c.if-elst-eq0.false)

pub shown-requires-then-rest-d : goal.shown-requires-then-rest-d
shown-requires-then-rest-d c = let e = c.edit_at-e in rw (kept e.result.media (omega (arith, e.ensures.1))) e.ensures.1

pub returns-then-rest-d : goal.returns-then-rest-d
returns-then-rest-d c =
    let e = comes c.loop-entry.entry-iterator c.next.new.self c.loop-entry.invariant.0 c.in-Some.entry c.in-Some.ensures.steps in
    let shows : c.loop-entry.rest < c.edit_at-e.result.duration →
    let a = c.args in
    shown_at a.scale a.movie a.total c.loop-entry.rest (start_of c.edit_at-e.result.media) ≡ media_at a.scale a.movie a.total a.elst.now a.t = λ h. sym (map_here _ _ _ _ _ e.long (c.edit_at-e.ensures.0 ∙ entry_edit e) h) ∙ c.loop-entry.invariant.1 in
    let f = rw (kept c.edit_at-e.result.media (omega (arith, c.edit_at-e.ensures.1))) at c.shown-then-rest-d.ensures in
    let a = c.args in
    ◌∙◌ {b = shown_at a.scale a.movie a.total c.loop-entry.rest (start_of c.edit_at-e.result.media)} f (shows c.if-rest-d.true)

pub loop-entry-preserved : goal.loop-entry-preserved
loop-entry-preserved c =
    let e = comes c.loop-entry.entry-iterator c.next.new.self c.loop-entry.invariant.0 c.in-Some.entry c.in-Some.ensures.steps in (
      e.size,
      rw e.rest
          (sym (map_past _ _ _ _ _ e.long (c.edit_at-e.ensures.0 ∙ entry_edit e) c.if-rest-d.false) ∙ c.loop-entry.invariant.1),
    )

pub returns : goal.returns
returns c = let end = none_comes c.loop-entry.entry-iterator c.next.new.self c.loop-entry.invariant.0 c.in-None.ensures.steps in sym (map_end _ _ _ _ _ end) ∙ c.loop-entry.invariant.1
