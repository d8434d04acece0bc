-- `runs::look_up` meets its contract: the walk over the durations stands before what the runs not yet read expand to, the entries passed are counted,
-- and each byte not yet read leaves room for 4,294,967,295 samples.
-- Assumes nothing.
use Rattle.std.specs.Slice.Iter.{chunks_exact_rest}
use lib.Dec.{lit≤}
use native.Mathlib.Omega.{arith}
use native.Mathlib.Nat.{div-le_self, mod-le}
use lib.ListN.{length-drop, drop}
use Rattle.bigendian.proofs.Entries.{begins, comes, none_comes, entry_u32}
use mathlib.Core.List.{◌∷◌}
use mathlib.Core.Path.{◌≡◌, sym, ◌∙◌}
use Rattle.lists.specs.Lists.{Run}
use Rattle.lists.proofs.Laws.{walk_start, walk_past, wide_mul, pos_of_lt_mul}
use Rattle.runs.specs.Runs.{runs_in}
use Rattle.runs.proofs.Turns.{runs-in, runs_none, runs_next}
use Rattle.runs.proofs.Entries.{passed_none, passed_next, looked_in, looked_past}
use Rattle.runs.proofs.look_up.Goals as goal

pub loop-entry-init : goal.loop-entry-init
loop-entry-init c =
    let begin = begins c.into_iter-entry-iterator.ensures.into_iter_gives c.chunks_exact-entry-items.ensures.rest c.chunks_exact-entry-items.ensures.size c.after.ensures in
    let a = c.args in
    rw (begin.rest, ← runs-in a.stts.now)
    (begin.size, omega (arith, length-drop 16 a.stts.now), walk_start _ _, omega arith, omega (arith, length-drop 16 a.stts.now), passed_none _)

pub overflow_mul-span : goal.overflow_mul-span
overflow_mul-span c = record { fits = wide_mul (omega arith) (omega arith) }

pub nonzero_div-result : goal.nonzero_div-result
nonzero_div-result c = pos_of_lt_mul _ _ _ c.if-rest-span.true

pub overflow_add-result : goal.overflow_add-result
overflow_add-result c = omega (arith, div-le_self c.loop-entry.rest c.u32_at-duration.result)

pub overflow_add-result-then-rest-span : goal.overflow_add-result-then-rest-span
overflow_add-result-then-rest-span c = omega arith

pub nonzero_rem-result : goal.nonzero_rem-result
nonzero_rem-result c = pos_of_lt_mul _ _ _ c.if-rest-span.true

pub overflow_sub-result : goal.overflow_sub-result
overflow_sub-result c = omega (arith, mod-le c.loop-entry.rest c.u32_at-duration.result)

pub returns-then-rest-span : goal.returns-then-rest-span
returns-then-rest-span c =
    let e = comes c.loop-entry.entry-iterator c.next.new.self c.loop-entry.invariant.0 c.in-Some.entry c.in-Some.ensures.steps in
    let read : Run = record { count = c.u32_at-count.result; value = c.u32_at-duration.result } in
    let ahead : let s = (chunks_exact_rest c.loop-entry.entry-iterator) in
    runs_in s ≡ read ∷ runs_in (drop 8 s) = runs_next (chunks_exact_rest c.loop-entry.entry-iterator) e.long
    ∙ (λ i. record { count = sym (c.u32_at-count.ensures ∙ entry_u32 e 0 (lit≤ tt)) i; value = sym (c.u32_at-duration.ensures ∙ entry_u32 e 4 (lit≤ tt)) i } ∷ runs_in (drop 8 (chunks_exact_rest c.loop-entry.entry-iterator))) in
    let i = c.loop-entry.invariant in
    looked_in (rw (ahead) at i.5) (rw (ahead) at i.2) c.if-rest-span.true

pub overflow_add-passed : goal.overflow_add-passed
overflow_add-passed c = let e = comes c.loop-entry.entry-iterator c.next.new.self c.loop-entry.invariant.0 c.in-Some.entry c.in-Some.ensures.steps in omega (arith, e.long)

pub overflow_add-entries : goal.overflow_add-entries
overflow_add-entries c = let e = comes c.loop-entry.entry-iterator c.next.new.self c.loop-entry.invariant.0 c.in-Some.entry c.in-Some.ensures.steps in omega (arith, e.long)

pub loop-entry-preserved : goal.loop-entry-preserved
loop-entry-preserved c =
    let e = comes c.loop-entry.entry-iterator c.next.new.self c.loop-entry.invariant.0 c.in-Some.entry c.in-Some.ensures.steps in
    let read : Run = record { count = c.u32_at-count.result; value = c.u32_at-duration.result } in
    let ahead : let s = (chunks_exact_rest c.loop-entry.entry-iterator) in
    runs_in s ≡ read ∷ runs_in (drop 8 s) = runs_next (chunks_exact_rest c.loop-entry.entry-iterator) e.long
    ∙ (λ i. record { count = sym (c.u32_at-count.ensures ∙ entry_u32 e 0 (lit≤ tt)) i; value = sym (c.u32_at-duration.ensures ∙ entry_u32 e 4 (lit≤ tt)) i } ∷ runs_in (drop 8 (chunks_exact_rest c.loop-entry.entry-iterator))) in
    let i = c.loop-entry.invariant in
    rw e.rest
    (e.size, simp length-drop (omega arith), walk_past (record { walk = rw (ahead) at i.2 }) c.if-rest-span.false, omega arith, simp length-drop (omega (arith, e.long)), passed_next (rw (ahead) at i.5))

pub returns : goal.returns
returns c = let end = none_comes c.loop-entry.entry-iterator c.next.new.self c.loop-entry.invariant.0 c.in-None.ensures.steps in looked_past _ (rw (runs_none _ end) at c.loop-entry.invariant.2)
