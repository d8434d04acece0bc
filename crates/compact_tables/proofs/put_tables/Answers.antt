-- `compact_tables::put_tables` meets its contract: at each turn the rest of the body gives what is still to be written, the free atom last.
-- Assumes nothing.
use native.Mathlib.Omega.{arith}
use mathlib.Core.Path.{refl, sym, ap, ◌∙◌}
use mathlib.Core.List.{[]}
use Prim.Native.Nat.{◌-◌}
use lib.ListN.{length, take, drop, length-drop, length-append}
use lib.Seq.{length-sets, length-take-le}
use Rattle.bigendian.proofs.Parts.{rest}
use Rattle.compact_tables.specs.Tables.{free_atom, compact_table, compact_tables}
use Rattle.byte_writing.proofs.Writing.{storing_start, storing_end, storing_same, storing_room, storing_next}
use Rattle.compact_tables.proofs.Tables.{next_table, left_over, tables_rest, tables_none, tables_next, tables_are, free_none}
use Rattle.compact_tables.proofs.put_tables.Goals as goal

pub loop-t-init : goal.loop-t-init
loop-t-init c =
    let a = c.args in
    let s = a.body.now in
    (storing_same (storing_start a.out.now a.at (compact_tables s) c.requires.1) _ (tables_are s), refl, omega arith)

pub size_in-n-requires : goal.size_in-n-requires
size_in-n-requires c = tt

pub overflow_sub-used : goal.overflow_sub-used
overflow_sub-used c =
    let l = c.loop-t in
    omega (arith, l.invariant.1, ap length (tables_none l.t.now _ c.size_in-n.ensures.value c.if-n-lt8.true))

pub shape_of-out-then-body-used : goal.shape_of-out-then-body-used
shape_of-out-then-body-used c = c.loop-t.invariant.0.same

pub returns-then-body-used : goal.returns-then-body-used
returns-then-body-used c =
    let l = c.loop-t in
    let n = tables_none l.t.now _ c.size_in-n.ensures.value c.if-n-lt8.true in
    let f = free_none (length c.args.body.now - length (tables_rest c.args.body.now)) (omega (arith, l.invariant.1, ap length n, c.if-body-used.true)) in
    storing_end l.invariant.0 (rw n f)

pub put_free-requires : goal.put_free-requires
put_free-requires c =
    let l = c.loop-t in
    let n = tables_none l.t.now _ c.size_in-n.ensures.value c.if-n-lt8.true in
    let m = length c.args.body.now in
    let u = length (tables_rest c.args.body.now) in
    storing_room l.invariant.0 (free_atom (m - (l.k - c.args.at))) [] (left_over l.t.now m u l.k c.args.at n l.invariant.1)

pub shape_of-out-then-n-lt8 : goal.shape_of-out-then-n-lt8
shape_of-out-then-n-lt8 c = ap length c.put_free.ensures.1 ∙ length-sets c.loop-t.out _ (free_atom _) ∙ c.loop-t.invariant.0.same

pub returns-then-n-lt8 : goal.returns-then-n-lt8
returns-then-n-lt8 c =
    let l = c.loop-t in
    let n = tables_none l.t.now _ c.size_in-n.ensures.value c.if-n-lt8.true in
    let a = c.args in
    let m = length a.body.now in
    let u = length (tables_rest a.body.now) in
    storing_end (storing_next l.invariant.0 (free_atom (m - (l.k - a.at))) [] (left_over l.t.now m u l.k a.at n l.invariant.1) _ _ c.put_free.ensures.0 c.put_free.ensures.1) refl

pub slice_bounds-put_table-end : goal.slice_bounds-put_table-end
slice_bounds-put_table-end c = sym (length-take-le _ _ c.size_in-n.ensures.upper_bound)

pub put_table-k-requires : goal.put_table-k-requires
put_table-k-requires c =
    let l = c.loop-t in
    let t = l.t.now in
    let z = c.size_in-n.result in (
      omega (arith, length-take-le z t c.size_in-n.ensures.upper_bound, c.size_in-n.ensures.upper_bound, l.invariant.2, c.requires.0),
      storing_room l.invariant.0 (compact_table (take z t)) _ (next_table t z c.size_in-n.ensures.value c.if-n-lt8.false _),
    )

pub loop-t-smaller : goal.loop-t-smaller
loop-t-smaller c =
    let t = c.loop-t.t.now in
    let z = c.size_in-n.result in
    rw (rest z t) (omega (arith, length-drop z t, c.size_in-n.ensures.upper_bound, c.if-n-lt8.false))

pub loop-t-preserved : goal.loop-t-preserved
loop-t-preserved c =
    let l = c.loop-t in
    let t = l.t.now in
    let z = c.size_in-n.result in
    let e = c.size_in-n.ensures.value in
    let h = c.if-n-lt8.false in
    let q = c.put_table-k.ensures in
    let n = ap length (tables_next t z e h) ∙ length-append (compact_table (take z t)) (tables_rest (drop z t)) in
    rw (rest z t) (
      storing_next l.invariant.0 (compact_table (take z t)) _ (next_table t z e h _) _ _ q.0 q.1,
      omega (arith, l.invariant.1, n, q.0),
      omega (arith, l.invariant.2, length-drop z t),
    )
