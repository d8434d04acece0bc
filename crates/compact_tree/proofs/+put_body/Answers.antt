-- `compact_tree::put_body` meets its contract. The level falls with each call; at each turn of the loop the rest of the body gives what is still to
-- be written.
-- Assumes nothing.
use borrow.Author.Tests.{ne_eqb}
use native.Mathlib.Omega.{arith}
use native.Mathlib.Nat.{pos_of_ne-zero}
use Prim.Native.Nat.{◌-◌}
use mathlib.Core.Path.{refl, ap, ◌∙◌}
use lib.ListN.{length, take, length-drop, length-append}
use lib.Seq.{length-take-le, length-sets}
use Rattle.bigendian.proofs.Parts.{rest}
use Rattle.atoms.specs.Atoms.{body_of}
use Rattle.compact_tree.specs.Tree.{compact_body}
use Rattle.byte_writing.proofs.Writing.{storing_start, storing_end, storing_same, storing_room, storing_next, two_writes}
use Rattle.compact_tree.proofs.Putting.{compact_atom, rest_of, body_zero, body_tables, body_open, rest_none, rest_next, atom_container, atom_leaf, body_shorter}
use Rattle.compact_tree.proofs.+put_body.Goals.{then-is_container, else-is_container}
use Rattle.compact_tree.proofs.+put_body.Goals as goal

pub put_bytes-requires : goal.put_bytes-requires
put_bytes-requires t c =
    let a = c.args in
    omega (arith, c.requires.1, ap length (body_zero a.level a.parent a.body.now c.if-level-eq0.true))

pub returns-then-level-eq0 : goal.returns-then-level-eq0
returns-then-level-eq0 t c =
    let a = c.args in
    rw (body_zero a.level a.parent a.body.now c.if-level-eq0.true) c.put_bytes.ensures

pub put_tables-requires : goal.put_tables-requires
put_tables-requires t c =
    let a = c.args in
    (c.requires.0, rw (← body_tables a.level a.parent a.body.now (pos_of_ne-zero c.if-level-eq0.false) c.if-parent-eq-STBL.true) c.requires.1)

pub returns-then-parent-eq-STBL : goal.returns-then-parent-eq-STBL
returns-then-parent-eq-STBL t c =
    let a = c.args in
    rw (body_tables a.level a.parent a.body.now (pos_of_ne-zero c.if-level-eq0.false) c.if-parent-eq-STBL.true) c.put_tables.ensures

pub loop-t-init : goal.loop-t-init
loop-t-init t c =
    let a = c.args in
    let z = body_open a.level a.parent a.body.now (pos_of_ne-zero c.if-level-eq0.false) (ne_eqb _ _ c.if-parent-eq-STBL.false) in
    record { stores = storing_same (storing_start a.out.now a.at _ c.requires.1) _ z; within = omega arith }

pub returns-then-n-lt8 : goal.returns-then-n-lt8
returns-then-n-lt8 t c =
    let l = c.loop-t in
    let a = c.args in
    storing_end l.invariant.stores (rest_none (a.level - 1) a.parent l.t.now _ c.size_in-n.ensures.value c.if-n-lt8.true)

pub put_bytes-b-requires : goal.put_bytes-b-requires
put_bytes-b-requires t c =
    let l = c.loop-t in
    let a = c.args in
    let s = l.t.now in
    let z = c.size_in-n.result in
    let n = rest_next (a.level - 1) a.parent s z c.size_in-n.ensures.value c.if-n-lt8.false in
    let g = atom_container (a.level - 1) a.parent _ (take z s) _ c.u32_at-kind.ensures c.is_container.ensures c.if-is_container.true _ (body_of (take z s)) c.header_of.ensures refl in
    omega (arith, storing_room l.invariant.stores (compact_atom (a.level - 1) a.parent (take z s)) _ n, ap length g, length-append c.header_of.result.now (compact_body (a.level - 1) c.u32_at-kind.result (body_of (take z s))))

pub put_body-k-requires : goal.put_body-k-requires
put_body-k-requires t c =
    let l = c.loop-t in
    let a = c.args in
    let s = l.t.now in
    let z = c.size_in-n.result in
    let n = rest_next (a.level - 1) a.parent s z c.size_in-n.ensures.value c.if-n-lt8.false in
    let x = c.header_of.result.now in
    let y = compact_body (a.level - 1) c.u32_at-kind.result c.body_of.result.now in
    let g = atom_container (a.level - 1) a.parent _ (take z s) _ c.u32_at-kind.ensures c.is_container.ensures c.if-is_container.true _ _ c.header_of.ensures c.body_of.ensures in
    let q = ap length c.put_bytes-b.ensures.1 ∙ length-sets l.out l.k x in (
      omega (arith, pos_of_ne-zero c.if-level-eq0.false, c.decreases),
      (
        omega (arith, ap length c.body_of.ensures, body_shorter (take z s), length-take-le z s c.size_in-n.ensures.upper_bound, c.size_in-n.ensures.upper_bound, l.invariant.within, c.requires.0),
        omega (arith, q, c.put_bytes-b.ensures.0, storing_room l.invariant.stores (compact_atom (a.level - 1) a.parent (take z s)) _ n, ap length g, length-append x y),
      ),
    )

pub put_bytes-k-requires : goal.put_bytes-k-requires
put_bytes-k-requires t c =
    let l = c.loop-t in
    let a = c.args in
    let s = l.t.now in
    let z = c.size_in-n.result in
    let n = rest_next (a.level - 1) a.parent s z c.size_in-n.ensures.value c.if-n-lt8.false in
    let g = atom_leaf (a.level - 1) a.parent _ (take z s) _ c.u32_at-kind.ensures c.is_container.ensures c.if-is_container.false in
    rw (← g) (storing_room l.invariant.stores (compact_atom (a.level - 1) a.parent (take z s)) _ n)

pub loop-t-smaller : goal.loop-t-smaller
loop-t-smaller t c =
    let s = c.loop-t.t.now in
    let z = c.size_in-n.result in
    rw (rest z s) (omega (arith, length-drop z s, c.size_in-n.ensures.upper_bound, c.if-n-lt8.false))

pub loop-t-preserved : goal.loop-t-preserved
loop-t-preserved t c =
    let l = c.loop-t in
    let a = c.args in
    let s = l.t.now in
    let z = c.size_in-n.result in
    let n = rest_next (a.level - 1) a.parent s z c.size_in-n.ensures.value c.if-n-lt8.false in
    let u = c.u32_at-kind.ensures in
    let i = c.is_container.ensures in
    let inv = l.invariant.stores in
    rw (rest z s) (record {
      stores = elim c.if-is_container.branch [
        | then-is_container w ↦
            let g = atom_container (a.level - 1) a.parent _ (take z s) _ u i w.if-is_container.true _ _ w.header_of.ensures w.body_of.ensures in
            let d = two_writes w.header_of.result.now (compact_body (a.level - 1) c.u32_at-kind.result w.body_of.result.now) l.out _ _ l.k _ _ w.put_bytes-b.ensures.0 w.put_bytes-b.ensures.1 w.put_body-k.ensures.0 w.put_body-k.ensures.1 in
            storing_next inv (compact_atom (a.level - 1) a.parent (take z s)) _ n _ _ (w.k-is ∙ rw g d.0) (w.out-is ∙ rw g d.1)
        | else-is_container w ↦
            let g = atom_leaf (a.level - 1) a.parent _ (take z s) _ u i w.if-is_container.false in
            storing_next inv (compact_atom (a.level - 1) a.parent (take z s)) _ n _ _ (w.k-is ∙ rw g w.put_bytes-k.ensures.0) (w.out-is ∙ rw g w.put_bytes-k.ensures.1)
      ];
      within = omega (arith, length-drop z s, l.invariant.within);
    })
