-- `tree::check_tree` meets its contract, by induction on the level; the loop's invariant is `Walked`.
-- Assumes nothing.
use native.Mathlib.Omega.{arith}
use native.Mathlib.Nat.{pos_of_ne-zero}
use Prim.Native.Nat.{◌-◌}
use mathlib.Core.Path.{◌≡◌, refl, sym, ap, ◌∙◌}
use lib.ListN.{take, length-drop}
use Rattle.bigendian.proofs.Parts.{rest}
use Rattle.presence.specs.Counts.{with_kind}
use Rattle.tree.specs.Checks.{both_checks}
use Rattle.tree.proofs.Walking.{atom_checks, atom_container, atom_leaf, atom_other, both_assoc, tree_none, walked_start, walked_next, walked_end}
use Rattle.tree.proofs.+check_tree.Goals.{then-is_ruled+then-is_container, then-is_ruled+else-is_container, else-is_ruled}
use Rattle.tree.proofs.+check_tree.Goals as goal

pub returns-then-level-eq0 : goal.returns-then-level-eq0
returns-then-level-eq0 t c =
    let a = c.args in
    c.none_right.ensures ∙ tree_none a.wide a.level a.parent a.body.now c.if-level-eq0.true

pub loop-t-init : goal.loop-t-init
loop-t-init t c =
    let a = c.args in
    walked_start a.wide a.level a.parent a.body.now _ _ c.nothing_counted-counts.ensures c.all_right-found.ensures

pub returns-then-n-lt8 : goal.returns-then-n-lt8
returns-then-n-lt8 t c =
    let l = c.loop-t in
    let a = c.args in
    walked_end a.wide a.level a.parent a.body.now l.t.now l.counts l.found l.invariant _ c.size_in-n.ensures.value _ _ _ c.if-n-lt8.true
    (pos_of_ne-zero c.if-level-eq0.false) c.has_its_atoms.ensures refl c.both_checks.ensures

pub loop-t-smaller : goal.loop-t-smaller
loop-t-smaller t c =
    let r = c.loop-t.t.now in
    let n = c.size_in-n.result in
    rw (rest n r) (omega (arith, length-drop n r))

pub loop-t-preserved : goal.loop-t-preserved
loop-t-preserved t c =
    let l = c.loop-t in
    let a = c.args in
    let z = c.size_in-n.result in
    let u = c.u32_at-kind.ensures in
    -- where the ways meet: the atom is a container that was gone into, another of which a rule speaks, or passed over
    let j : (c.if-is_ruled.counts ≡ with_kind l.counts c.u32_at-kind.result)
    × (c.if-is_ruled.found ≡ both_checks l.found (atom_checks a.wide (a.level - 1) a.parent (take z l.t.now))) =
    elim c.if-is_ruled.branch [
      | then-is_ruled+then-is_container w ↦ (
        w.counts-is ∙ w.with_kind-counts.ensures,
        w.found-is ∙ w.both_checks-found-then-is_container.ensures ∙ ap (λ x. both_checks x w.check_tree.result) w.both_checks-found.ensures
            ∙ both_assoc l.found w.leaf_checks.result w.check_tree.result
            ∙ ap (both_checks l.found) (atom_container a.wide (a.level - 1) a.parent _ _ _ _ _ _ u w.is_container.ensures w.if-is_container.true w.body_of.ensures w.leaf_checks.ensures w.check_tree.ensures),
      )
      | then-is_ruled+else-is_container w ↦ (
        w.counts-is ∙ w.with_kind-counts.ensures,
        w.found-is ∙ w.both_checks-found.ensures ∙ ap (both_checks l.found) (atom_leaf a.wide (a.level - 1) a.parent _ _ _ _ u w.is_container.ensures w.if-is_container.false w.leaf_checks.ensures),
      )
      | else-is_ruled w ↦
          let o = c.is_ruled.ensures w.if-is_ruled.false in
          (w.counts-is ∙ sym (o.uncounted l.counts), w.found-is ∙ atom_other a.wide (a.level - 1) a.parent _ _ l.found u o)
    ] in
    rw (rest z l.t.now)
    (walked_next a.wide a.level a.parent a.body.now l.t.now l.counts l.found l.invariant z c.size_in-n.ensures.value
    _ _ _ c.if-n-lt8.false u j.0 j.1)
