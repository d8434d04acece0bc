-- `compaction::compact_moov` meets its contract: refused, no room, or the header and then the body.
-- Assumes nothing.
use native.Mathlib.Omega.{arith}
use mathlib.Core.Path.{refl, ap, ◌∙◌}
use Prim.Native.Nat.{◌+◌}
use lib.ListN.{length, take}
use lib.Seq.{sets, length-sets}
use Rattle.atoms.specs.Kinds.{moov}
use Rattle.atoms.specs.Atoms.{header_of, body_of}
use Rattle.compact_tree.specs.Tree.{compact_body}
use Rattle.refusals.proofs.Numbers.{passed}
use Rattle.movie.proofs.Refused.{code_err, code_ok}
use Rattle.compaction.proofs.Answers as answers
use Rattle.compaction.proofs.compact_moov.Goals as goal

pub returns-in_err-refusal : goal.returns-in_err-refusal
returns-in_err-refusal c = rw (passed c.from_residual.result _ c.from_residual.ensures.1) (answers.refused_film _ _ _ _ (code_err _ _ _ c.refusal.ensures c.in_err-refusal.was))

pub returns-then-room-atom : goal.returns-then-room-atom
returns-then-room-atom c =
    let q = (answers.moov_part c.args.input.now _ _ _ refl c.part_of-atom.ensures c.child_part.ensures) in
    answers.short_room _ _ _ (code_ok _ _ _ c.refusal.ensures c.in_ok-refusal.was) (rw q at c.if-room-atom.true)

pub put_bytes-at-requires : goal.put_bytes-at-requires
put_bytes-at-requires c =
    let q = (answers.moov_part c.args.input.now _ _ _ refl c.part_of-atom.ensures c.child_part.ensures) in
    let h = answers.parts_fit _ _ c.args.room.now (code_ok _ _ _ c.refusal.ensures c.in_ok-refusal.was) (rw q at c.if-room-atom.false) in
    omega (arith, h.0, ap length c.header_of.ensures, ap (λ a. length (take (header_of a) a)) q)

pub put_body-requires : goal.put_body-requires
put_body-requires c =
    let q = (answers.moov_part c.args.input.now _ _ _ refl c.part_of-atom.ensures c.child_part.ensures) in
    let a = c.args in
    let h = answers.parts_fit _ _ a.room.now (code_ok _ _ _ c.refusal.ensures c.in_ok-refusal.was) (rw q at c.if-room-atom.false) in
    let x = c.header_of.ensures ∙ ap (λ a. take (header_of a) a) q in
    let y = c.body_of.ensures ∙ ap body_of q in
    let o = ap length c.put_bytes-at.ensures.1 ∙ length-sets a.room.now 0 c.header_of.result.now in (
      omega (arith, answers.body_low _ _ a.room.now (code_ok _ _ _ c.refusal.ensures c.in_ok-refusal.was), ap length y),
      omega (arith, h.1, o, c.put_bytes-at.ensures.0, ap length x, ap (λ b. length (compact_body 5 moov b)) y),
    )

pub returns : goal.returns
returns c =
    let q = (answers.moov_part c.args.input.now _ _ _ refl c.part_of-atom.ensures c.child_part.ensures) in
    let a = c.args in
    let x = c.header_of.ensures ∙ ap (λ a. take (header_of a) a) q in
    let y = c.body_of.ensures ∙ ap body_of q in
    let f = c.put_bytes-at.ensures in
    let g = c.put_body.ensures in
    answers.written _ _ a.room.now (code_ok _ _ _ c.refusal.ensures c.in_ok-refusal.was) (rw q at c.if-room-atom.false) c.put_bytes-at.result _ c.put_bytes-at.new.out _
    (f.0 ∙ ap (λ l. 0 + length l) x) (f.1 ∙ ap (λ l. sets a.room.now 0 l) x)
    (g.0 ∙ ap (λ b. c.put_bytes-at.result + length (compact_body 5 moov b)) y) (g.1 ∙ ap (λ b. sets c.put_bytes-at.new.out c.put_bytes-at.result (compact_body 5 moov b)) y)
