-- `slip_pairs::words_len` meets its contract: the invariant says that what was added and what lies ahead make up the whole.
-- Assumes nothing.
use Prim.Native.Nat.{ℕ}
use mathlib.Core.Path.{ap}
use native.Mathlib.Omega.{arith}
use lib.ListN.{length, length-drop}
use Rattle.bigendian.proofs.Parts.{rest as part-rest}
use Rattle.leb128.specs.Numbers.{groups}
use Rattle.slip_pairs.proofs.Common.{words_turn, words_done}
use Rattle.slip_pairs.proofs.words_len.Goals as goal

pub loop-t-init : goal.loop-t-init
loop-t-init c = omega arith

pub overflow_add-len : goal.overflow_add-len
overflow_add-len c = omega (arith, words_turn c.loop-t.t.now c.loop-t-test.true, c.number_len-len.ensures, ap (λ (x : ℕ). length (groups x)) c.whole32.ensures, c.loop-t.invariant, c.requires)

pub loop-t-smaller : goal.loop-t-smaller
loop-t-smaller c =
    let t = c.loop-t.t.now in
    rw (part-rest 4 t) (omega (arith, length-drop 4 t, c.loop-t-test.true))

pub loop-t-preserved : goal.loop-t-preserved
loop-t-preserved c =
    let t = c.loop-t.t.now in
    rw (part-rest 4 t) (omega (arith, words_turn t c.loop-t-test.true, c.number_len-len.ensures, ap (λ (x : ℕ). length (groups x)) c.whole32.ensures, c.loop-t.invariant))

pub returns : goal.returns
returns c = omega (arith, words_done c.loop-t.t.now c.loop-t-test.false, c.loop-t.invariant)
