-- `quick_numbers::quick_at` meets its contract: a law for each way out, by the bytes read so far.
-- Assumes nothing.
use mathlib.Core.Path.{sym}
use Prim.Native.Nat.{◌+◌, ◌≤◌}
use native.Mathlib.Omega.{arith}
use lib.ListN.{length}
use Rattle.quick_numbers.proofs.Quick.{quick_few, quick_one, quick_two, quick_two_padded, quick_three, quick_three_padded, quick_four, quick_four_padded, quick_long}
use Rattle.quick_numbers.proofs.quick_at.Goals as goal
use Rattle.quick_numbers.proofs.quick_at.Goals.{then-bytes-lt4-via-then-bytes-lt4, then-bytes-lt4-via-else-bytes-lt4+then-bytes-at}
use Rattle.quick_numbers.proofs.quick_at.Goals.{then-b3-eq0-via-then-b3-eq0, then-b3-eq0-via-else-b3-eq0+then-b3-ge128}

pub returns-then-bytes-lt4 : goal.returns-then-bytes-lt4
returns-then-bytes-lt4 c = elim c.then-bytes-lt4.branch [
  | then-bytes-lt4-via-then-bytes-lt4 w ↦ sym (quick_few _ _ (omega (arith, w.if-bytes-lt4.true)))
  | then-bytes-lt4-via-else-bytes-lt4+then-bytes-at w ↦ sym (quick_few _ _ (omega (arith, w.if-bytes-at.true, w.if-bytes-lt4.false)))
]

pub returns-then-b0-lt128 : goal.returns-then-b0-lt128
returns-then-b0-lt128 c =
    let four : c.args.at + 4 ≤ length c.args.bytes.now = omega (arith, c.if-bytes-at.false, c.if-bytes-lt4.false) in
    sym (quick_one _ _ four _ c.byte_at-b0.ensures.0 c.if-b0-lt128.true)

pub returns-then-b1-eq0 : goal.returns-then-b1-eq0
returns-then-b1-eq0 c =
    let four : c.args.at + 4 ≤ length c.args.bytes.now = omega (arith, c.if-bytes-at.false, c.if-bytes-lt4.false) in
    sym (quick_two_padded _ _ four _ _ c.byte_at-b0.ensures.0 c.if-b0-lt128.false c.byte_at-b1.ensures.0 c.if-b1-eq0.true)

pub returns-then-b1-lt128 : goal.returns-then-b1-lt128
returns-then-b1-lt128 c =
    let four : c.args.at + 4 ≤ length c.args.bytes.now = omega (arith, c.if-bytes-at.false, c.if-bytes-lt4.false) in
    sym (quick_two _ _ four _ _ c.byte_at-b0.ensures.0 c.if-b0-lt128.false c.byte_at-b1.ensures.0 c.if-b1-lt128.true c.if-b1-eq0.false)

pub returns-then-b2-eq0 : goal.returns-then-b2-eq0
returns-then-b2-eq0 c =
    let four : c.args.at + 4 ≤ length c.args.bytes.now = omega (arith, c.if-bytes-at.false, c.if-bytes-lt4.false) in
    sym (quick_three_padded _ _ four _ _ c.byte_at-b0.ensures.0 c.if-b0-lt128.false c.byte_at-b1.ensures.0 _ c.if-b1-lt128.false c.byte_at-b2.ensures.0 c.if-b2-eq0.true)

pub returns-then-b2-lt128 : goal.returns-then-b2-lt128
returns-then-b2-lt128 c =
    let four : c.args.at + 4 ≤ length c.args.bytes.now = omega (arith, c.if-bytes-at.false, c.if-bytes-lt4.false) in
    sym (quick_three _ _ four _ _ c.byte_at-b0.ensures.0 c.if-b0-lt128.false c.byte_at-b1.ensures.0 _ c.if-b1-lt128.false c.byte_at-b2.ensures.0 c.if-b2-lt128.true c.if-b2-eq0.false)

pub returns-then-b3-eq0 : goal.returns-then-b3-eq0
returns-then-b3-eq0 c =
    let four : c.args.at + 4 ≤ length c.args.bytes.now = omega (arith, c.if-bytes-at.false, c.if-bytes-lt4.false) in
    elim c.then-b3-eq0.branch [
      | then-b3-eq0-via-then-b3-eq0 w ↦ sym (quick_four_padded _ _ four _ _ c.byte_at-b0.ensures.0 c.if-b0-lt128.false c.byte_at-b1.ensures.0 _ c.if-b1-lt128.false c.byte_at-b2.ensures.0 _ c.if-b2-lt128.false c.byte_at-b3.ensures.0 w.if-b3-eq0.true)
      | then-b3-eq0-via-else-b3-eq0+then-b3-ge128 w ↦ sym (quick_long _ _ four _ _ c.byte_at-b0.ensures.0 c.if-b0-lt128.false c.byte_at-b1.ensures.0 _ c.if-b1-lt128.false c.byte_at-b2.ensures.0 _ c.if-b2-lt128.false c.byte_at-b3.ensures.0 w.if-b3-ge128.true)
    ]

pub returns : goal.returns
returns c =
    let four : c.args.at + 4 ≤ length c.args.bytes.now = omega (arith, c.if-bytes-at.false, c.if-bytes-lt4.false) in
    sym (quick_four _ _ four _ _ c.byte_at-b0.ensures.0 c.if-b0-lt128.false c.byte_at-b1.ensures.0 _ c.if-b1-lt128.false c.byte_at-b2.ensures.0 _ c.if-b2-lt128.false c.byte_at-b3.ensures.0 c.if-b3-ge128.false c.if-b3-eq0.false)
