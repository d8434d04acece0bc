-- `compact_entries::put_run` meets its contract: the count, then the four bytes of the duration.
-- Assumes nothing.
use native.Mathlib.Omega.{arith}
use mathlib.Core.Path.{ap, ◌∙◌}
use Prim.Native.Nat.{◌+◌}
use lib.ListN.{length, take, drop}
use lib.Seq.{sets, length-sets}
use Rattle.byte_writing.specs.Bytes.{be32}
use Rattle.compact_entries.specs.Entries.{with_count}
use Rattle.byte_writing.proofs.Writing.{two_writes, be32_length}
use Rattle.compact_entries.proofs.Merging.{count_parts}
use Rattle.compact_entries.proofs.put_run.Goals as goal

pub put_u32-requires : goal.put_u32-requires
put_u32-requires c =
    let a = c.args in
    omega (arith, c.requires, count_parts a.count a.entry.now)

pub put_bytes-requires : goal.put_bytes-requires
put_bytes-requires c =
    let a = c.args in
    let q = ap length c.put_u32.ensures ∙ length-sets a.out.now a.at (be32 a.count) in
    let r = ap length (c.front.ensures ∙ ap (take 4) c.after.ensures) in
    omega (arith, q, r, c.requires, count_parts a.count a.entry.now)

pub returns : goal.returns
unfolding with_count
returns c =
    let a = c.args in
    let e = c.put_bytes.ensures in
    let v = c.front.ensures ∙ ap (take 4) c.after.ensures in
    two_writes (be32 a.count) (take 4 (drop 4 a.entry.now)) a.out.now _ _ a.at (a.at + 4) _ (omega (arith, be32_length a.count))
    c.put_u32.ensures (e.0 ∙ ap (λ x. a.at + 4 + length x) v) (e.1 ∙ ap (λ x. sets c.put_u32.new.out (a.at + 4) x) v)
