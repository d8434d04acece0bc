-- `compact_tables::put_head` meets its contract: three parts, one after the other.
-- Assumes nothing.
use native.Mathlib.Omega.{arith}
use mathlib.Core.Path.{refl, ap, ◌∙◌}
use mathlib.Core.List.{◌++◌}
use Prim.Native.Nat.{◌+◌}
use lib.ListN.{length, take, drop}
use lib.Seq.{sets, length-sets}
use Rattle.byte_writing.specs.Bytes.{be32}
use Rattle.compact_tables.specs.Tables.{head_bytes}
use Rattle.byte_writing.proofs.Writing.{two_writes, be32_length}
use Rattle.compact_tables.proofs.Tables.{flags_length}
use Rattle.compact_tables.proofs.put_head.Goals as goal

pub put_bytes-requires : goal.put_bytes-requires
put_bytes-requires c =
    let a = c.args in
    let q = ap length c.put_u32.ensures ∙ length-sets a.out.now a.at (be32 a.size) in
    omega (arith, q, ap length (c.front.ensures ∙ ap (take 8) c.after.ensures), flags_length a.atom.now c.requires.0, c.requires.1)

pub returns : goal.returns
unfolding head_bytes
returns c =
    let a = c.args in
    let v = take 8 (drop 4 a.atom.now) in
    let l = flags_length a.atom.now c.requires.0 in
    let e = c.put_bytes.ensures.1 ∙ ap (λ x. sets c.put_u32.new.out (a.at + 4) x) (c.front.ensures ∙ ap (take 8) c.after.ensures) in
    let f = two_writes v (be32 a.count) c.put_u32.new.out _ _ (a.at + 4) (a.at + 12) (a.at + 12 + length (be32 a.count)) (omega (arith, l)) e refl c.put_u32-2.ensures in
    (two_writes (be32 a.size) (v ++ be32 a.count) a.out.now _ _ a.at (a.at + 4) _ (omega (arith, be32_length a.size)) c.put_u32.ensures refl f.1).1
