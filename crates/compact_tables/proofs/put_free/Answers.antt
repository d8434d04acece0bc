-- `compact_tables::put_free` meets its contract: no atom, or its size, its type and zeros.
-- Assumes nothing.
use native.Mathlib.Omega.{arith}
use mathlib.Core.Path.{refl, ap}
use mathlib.Core.List.{◌++◌}
use Prim.Native.Nat.{ℕ, ◌+◌, ◌-◌}
use lib.ListN.{length, replicate, length-replicate}
use lib.Seq.{length-sets}
use Rattle.byte_writing.specs.Bytes.{be32}
use Rattle.compact_tables.specs.Tables.{free}
use Rattle.byte_writing.proofs.Writing.{two_writes, be32_length}
use Rattle.compact_tables.proofs.Tables.{free_none, free_some, free_length}
use Rattle.compact_tables.proofs.put_free.Goals as goal

pub returns-then-n-lt8 : goal.returns-then-n-lt8
returns-then-n-lt8 c = rw (free_none c.args.n c.if-n-lt8.true) (omega arith, refl)

pub put_u32-requires : goal.put_u32-requires
put_u32-requires c = omega (arith, c.requires, free_length c.args.n c.if-n-lt8.false, c.if-n-lt8.false)

pub put_u32-requires-2 : goal.put_u32-requires-2
put_u32-requires-2 c =
    let a = c.args in
    omega (arith, c.requires, free_length a.n c.if-n-lt8.false, c.if-n-lt8.false, ap length c.put_u32.ensures, length-sets a.out.now a.at (be32 a.n))

pub put_zeros-requires : goal.put_zeros-requires
put_zeros-requires c =
    let a = c.args in
    omega (
      arith,
      c.requires,
      free_length a.n c.if-n-lt8.false,
      c.if-n-lt8.false,
      ap length c.put_u32.ensures,
      length-sets a.out.now a.at (be32 a.n),
      ap length c.put_u32-2.ensures,
      length-sets c.put_u32.new.out (a.at + 4) (be32 free),
    )

pub returns : goal.returns
returns c =
    let a = c.args in
    let e = c.put_zeros.ensures in
    let r = replicate {A = ℕ} (a.n - 8) 0 in
    let f = two_writes (be32 free) r c.put_u32.new.out c.put_u32-2.new.out c.put_zeros.new.out (a.at + 4) (a.at + 8) c.put_zeros.result (omega (arith, be32_length free)) c.put_u32-2.ensures (rw (length-replicate {A = ℕ} (a.n - 8) 0) e.0) e.1 in
    rw (free_some a.n c.if-n-lt8.false)
    (two_writes (be32 a.n) (be32 free ++ r) a.out.now _ _ a.at (a.at + 4) _ (omega (arith, be32_length a.n)) c.put_u32.ensures f.0 f.1)
