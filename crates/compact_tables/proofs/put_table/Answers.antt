-- `compact_tables::put_table` meets its contract, kind by kind.
-- Assumes nothing.
use native.Mathlib.Omega.{arith}
use mathlib.Core.Path.{ap}
use lib.ListN.{length}
use Rattle.compact_tables.proofs.Tables.{table_short, table_runs, table_deals, table_other}
use Rattle.compact_tables.proofs.put_table.Goals as goal

pub put_bytes-requires : goal.put_bytes-requires
put_bytes-requires c = let a = c.args in omega (arith, c.requires.1, ap length (table_short a.atom.now c.if-atom-lt16.true))

pub returns-then-atom-lt16 : goal.returns-then-atom-lt16
returns-then-atom-lt16 c = rw (table_short c.args.atom.now c.if-atom-lt16.true) c.put_bytes.ensures

pub put_stts-requires : goal.put_stts-requires
put_stts-requires c = (c.if-atom-lt16.false, c.requires.0, rw (← (table_runs c.args.atom.now c.if-atom-lt16.false _ c.u32_at-kind.ensures c.if-kind-eq-STTS.true)) c.requires.1)

pub returns-then-kind-eq-STTS : goal.returns-then-kind-eq-STTS
returns-then-kind-eq-STTS c = rw (table_runs c.args.atom.now c.if-atom-lt16.false _ c.u32_at-kind.ensures c.if-kind-eq-STTS.true) c.put_stts.ensures

pub put_stsc-requires : goal.put_stsc-requires
put_stsc-requires c = (c.if-atom-lt16.false, rw (← (table_deals c.args.atom.now c.if-atom-lt16.false _ c.u32_at-kind.ensures c.if-kind-eq-STTS.false c.if-kind-eq-STSC.true)) c.requires.1)

pub returns-then-kind-eq-STSC : goal.returns-then-kind-eq-STSC
returns-then-kind-eq-STSC c = rw (table_deals c.args.atom.now c.if-atom-lt16.false _ c.u32_at-kind.ensures c.if-kind-eq-STTS.false c.if-kind-eq-STSC.true) c.put_stsc.ensures

pub put_bytes-requires-2 : goal.put_bytes-requires-2
put_bytes-requires-2 c = omega (arith, c.requires.1, ap length (table_other c.args.atom.now c.if-atom-lt16.false _ c.u32_at-kind.ensures c.if-kind-eq-STTS.false c.if-kind-eq-STSC.false))

pub returns : goal.returns
returns c = rw (table_other c.args.atom.now c.if-atom-lt16.false _ c.u32_at-kind.ensures c.if-kind-eq-STTS.false c.if-kind-eq-STSC.false) c.put_bytes-2.ensures
