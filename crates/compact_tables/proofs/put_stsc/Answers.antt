-- `compact_tables::put_stsc` meets its contract: the head, written after the entries, stands before them.
-- Assumes nothing.
use native.Mathlib.Omega.{arith}
use mathlib.Core.Path.{ap, ◌∙◌}
use mathlib.Core.List.{List}
use Prim.Native.Nat.{ℕ, ◌+◌}
use lib.ListN.{length, drop}
use lib.Seq.{sets, length-sets}
use lib.Dec.{lit<}
use Rattle.lists.specs.Entries.{rows_of, entries}
use Rattle.byte_writing.specs.Bytes.{joined}
use Rattle.compact_entries.specs.Entries.{compact_deals}
use Rattle.compact_entries.proofs.Widths.{Wide, rows_wide, deals_wide}
use Rattle.compact_tables.proofs.Tables.{table_length, table_written, entries_in}
use Rattle.compact_tables.proofs.put_stsc.Goals as goal

pub put_deals-end-requires : goal.put_deals-end-requires
put_deals-end-requires c =
    let a = c.args in
    let e = ap (λ x. length (joined (compact_deals x))) (entries_in 16 12 a.atom.now _ c.after.ensures) in
    omega (arith, e, c.requires.1, table_length a.atom.now (compact_deals (entries 16 12 a.atom.now)) c.requires.0)

pub put_head-requires : goal.put_head-requires
put_head-requires c =
    let a = c.args in
    let q = ap length c.put_deals-end.ensures.1 ∙ length-sets a.out.now (a.at + 16) (joined (compact_deals (rows_of 12 c.after.result.now))) in
    (c.requires.0, omega (arith, q, c.requires.1, table_length a.atom.now (compact_deals (entries 16 12 a.atom.now)) c.requires.0))

wide_in : (x : List ℕ) → Wide 12 (entries 16 12 x)
unfolding entries
wide_in x = rows_wide 12 (drop 16 x)

pub returns : goal.returns
returns c =
    let a = c.args in
    let x = a.atom.now in
    let es = compact_deals (entries 16 12 x) in
    let i = ap compact_deals (entries_in 16 12 x _ c.after.ensures) in
    let e = c.put_deals-end.ensures in
    table_written 12 (lit< tt) x es c.requires.0 (deals_wide _ (wide_in x)) a.at _ (e.0 ∙ ap (λ l. a.at + 16 + length (joined l)) i) a.out.now _ _
    (e.1 ∙ ap (λ l. sets a.out.now (a.at + 16) (joined l)) i) c.put_head.ensures
