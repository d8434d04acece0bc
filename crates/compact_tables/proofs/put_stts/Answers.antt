-- `compact_tables::put_stts` meets its contract: the head, written after the entries, stands before them.
-- Assumes nothing.
use native.Mathlib.Omega.{arith}
use mathlib.Core.Path.{ap, ◌∙◌}
use mathlib.Core.List.{List}
use Prim.Native.Nat.{ℕ, ◌+◌}
use lib.ListN.{length, drop, length-drop}
use lib.Seq.{sets, length-sets}
use lib.Dec.{lit<}
use Rattle.lists.specs.Entries.{rows_of, entries}
use Rattle.byte_writing.specs.Bytes.{joined}
use Rattle.compact_entries.specs.Entries.{compact_runs}
use Rattle.compact_entries.proofs.Widths.{Wide, rows_wide, runs_wide}
use Rattle.compact_tables.proofs.Tables.{table_length, table_written, entries_in}
use Rattle.compact_tables.proofs.put_stts.Goals as goal

pub put_runs-end-requires : goal.put_runs-end-requires
put_runs-end-requires c =
    let a = c.args in
    let e = ap (λ x. length (joined (compact_runs x))) (entries_in 16 8 a.atom.now _ c.after.ensures) in
    (omega (arith, ap length c.after.ensures, length-drop 16 a.atom.now, c.requires.1), omega (arith, e, c.requires.2, table_length a.atom.now (compact_runs (entries 16 8 a.atom.now)) c.requires.0))

pub put_head-requires : goal.put_head-requires
put_head-requires c =
    let a = c.args in
    let q = ap length c.put_runs-end.ensures.1 ∙ length-sets a.out.now (a.at + 16) (joined (compact_runs (rows_of 8 c.after.result.now))) in
    (c.requires.0, omega (arith, q, c.requires.2, table_length a.atom.now (compact_runs (entries 16 8 a.atom.now)) c.requires.0))

wide_in : (x : List ℕ) → Wide 8 (entries 16 8 x)
unfolding entries
wide_in x = rows_wide 8 (drop 16 x)

pub returns : goal.returns
returns c =
    let a = c.args in
    let x = a.atom.now in
    let es = compact_runs (entries 16 8 x) in
    let i = ap compact_runs (entries_in 16 8 x _ c.after.ensures) in
    let e = c.put_runs-end.ensures in
    table_written 8 (lit< tt) x es c.requires.0 (runs_wide _ (wide_in x)) a.at _ (e.0 ∙ ap (λ l. a.at + 16 + length (joined l)) i) a.out.now _ _
    (e.1 ∙ ap (λ l. sets a.out.now (a.at + 16) (joined l)) i) c.put_head.ensures
