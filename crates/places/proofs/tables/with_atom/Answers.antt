-- `places::tables::with_atom` meets its contract, by what the calls ensure; no other atom changes anything.
-- Assumes nothing.
use Rattle.places.proofs.Finding.{same_tables}
use Rattle.places.proofs.tables.with_atom.Goals as goal

pub returns-then-not-is_table : goal.returns-then-not-is_table
returns-then-not-is_table c =
    let a = c.args in
    same_tables a.f a.kind a.next (c.is_table.ensures c.if-not-is_table.true)

pub returns : goal.returns
returns c =
    λ i. record {
      stsd = c.first_part.ensures i;
      stts = c.first_part-2.ensures i;
      ctts = c.first_part-3.ensures i;
      stsc = c.first_part-4.ensures i;
      stsz = c.first_part-5.ensures i;
      stco = c.first_part-6.ensures i;
      co64 = c.first_part-7.ensures i;
      stss = c.first_part-8.ensures i;
    }
