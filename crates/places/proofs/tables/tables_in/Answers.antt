-- `places::tables::tables_in` meets its contract, by what the calls ensure.
-- Assumes nothing.
use mathlib.Core.Path.{◌∙◌}
use Rattle.places.proofs.tables.tables_in.Goals as goal

pub returns : goal.returns
returns c =
    record {
      stts = c.part_within.ensures ∙ c.requires.stts;
      ctts = c.part_within-2.ensures ∙ c.requires.ctts;
      stsc = c.part_within-3.ensures ∙ c.requires.stsc;
      stsz = c.part_within-4.ensures ∙ c.requires.stsz;
      offsets = c.part_within-5.ensures ∙ c.requires.offsets;
      stss = c.part_within-6.ensures ∙ c.requires.stss;
    }
