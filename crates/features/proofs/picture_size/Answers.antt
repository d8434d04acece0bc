-- `features::picture_size` meets its contract.
-- Assumes nothing.
use mathlib.Core.Path.{sym, ◌∙◌}
use Rattle.features.proofs.Fields.{picture_none, picture_some}
use borrow.Author.Rules.{rules}
use Rattle.features.proofs.picture_size.Goals as goal

pub part_of-stsd-requires : goal.part_of-stsd-requires
part_of-stsd-requires c = tt

pub description_count-requires : goal.description_count-requires
description_count-requires c = tt

pub returns-then-description_count-eq0 : goal.returns-then-description_count-eq0
returns-then-description_count-eq0 c = sym (picture_none _ _ (c.part_of-stsd.ensures ∙ c.requires.0.stsd) c.requires.1 _ c.description_count.ensures c.if-description_count-eq0.true)

pub greatest_size-size-requires : goal.greatest_size-size-requires
greatest_size-size-requires c = tt

pub returns : goal.returns
returns c = sym (picture_some _ _ (c.part_of-stsd.ensures ∙ c.requires.0.stsd) c.requires.1 _ c.description_count.ensures c.if-description_count-eq0.false _ c.greatest_size-size.ensures (search rules))
