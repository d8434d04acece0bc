-- `quay::subtype_of` meets its contract, by what the calls ensure.
-- Assumes nothing.
use mathlib.Core.Path.{ap, ◌∙◌}
use Rattle.places.specs.Places.{part_in}
use Rattle.quay.proofs.Others.{subtype_by}
use Rattle.quay.proofs.subtype_of.Goals as goal

pub returns : goal.returns
returns c = subtype_by _ _ _ (c.part_of.ensures ∙ ap (λ l. part_in l c.args.trak.parts.hdlr) c.part_of-body.ensures ∙ c.requires.hdlr) c.u32_at.ensures
