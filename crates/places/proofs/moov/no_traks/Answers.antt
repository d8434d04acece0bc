-- `places::moov::no_traks` meets its contract.
-- Assumes nothing.
use mathlib.Core.Path.{ap}
use lib.ListN.{replicate}
use Rattle.places.specs.declared.trak.Trak.{Trak}
use Rattle.places.proofs.moov.no_traks.Goals as goal

pub no_trak-none-requires : goal.no_trak-none-requires
no_trak-none-requires c = tt

pub returns : goal.returns
returns c = ap (λ (x : Trak). record { count = 0; of = replicate 16 x }) c.no_trak-none.ensures
