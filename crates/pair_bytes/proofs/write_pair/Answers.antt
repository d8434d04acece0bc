-- `pair_bytes::write_pair` meets its contract: two numbers, one after the other.
-- Assumes nothing.
use Rattle.pair_bytes.proofs.Streaming.{first_fits, second_fits, one_wrote}
use Rattle.pair_bytes.proofs.write_pair.Goals as goal

pub store_number-middle-requires : goal.store_number-middle-requires
store_number-middle-requires c = first_fits c.args.q c.args.out.now c.args.at c.requires

pub store_number-requires : goal.store_number-requires
store_number-requires c = second_fits c.args.q c.args.out.now c.args.at c.requires _ _ c.store_number-middle.ensures.0 c.store_number-middle.ensures.1

pub returns : goal.returns
returns c = one_wrote _ _ _ c.requires _ _ c.store_number-middle.ensures.0 c.store_number-middle.ensures.1 _ _ c.store_number.ensures.0 c.store_number.ensures.1
