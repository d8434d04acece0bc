-- `words::number_in` meets its contract: each width has its own reader.
-- Assumes nothing.
use Rattle.words.proofs.number_in.Goals as goal

pub returns-then-long : goal.returns-then-long
returns-then-long c = rw c.if-long.true c.long_at.ensures

pub returns : goal.returns
returns c = rw c.if-long.false c.word_at.ensures
