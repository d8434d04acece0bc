-- `leb128::write::number_len` meets its contract: a number of few groups has as many as its size says.
-- Assumes nothing.
use Rattle.leb128.proofs.Groups.{length_one, length_two, length_three, length_four}
use Rattle.leb128.proofs.write.number_len.Goals as goal

pub returns-then-n-lt128 : goal.returns-then-n-lt128
returns-then-n-lt128 c = length_one _ c.if-n-lt128.true

pub returns-then-n-lt16384 : goal.returns-then-n-lt16384
returns-then-n-lt16384 c = length_two _ c.if-n-lt128.false c.if-n-lt16384.true

pub returns-then-n-lt2097152 : goal.returns-then-n-lt2097152
returns-then-n-lt2097152 c = length_three _ c.if-n-lt16384.false c.if-n-lt2097152.true

pub returns-then-n-lt268435456 : goal.returns-then-n-lt268435456
returns-then-n-lt268435456 c = length_four _ c.if-n-lt2097152.false c.if-n-lt268435456.true

pub returns : goal.returns
returns c = c.counted_len.ensures
