-- `questions::samples::is_low` meets its contract: each test is one of the definition's.
-- Assumes nothing.
use Rattle.questions.proofs.Said.{late, chunk_past, by_offset}
use Rattle.questions.proofs.samples.is_low.Goals as goal

pub returns-then-decode-gt4294967295 : goal.returns-then-decode-gt4294967295
returns-then-decode-gt4294967295 c = late _ _ _ _ c.if-decode-gt4294967295.true

pub returns-then-chunks-chunk : goal.returns-then-chunks-chunk
returns-then-chunks-chunk c = chunk_past _ _ _ _ c.if-decode-gt4294967295.false c.if-chunks-chunk.true

pub returns : goal.returns
returns c = by_offset _ _ _ _ c.if-decode-gt4294967295.false c.if-chunks-chunk.false
