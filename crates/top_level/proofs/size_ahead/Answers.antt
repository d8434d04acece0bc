-- `top_level::size_ahead` meets its contract: each way out is one of the cases of a header.
-- Assumes nothing.
use Rattle.top_level.proofs.Sizes.{ahead_few, ahead_short, ahead_all, ahead_plain, ahead_cut, ahead_wide}
use Rattle.top_level.proofs.size_ahead.Goals as goal

pub returns-then-rest-lt8 : goal.returns-then-rest-lt8
returns-then-rest-lt8 c = ahead_few _ _ c.if-rest-lt8.true

pub returns-then-header-lt8 : goal.returns-then-header-lt8
returns-then-header-lt8 c = ahead_short _ _ c.if-rest-lt8.false c.if-header-lt8.true

pub returns-then-z-eq0 : goal.returns-then-z-eq0
returns-then-z-eq0 c = ahead_all _ _ c.if-rest-lt8.false c.if-header-lt8.false _ c.u32_at-z.ensures c.if-z-eq0.true

pub returns-then-z-ne1 : goal.returns-then-z-ne1
returns-then-z-ne1 c = ahead_plain _ _ c.if-rest-lt8.false c.if-header-lt8.false _ c.u32_at-z.ensures c.if-z-eq0.false c.if-z-ne1.true _ c.within.ensures

pub returns-then-header-lt16 : goal.returns-then-header-lt16
returns-then-header-lt16 c = ahead_cut _ _ c.if-rest-lt8.false c.if-header-lt8.false _ c.u32_at-z.ensures c.if-z-ne1.false c.if-header-lt16.true

pub returns : goal.returns
returns c = ahead_wide _ _ c.if-rest-lt8.false c.if-header-lt8.false _ c.u32_at-z.ensures c.if-z-ne1.false c.if-header-lt16.false _ _ c.u64_at.ensures c.within-2.ensures
