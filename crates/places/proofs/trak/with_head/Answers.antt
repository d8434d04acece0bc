-- `places::trak::with_head` meets its contract, by what the calls ensure; no other atom changes anything.
-- Assumes nothing.
use Rattle.places.proofs.Finding.{same_heads}
use Rattle.places.proofs.trak.with_head.Goals as goal

pub is_head-requires : goal.is_head-requires
is_head-requires c = tt

pub returns-then-not-is_head : goal.returns-then-not-is_head
returns-then-not-is_head c =
    let a = c.args in
    same_heads a.f a.kind a.next (c.is_head.ensures c.if-not-is_head.true)

pub first_part-requires : goal.first_part-requires
first_part-requires c = tt

pub first_part-requires-2 : goal.first_part-requires-2
first_part-requires-2 c = tt

pub first_part-requires-3 : goal.first_part-requires-3
first_part-requires-3 c = tt

pub first_profile-requires : goal.first_profile-requires
first_profile-requires c = tt

pub returns : goal.returns
returns c =
    λ i. record {
      tkhd = c.first_part.ensures i;
      mdia = c.first_part-2.ensures i;
      edts = c.first_part-3.ensures i;
      prfl = c.first_profile.ensures i;
    }
