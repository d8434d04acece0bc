-- `places::trak::with_one` meets its contract, by what the calls ensure; no other atom changes anything.
-- Assumes nothing.
use mathlib.Core.Path.{sym, ◌∙◌}
use Rattle.places.proofs.Finding.{same_three}
use Rattle.places.proofs.trak.with_one.Goals as goal

pub is_one_of-requires : goal.is_one_of-requires
is_one_of-requires c = tt

pub returns-then-not-is_one_of : goal.returns-then-not-is_one_of
returns-then-not-is_one_of c =
    let a = c.args in
    same_three a.f a.a a.b a.c a.kind a.next (sym c.is_one_of.ensures ∙ c.if-not-is_one_of.true)

pub first_part-requires : goal.first_part-requires
first_part-requires c = tt

pub first_part-requires-2 : goal.first_part-requires-2
first_part-requires-2 c = tt

pub first_part-requires-3 : goal.first_part-requires-3
first_part-requires-3 c = tt

pub returns : goal.returns
returns c =
    λ i. record {
      a = c.first_part.ensures i;
      b = c.first_part-2.ensures i;
      c = c.first_part-3.ensures i;
    }
