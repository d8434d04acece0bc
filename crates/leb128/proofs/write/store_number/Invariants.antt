-- `leb128::write::store_number` meets its contract: the invariant says that the groups of what is left, stored from p on, make what the whole number's groups make
-- of the buffer at entry.
-- Assumes nothing.
use mathlib.Core.Path.{◌≡◌}
use Prim.Native.Nat.{ℕ, ◌+◌, ◌<◌}
use lib.ListN.{length}
use lib.Seq.{sets}
use Rattle.leb128.specs.Numbers.{groups_in, groups}
use Rattle.leb128.specs.Reading.{limit}
use Rattle.leb128.proofs.write.store_number.Given as goal

abbrev pub invariant-loop-rest : goal.invariant-loop-rest
invariant-loop-rest l =
    (k : ℕ)
    × (l.rest < limit k 128)
    × (l.p + length (groups_in k l.rest) ≡ l.at + length (groups l.n))
    × (sets l.out l.p (groups_in k l.rest) ≡ sets l.initial.out l.at (groups l.n))
    × (length l.out ≡ length l.initial.out)

abbrev pub decreases-loop-rest : goal.decreases-loop-rest
decreases-loop-rest l = l.rest
