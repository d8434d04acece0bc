-- `leb128::write::counted_len` meets its contract: the invariant says that the groups counted and those of what is left are all of the number's.
-- Assumes nothing.
use mathlib.Core.Path.{◌≡◌}
use Prim.Native.Nat.{ℕ, suc, ◌+◌, ◌<◌}
use lib.ListN.{length}
use Rattle.leb128.specs.Numbers.{groups_in, groups}
use Rattle.leb128.specs.Reading.{limit}
use Rattle.leb128.proofs.write.counted_len.Given as goal

abbrev pub invariant-loop-rest : goal.invariant-loop-rest
invariant-loop-rest l = (k : ℕ) × (l.rest < limit k 128) × (l.len + length (groups_in k l.rest) ≡ suc (length (groups l.n)))

abbrev pub decreases-loop-rest : goal.decreases-loop-rest
decreases-loop-rest l = l.rest
