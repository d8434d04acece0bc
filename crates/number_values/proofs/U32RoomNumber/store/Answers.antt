-- `number_values::U32RoomNumber::store` meets its contract: numbers that are not wide fit in 32 bits.
-- Assumes nothing.
use native.Mathlib.Omega.{arith}
use Rattle.leb128.proofs.Groups.{limit32}
use Rattle.number_values.proofs.U32RoomNumber.store.Goals as goal

pub overflow_cast-result : goal.overflow_cast-result
overflow_cast-result c = omega (arith, limit32)
