-- `program_input::read_full` meets its contract: what stands at the start of the room is what the reader has given.
--
-- Assumes nothing.
use Rattle.std.proofs.Common.{rules, length, ◌-◌, subst}
use Rattle.std.specs.Io.KnownBytes.{Consumes}
use Rattle.std.proofs.KnownBytes.{Consumes-trans}
use Rattle.program_input.proofs.Rooms.{take-put_mid}
use Rattle.program_input.proofs.read_full.Goals as goal

pub loop-done-preserved : goal.loop-done-preserved
loop-done-preserved g c =
    let from = c.loop-done.done in
    let room = c.loop-done.room in
    let before = c.loop-done.invariant in
    let joined = take-put_mid from (length room - from) c.in-Ok.n room c.read.new.buf before.1 c.in-Ok.ensures.bound.0 in
    (search rules, search rules, subst (Consumes _ _) joined (Consumes-trans _ _ _ _ _ before.2 c.in-Ok.ensures.bytes.0))
