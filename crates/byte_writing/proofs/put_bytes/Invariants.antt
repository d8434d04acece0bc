-- `byte_writing::put_bytes` meets its contract: at each turn, what is still to be written makes of the output what it will be.
-- Assumes nothing.
use Rattle.std.proofs.Common.{◌+◌, length, drop}
use Rattle.std.proofs.lemmas.List.Edits.{sets}
use Rattle.byte_writing.proofs.Writing.{Storing}
use Rattle.byte_writing.proofs.put_bytes.Given as goal

abbrev pub invariant-loop-i : goal.invariant-loop-i
invariant-loop-i l = Storing (sets l.initial.out l.at l.from) l.initial.out (l.at + length l.from) l.out (l.at + l.i) (drop l.i l.from)
