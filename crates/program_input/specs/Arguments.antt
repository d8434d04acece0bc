-- The arguments of a program.
use Rattle.std.specs.Prelude.{ℕ, List, [], ◌≤◌, length, Result, Ok, Err}
use Rattle.std.specs.Borrow.{Bor}
use Rattle.program_input.specs.declared.TooLong.{TooLong}

-- the bytes of the name that an argument gives; none where it is too long
abbrev pub name_of : Result (Bor (List ℕ)) TooLong → List ℕ
name_of (Ok bytes) = bytes.now
name_of (Err e) = []

-- a name has 4,096 bytes at most
abbrev pub IsShort : Result (Bor (List ℕ)) TooLong → Type 0
IsShort a = length (name_of a) ≤ 4096
