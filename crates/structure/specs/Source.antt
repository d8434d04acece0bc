-- How a film is lent and read. Document 02: "The default becomes to accept"; "11 only where strict reading is asked for"; "A second way in takes the
-- moov atom alone in lent bytes .. with the file's length as a number".
use Rattle.std.specs.Prelude.{ℕ, List, true, false, cond, length}
use Rattle.structure.specs.declared.source.Source.{Source}

-- a whole file, read by default
abbrev pub whole_file : Source
whole_file = record { strict = false; alone = false; length = 0 }

-- a moov atom alone, of a file of n bytes, read by default
abbrev pub moov_alone : ℕ → Source
moov_alone n = record { strict = false; alone = true; length = n }

-- the same film, with strict reading asked for
abbrev pub strictly : Source → Source
strictly w = record { strict = true; alone = w.alone; length = w.length }

-- the length of the film's file, from the bytes lent: of a whole file their own, whatever the source says
unfoldable pub length_of : Source → List ℕ → ℕ
length_of w s = cond w.alone w.length (length s)
