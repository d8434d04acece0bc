-- What numbers are, whatever they are: a field of 32 bits takes the lowest 32, and a number that is not there counts as 0.
use Rattle.std.specs.Prelude.{ℕ, ◌+◌, ◌%◌, List, get_or}
use Rattle.places.specs.declared.Part.{Part}
use Rattle.places.specs.declared.tables.Tables.{Tables}

abbrev pub low_at : List ℕ → ℕ → ℕ
low_at ns i = get_or ns i 0 % 4294967296

abbrev pub part_at : List ℕ → ℕ → Part
part_at ns i = record { at = get_or ns i 0; len = get_or ns (i + 1) 0 }

abbrev pub tables_at : List ℕ → Tables
tables_at ns =
    record { stts = part_at ns 0; ctts = part_at ns 2; stsc = part_at ns 4; stsz = part_at ns 6; offsets = part_at ns 8; stss = part_at ns 10 }
