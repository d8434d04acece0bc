-- The fields of a record of a profile: "reserved, part-ID, feature code and value".
use Rattle.std.specs.Prelude.{ℕ, List, Bool, eqb}
use Rattle.bigendian.specs.BigEndian.{u32_at}

abbrev pub record_code : List ℕ → ℕ
record_code e = u32_at e 8

abbrev pub record_value : List ℕ → ℕ
record_value e = u32_at e 12

-- document 02: "each universal record (part-ID 0x20202020)"
unfoldable pub is_universal : List ℕ → Bool
is_universal e = eqb (u32_at e 4) 0x20202020
