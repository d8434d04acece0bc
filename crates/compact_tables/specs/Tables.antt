-- Document 02, Ask 13, "Closing up wasteful tables" (compaction in this project): "each stts and stsc having the fewest entries that deal out the
-- same samples, all else copied in order. The bytes freed in a track, if any, become one 'free' atom, zero-filled, last in its stbl (a multiple of
-- four, at least 8)."
use Rattle.std.specs.Prelude.{ℕ, ◌+◌, ◌-◌, List, [], ◌++◌, map, cond, length, take, drop, replicate, eqb, ltb}
use Rattle.lists.specs.Entries.{entries}
use Rattle.atoms.specs.Kinds.{stbl, stts, stsc}
use Rattle.atoms.specs.Atoms.{kind_of, atoms}
use Rattle.byte_writing.specs.Bytes.{be32, joined}
use Rattle.compact_entries.specs.Entries.{compact_runs, compact_deals}

-- 'free'
abbrev pub free : ℕ
free = 0x66726565

-- the first 16 bytes of a table: its size and its count; type, version and flags are copied
unfoldable pub head_bytes : List ℕ → ℕ → ℕ → List ℕ
head_bytes a size count = be32 size ++ (take 8 (drop 4 a) ++ be32 count)

-- the table a with other entries
unfoldable pub with_entries : List ℕ → List (List ℕ) → List ℕ
with_entries a es = head_bytes a (16 + length (joined es)) (length es) ++ joined es

-- an atom of an stbl. One that is shorter than a table's head is copied too; a film that has such an stts or stsc is refused, 5 at the latest
unfoldable pub compact_table : List ℕ → List ℕ
compact_table a =
    cond (ltb (length a) 16) a
    (cond (eqb (kind_of a) stts) (with_entries a (compact_runs (entries 16 8 a)))
    (cond (eqb (kind_of a) stsc) (with_entries a (compact_deals (entries 16 12 a))) a))

-- "one 'free' atom, zero-filled": n bytes. No atom is shorter than 8; in a film that is not refused n is 0 or at least 8
unfoldable pub free_atom : ℕ → List ℕ
free_atom n = cond (ltb n 8) ([]) (be32 n ++ (be32 free ++ replicate (n - 8) 0))

abbrev pub tables_of : List ℕ → List ℕ
tables_of s = joined (map compact_table (atoms stbl s))

-- the body of an stbl: its atoms in order, and "The bytes freed .. last in its stbl"
unfoldable pub compact_tables : List ℕ → List ℕ
compact_tables s = tables_of s ++ free_atom (length s - length (tables_of s))
