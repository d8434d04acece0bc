-- Document 01: "The reading place moves past each number and counts the numbers read".
use Rattle.std.specs.Prelude.{cond, List, ℕ, ◌+◌, ◌-◌, ◌^◌, ltb, Ok, Err}
use Rattle.leb128.specs.Reading.{NumberRead, more_of, top_of, read_at}
use Rattle.number_cursor.specs.declared.Cursor.{Cursor}

-- one number more; the largest count stays, and no slip reaches it, since each number takes a byte
unfoldable pub counted_up : ℕ → ℕ
counted_up n = cond (ltb n (2 ^ 64 - 1)) (n + 1) n

-- past a good number; else it stays
unfoldable pub moved_by : NumberRead → Cursor → Cursor
moved_by (Ok got) c = record { at = got.next; count = counted_up c.count; wide = c.wide }
moved_by (Err fault) c = c

-- the number at a cursor, of the cursor's width
abbrev pub number_at : List ℕ → Cursor → NumberRead
number_at bs c = read_at (more_of c.wide) (top_of c.wide) bs c.at
