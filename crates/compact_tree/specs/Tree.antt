-- Document 02, Ask 13, "Closing up wasteful tables" (compaction in this project): "Write the moov atom anew .., each stts and stsc having the fewest
-- entries that deal out the same samples, all else copied in order." Only the tables of an stbl change, so the header of every container stays.
use Rattle.std.specs.Prelude.{ℕ, zero, suc, List, ◌++◌, map, cond, take, eqb}
use Rattle.atoms.specs.Kinds.{container, stbl}
use Rattle.atoms.specs.Atoms.{kind_of, header_of, body_of, atoms}
use Rattle.byte_writing.specs.Bytes.{joined}
use Rattle.compact_tables.specs.Tables.{compact_tables}

-- the body s of an atom of kind p, down to n levels
unfoldable pub compact_body : ℕ → ℕ → List ℕ → List ℕ
compact_body zero p s = s
compact_body (suc n) p s =
    cond (eqb p stbl) (compact_tables s)
    (joined (map (λ a. cond (container p (kind_of a)) (take (header_of a) a ++ compact_body n (kind_of a) (body_of a)) a) (atoms p s)))
