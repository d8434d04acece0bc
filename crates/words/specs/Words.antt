-- Tables of numbers: stsz (sizes of samples), stco and co64 (offsets of chunks) and stss (numbers of sync samples). Those of co64 have 64 bits,
-- all others 32.
use Rattle.std.specs.Prelude.{ℕ, Bool, true, false, cond, List, [], ◌∷◌, map, length, drop, replicate, ltb, leb, eqb}
use Rattle.bigendian.specs.BigEndian.{be_at, u32_at}
use Rattle.lists.specs.Entries.{rows_of, entries}
use Rattle.atoms.specs.Atoms.{kind_of}
use Rattle.atoms.specs.Kinds.{co64}
use Rattle.words.specs.declared.SizeHead.{SizeHead}

-- an entry: one number
abbrev pub word : List ℕ → ℕ
word e = u32_at e 0

-- the numbers of w bytes that stand one after the other in a part
unfoldable pub numbers_in : ℕ → List ℕ → List ℕ
numbers_in w t = map (λ e. be_at w e 0) (rows_of w t)

abbrev pub words_in : List ℕ → List ℕ
words_in t = numbers_in 4 t

-- the numbers of a table after its head
unfoldable pub words_after : ℕ → List ℕ → List ℕ
words_after head s = map word (entries head 4 s)

-- one number for each sample, its size: "common size 12, n at 16; sizes only if the common size is 0"
unfoldable pub sizes : List ℕ → List ℕ
sizes s = cond (eqb (u32_at s 12) 0) (words_after 20 s) (replicate (u32_at s 16) (u32_at s 12))

-- the two numbers of the head by which sizes are told; these need not be believed: callers go by `sizes`
abbrev pub size_head : List ℕ → SizeHead
size_head s = record { common = u32_at s 12; samples = u32_at s 16 }

-- the bytes of a number of 64 bits, or of 32
abbrev pub width_of : Bool → ℕ
width_of long = cond long 8 4

-- the bytes of an offset, told by the table's own type: stco has "16+4n". "Chunk offsets may then come from 'co64' (16+8n) in place of stco".
-- The type of an absent table, which is no bytes, is 0
unfoldable pub offset_width : List ℕ → ℕ
offset_width s = width_of (eqb (kind_of s) co64)

-- one number for each chunk, its offset
unfoldable pub chunk_offsets : List ℕ → List ℕ
chunk_offsets s = numbers_in (offset_width s) (drop 16 s)

-- the numbers, from 1, of the samples that stss lists: "16+4n"
unfoldable pub syncs : List ℕ → List ℕ
syncs s = words_after 16 s

-- each number above the one before it, the first above `last`, and the last one at most n
abbrev pub strictly_rising : ℕ → ℕ → List ℕ → Bool
strictly_rising n last [] = leb last n
strictly_rising n last (x ∷ xs) = cond (ltb last x) (strictly_rising n x xs) false

-- whether stss is right, not so if "stss isn't strictly rising within 1 to N". An absent one lists nothing and is right
unfoldable pub syncs_agree : List ℕ → ℕ → Bool
syncs_agree s n = strictly_rising n 0 (syncs s)

-- whether x is one of some numbers
abbrev pub listed : ℕ → List ℕ → Bool
listed x [] = false
listed x (y ∷ ys) = cond (eqb y x) true (listed x ys)

-- whether sample n, from 1, is sync: "all are, without stss", which is then no bytes. Where stss is there and lists nothing, none is
unfoldable pub is_sync : List ℕ → ℕ → Bool
is_sync s n = cond (eqb (length s) 0) true (listed n (syncs s))
