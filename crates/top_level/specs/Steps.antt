-- One step of the walk over a file's top-level atoms, from the bytes at its place and the file's length.
use Rattle.std.specs.Prelude.{ℕ, ◌+◌, ◌-◌, List, cond, ◌&&◌, ◌||◌, length, ltb, leb, eqb}
use Rattle.bigendian.specs.BigEndian.{u32_at, u64_at}
use Rattle.atoms.specs.Kinds.{moov}
use Rattle.top_level.specs.declared.Walk.{Walk}
use Rattle.top_level.specs.declared.Next.{Next}
use Rattle.top_level.specs.declared.Next.TheVariants.{Read, Found, Refused}

-- the size z, if it is at least `least` and no more than the `rest` bytes that remain; else 0
unfoldable pub within : ℕ → ℕ → ℕ → ℕ
within least z rest = cond (leb least z && leb z rest) z 0

-- the size of the atom that begins where `rest` bytes of the file remain, of which h are the first; 0 where no whole atom begins there.
-- "At top level only, size 1 means that a 64-bit size follows the type (header 16 bytes, size at least 16), and size 0 means up to the
-- end of the file. Otherwise the size is at least 8." Bytes that were not lent are no header
unfoldable pub size_ahead : ℕ → List ℕ → ℕ
size_ahead rest h =
    cond (ltb rest 8 || ltb (length h) 8) 0
    (cond (eqb (u32_at h 0) 0) rest
    (cond (eqb (u32_at h 0) 1) (cond (ltb (length h) 16) 0 (within 16 (u64_at h 8) rest))
    (within 8 (u32_at h 0) rest)))

-- one moov more, where 2 stands for more than one
unfoldable pub one_more : ℕ → ℕ
one_more n = cond (eqb n 0) 1 2

-- before the first atom of a file of n bytes
abbrev pub start : ℕ → Walk
start n = record { length = n; place = 0; moovs = 0; at = 0; size = 0 }

-- past an atom of z bytes of kind k
unfoldable pub past : ℕ → ℕ → Walk → Walk
past z k w =
    cond (eqb k moov)
    (record { length = w.length; place = w.place + z; moovs = one_more w.moovs; at = w.place; size = z })
    (record { length = w.length; place = w.place + z; moovs = w.moovs; at = w.at; size = w.size })

-- at the file's end. 3: "an atom is absent or occurs too often"; "Exactly one each: moov in the file"
unfoldable pub ended : Walk → Next
ended w = cond (eqb w.moovs 1) (Found w.at w.size) (Refused 3)

-- with the bytes h at the walk's place. 1, of document 02: "a length above 2^63-1"; 2: "an atom's size is wrong, passes its parent's end, or
-- 1 to 7 bytes (under 16 for a 64-bit size) remain"
unfoldable pub stepped : List ℕ → Walk → Next
stepped h w =
    cond (ltb 9223372036854775807 w.length) (Refused 1)
    (cond (leb w.length w.place) (ended w)
    (cond (eqb (size_ahead (w.length - w.place) h) 0) (Refused 2)
    (Read (past (size_ahead (w.length - w.place) h) (u32_at h 4) w))))
