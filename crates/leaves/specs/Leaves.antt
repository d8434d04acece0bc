-- The read leaves: which atoms they are, their version and their size.
use Rattle.std.specs.Prelude.{ℕ, ◌+◌, ◌*◌, List, Bool, true, false, cond, ◌&&◌, length, get_or, drop, leb, eqb}
use Rattle.bigendian.specs.BigEndian.{u32_at}
use Rattle.atoms.specs.Kinds.{moov, trak, edts, mdia, dinf, stbl, mvhd, tkhd, mdhd, hdlr, dref, stsd, stts, stsc, stsz, stco, co64, elst, ctts, stss}
use Rattle.atoms.specs.Pieces.{pieces, filled_by, fitting}
use Rattle.atoms.specs.Atoms.{kind_of, atoms}
use Rattle.atoms.specs.Tree.{all}
use Rattle.leaves.specs.declared.Form.{Form}
use Rattle.leaves.specs.declared.Form.TheVariants.{Skipped, Exactly, AtLeast, Entries, Sizes, Sized}

-- what is asked of a read leaf
pub data LeafRule : Type 0 where
  Version : LeafRule
  Size : LeafRule

-- an atom is a read leaf only in the parent that it belongs to; anywhere else it is skipped
abbrev pub in_parent : Bool → Form → Form
in_parent there f = cond there f Skipped

-- the table of the leaves: the form of an atom of kind k in the parent p, `wide` being true in a moov alone
unfoldable pub form_of : Bool → ℕ → ℕ → Form
form_of wide p k =
    -- "mvhd | 108"
    cond (eqb k mvhd) (in_parent (eqb p moov) (Exactly 108))
    -- "tkhd | 92"
    (cond (eqb k tkhd) (in_parent (eqb p trak) (Exactly 92))
    -- "mdhd | 32"
    (cond (eqb k mdhd) (in_parent (eqb p mdia) (Exactly 32))
    -- "hdlr | at least 32"
    (cond (eqb k hdlr) (in_parent (eqb p mdia) (AtLeast 32))
    -- "elst | 16+12n"
    (cond (eqb k elst) (in_parent (eqb p edts) (Entries 12))
    -- "stts | 16+8n", "ctts | 16+8n"
    (cond (eqb k stts) (in_parent (eqb p stbl) (Entries 8))
    (cond (eqb k ctts) (in_parent (eqb p stbl) (Entries 8))
    -- "stsc | 16+12n"
    (cond (eqb k stsc) (in_parent (eqb p stbl) (Entries 12))
    -- "stsz | 20+4n, or 20"
    (cond (eqb k stsz) (in_parent (eqb p stbl) Sizes)
    -- "stco, stss | 16+4n"
    (cond (eqb k stco) (in_parent (eqb p stbl) (Entries 4))
    (cond (eqb k stss) (in_parent (eqb p stbl) (Entries 4))
    -- document 02: "Chunk offsets may then come from 'co64' (16+8n) in place of stco"; in a whole file it is not read
    (cond (eqb k co64) (in_parent wide (in_parent (eqb p stbl) (Entries 8)))
    -- "stsd | filled exactly by n descriptions", "each: size (at least 16)"
    (cond (eqb k stsd) (in_parent (eqb p stbl) (Sized 16))
    -- document 02: "count at 12, then entries of size at least 12, type, version and flags, filling it exactly"
    (cond (eqb k dref) (in_parent (eqb p dinf) (Sized 12))
    Skipped)))))))))))))

-- whether it is no read leaf
unfoldable pub skipped : Form → Bool
skipped Skipped = true
skipped (Exactly n) = false
skipped (AtLeast n) = false
skipped (Entries w) = false
skipped Sizes = false
skipped (Sized n) = false

-- "Read leaves begin, after the 8-byte header, with one version byte". Refusal 4: "a read leaf has a body whose first byte is
-- not 0". An empty body has no first byte; past the end `get_or` gives 0
unfoldable pub version_ok : Form → List ℕ → Bool
version_ok f a = cond (skipped f) true (eqb (get_or a 8 0) 0)

-- whether a is `head` bytes and n entries of w bytes
unfoldable pub holds_entries : ℕ → ℕ → ℕ → List ℕ → Bool
holds_entries head w n a = eqb (length a) (head + w * n)

-- the size of the entry that s begins with, where an entry states its own size; 0 where it is below `least` or passes the end
unfoldable pub size_entry : ℕ → List ℕ → ℕ
size_entry least s = fitting least (u32_at s 0) s

-- whether n pieces fill s exactly
unfoldable pub filled_with : (List ℕ → ℕ) → ℕ → List ℕ → Bool
filled_with size n s = filled_by size s && eqb n (length (pieces size s))

-- "filled exactly by n descriptions", "n at 12; each: size (at least 16)"; "count at 12, then entries of size at least 12"
unfoldable pub sized_entries : ℕ → List ℕ → Bool
sized_entries least a = leb 16 (length a) && filled_with (size_entry least) (u32_at a 12) (drop 16 a)

-- whether a read leaf of that form has its size
unfoldable pub size_ok : Form → List ℕ → Bool
size_ok Skipped a = true
size_ok (Exactly n) a = eqb (length a) n
size_ok (AtLeast n) a = leb n (length a)
-- "n at 12"
size_ok (Entries w) a = holds_entries 16 w (u32_at a 12) a
-- "common size 12, n at 16; sizes only if the common size is 0"
size_ok Sizes a = cond (eqb (u32_at a 12) 0) (holds_entries 20 4 (u32_at a 16) a) (eqb (length a) 20)
size_ok (Sized least) a = sized_entries least a

-- what a rule asks of an atom of that form
unfoldable pub leaf_ok : LeafRule → Form → List ℕ → Bool
leaf_ok Version f a = version_ok f a
leaf_ok Size f a = size_ok f a

-- the same of an atom in the parent p
abbrev pub atom_ok : LeafRule → Bool → ℕ → List ℕ → Bool
atom_ok rule wide p a = leaf_ok rule (form_of wide p (kind_of a)) a

-- and of each atom of the body s of the parent p
abbrev pub leaves_ok : LeafRule → Bool → ℕ → List ℕ → Bool
leaves_ok rule wide p s = all (atom_ok rule wide p) (atoms p s)
