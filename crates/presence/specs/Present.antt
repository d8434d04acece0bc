-- Which atoms a body must have, and which at most once.
use Rattle.std.specs.Prelude.{ℕ, ◌+◌, List, Bool, true, cond, ◌&&◌, leb, eqb}
use Rattle.atoms.specs.Kinds.{file, moov, trak, edts, mdia, minf, dinf, stbl, mvhd, tkhd}
use Rattle.atoms.specs.Kinds.{mdhd, hdlr, dref, stsd, stts, stsc, stsz, stco, co64, elst, ctts, stss}
use Rattle.atoms.specs.Atoms.{count_in}

-- "Exactly one"
unfoldable pub one : ℕ → ℕ → List ℕ → Bool
one p k s = eqb (count_in p k s) 1

-- "At most one"
unfoldable pub at_most_one : ℕ → ℕ → List ℕ → Bool
at_most_one p k s = leb (count_in p k s) 1

-- "stco in stbl"; document 02, of a moov alone (`wide`): "Chunk offsets may then come from 'co64' (16+8n) in place of stco, exactly one of the
-- two"; "3 if both offset tables or neither is there". "then": in a whole file co64 is a leaf that is not read
unfoldable pub one_offsets : Bool → List ℕ → Bool
one_offsets wide s = cond wide (eqb (count_in stbl stco s + count_in stbl co64 s) 1) (one stbl stco s)

-- "stsd, stts, stsc, stsz and stco in stbl"; at most one: "ctts and stss in stbl"
unfoldable pub tables : Bool → List ℕ → Bool
tables wide s =
    one stbl stsd s && one stbl stts s && one stbl stsc s && one stbl stsz s && one_offsets wide s && at_most_one stbl ctts s && at_most_one stbl stss s

-- whether the body s of the parent p has the atoms that it must have, and none too often
unfoldable pub present : Bool → ℕ → List ℕ → Bool
present wide p s =
    -- "moov in the file"
    cond (eqb p file) (one file moov s)
    -- "mvhd in moov"
    (cond (eqb p moov) (one moov mvhd s)
    -- "tkhd and mdia in trak"; at most one: "edts in trak"
    (cond (eqb p trak) (one trak tkhd s && one trak mdia s && at_most_one trak edts s)
    -- "elst in edts"
    (cond (eqb p edts) (one edts elst s)
    -- "mdhd, hdlr and minf in mdia"
    (cond (eqb p mdia) (one mdia mdhd s && one mdia hdlr s && one mdia minf s)
    -- "stbl in minf"; document 02: "one 'dinf' container in minf"
    (cond (eqb p minf) (one minf stbl s && one minf dinf s)
    (cond (eqb p stbl) (tables wide s)
    -- "one read leaf 'dref' in it"
    (cond (eqb p dinf) (one dinf dref s)
    true)))))))
