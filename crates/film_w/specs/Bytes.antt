-- Film W of document 01, with document 02's dinf, byte by byte: an atom a definition, each beginning with its size and the four characters
-- of its type. The quotes are document 01's where no other is named. These are the 4,096 bytes of films/w.mov
-- (host/reference/tests/film_w_bytes.rs holds the two together).
use Rattle.std.specs.Prelude.{ℕ, zero, suc, ◌%◌, List, [], ◌∷◌, ◌++◌, replicate}

-- "movie scale 600" at 20, which is 2 × 256 + 88; and a duration of 120
abbrev pub mvhd : List ℕ
mvhd = 0 ∷ 0 ∷ 0 ∷ 108 ∷ 109 ∷ 118 ∷ 104 ∷ 100 ∷ replicate 12 0 ++ 0 ∷ 0 ∷ 2 ∷ 88 ∷ 0 ∷ 0 ∷ 0 ∷ 120 ∷ replicate 80 0

-- "ID 1" at 20
abbrev pub tkhd : List ℕ
tkhd = 0 ∷ 0 ∷ 0 ∷ 92 ∷ 116 ∷ 107 ∷ 104 ∷ 100 ∷ replicate 12 0 ++ 0 ∷ 0 ∷ 0 ∷ 1 ∷ replicate 68 0

-- "scale 600" at 20; "mdhd duration 120" at 24
abbrev pub mdhd : List ℕ
mdhd = 0 ∷ 0 ∷ 0 ∷ 32 ∷ 109 ∷ 100 ∷ 104 ∷ 100 ∷ replicate 12 0 ++ 0 ∷ 0 ∷ 2 ∷ 88 ∷ 0 ∷ 0 ∷ 0 ∷ 120 ∷ 0 ∷ 0 ∷ 0 ∷ 0 ∷ []

-- "vide" at 16, in its four characters; those before it, which are not read, are mhlr
abbrev pub hdlr : List ℕ
hdlr = 0 ∷ 0 ∷ 0 ∷ 32 ∷ 104 ∷ 100 ∷ 108 ∷ 114 ∷ 0 ∷ 0 ∷ 0 ∷ 0 ∷ 109 ∷ 104 ∷ 108 ∷ 114 ∷ 118 ∷ 105 ∷ 100 ∷ 101 ∷ replicate 12 0

-- document 02: "W gains a dinf with one such entry": of 12 bytes, its type alis, its lowest flag bit set
abbrev pub dref : List ℕ
dref =
    0 ∷ 0 ∷ 0 ∷ 28 ∷ 100 ∷ 114 ∷ 101 ∷ 102 ∷ 0 ∷ 0 ∷ 0 ∷ 0 ∷ 0 ∷ 0 ∷ 0 ∷ 1
    ∷ 0 ∷ 0 ∷ 0 ∷ 12 ∷ 97 ∷ 108 ∷ 105 ∷ 115 ∷ 0 ∷ 0 ∷ 0 ∷ 1
    ∷ []

abbrev pub dinf : List ℕ
dinf = 0 ∷ 0 ∷ 0 ∷ 36 ∷ 100 ∷ 105 ∷ 110 ∷ 102 ∷ [] ++ dref

-- "one description": of 36 bytes, its format jpeg, its reference index 1, 320 by 240
abbrev pub stsd : List ℕ
stsd =
    0 ∷ 0 ∷ 0 ∷ 52 ∷ 115 ∷ 116 ∷ 115 ∷ 100 ∷ 0 ∷ 0 ∷ 0 ∷ 0 ∷ 0 ∷ 0 ∷ 0 ∷ 1
    ∷ 0 ∷ 0 ∷ 0 ∷ 36 ∷ 106 ∷ 112 ∷ 101 ∷ 103 ∷ replicate 7 0 ++ 1 ∷ replicate 16 0 ++ 1 ∷ 64 ∷ 0 ∷ 240 ∷ []

-- "stts (3,24),(1,48)"
abbrev pub stts : List ℕ
stts =
    0 ∷ 0 ∷ 0 ∷ 32 ∷ 115 ∷ 116 ∷ 116 ∷ 115 ∷ 0 ∷ 0 ∷ 0 ∷ 0 ∷ 0 ∷ 0 ∷ 0 ∷ 2
    ∷ 0 ∷ 0 ∷ 0 ∷ 3 ∷ 0 ∷ 0 ∷ 0 ∷ 24
    ∷ 0 ∷ 0 ∷ 0 ∷ 1 ∷ 0 ∷ 0 ∷ 0 ∷ 48
    ∷ []

-- "stsc (1,3,1),(2,1,1)"
abbrev pub stsc : List ℕ
stsc =
    0 ∷ 0 ∷ 0 ∷ 40 ∷ 115 ∷ 116 ∷ 115 ∷ 99 ∷ 0 ∷ 0 ∷ 0 ∷ 0 ∷ 0 ∷ 0 ∷ 0 ∷ 2
    ∷ 0 ∷ 0 ∷ 0 ∷ 1 ∷ 0 ∷ 0 ∷ 0 ∷ 3 ∷ 0 ∷ 0 ∷ 0 ∷ 1
    ∷ 0 ∷ 0 ∷ 0 ∷ 2 ∷ 0 ∷ 0 ∷ 0 ∷ 1 ∷ 0 ∷ 0 ∷ 0 ∷ 1
    ∷ []

-- "sizes 100, 50, 0, 70", so that there is no common size: a 0 at 12, and 4 samples at 16
abbrev pub stsz : List ℕ
stsz =
    0 ∷ 0 ∷ 0 ∷ 36 ∷ 115 ∷ 116 ∷ 115 ∷ 122 ∷ 0 ∷ 0 ∷ 0 ∷ 0 ∷ 0 ∷ 0 ∷ 0 ∷ 0 ∷ 0 ∷ 0 ∷ 0 ∷ 4
    ∷ 0 ∷ 0 ∷ 0 ∷ 100
    ∷ 0 ∷ 0 ∷ 0 ∷ 50
    ∷ 0 ∷ 0 ∷ 0 ∷ 0
    ∷ 0 ∷ 0 ∷ 0 ∷ 70
    ∷ []

-- "stco 1000, 900": 3 × 256 + 232 and 3 × 256 + 132
abbrev pub stco : List ℕ
stco =
    0 ∷ 0 ∷ 0 ∷ 24 ∷ 115 ∷ 116 ∷ 99 ∷ 111 ∷ 0 ∷ 0 ∷ 0 ∷ 0 ∷ 0 ∷ 0 ∷ 0 ∷ 2
    ∷ 0 ∷ 0 ∷ 3 ∷ 232
    ∷ 0 ∷ 0 ∷ 3 ∷ 132
    ∷ []

-- the containers: each its header, and its children. "no ctts, stss or profile", "no edits"
abbrev pub stbl : List ℕ
stbl = 0 ∷ 0 ∷ 0 ∷ 192 ∷ 115 ∷ 116 ∷ 98 ∷ 108 ∷ [] ++ stsd ++ stts ++ stsc ++ stsz ++ stco

abbrev pub minf : List ℕ
minf = 0 ∷ 0 ∷ 0 ∷ 236 ∷ 109 ∷ 105 ∷ 110 ∷ 102 ∷ [] ++ dinf ++ stbl

abbrev pub mdia : List ℕ
mdia = 0 ∷ 0 ∷ 1 ∷ 52 ∷ 109 ∷ 100 ∷ 105 ∷ 97 ∷ [] ++ mdhd ++ hdlr ++ minf

-- "one track"
abbrev pub trak : List ℕ
trak = 0 ∷ 0 ∷ 1 ∷ 152 ∷ 116 ∷ 114 ∷ 97 ∷ 107 ∷ [] ++ tkhd ++ mdia

abbrev pub moov : List ℕ
moov = 0 ∷ 0 ∷ 2 ∷ 12 ∷ 109 ∷ 111 ∷ 111 ∷ 118 ∷ [] ++ mvhd ++ trak

-- n bytes from the place i of the file on, each of them its place modulo 251
abbrev pub places_from : ℕ → ℕ → List ℕ
places_from i zero = []
places_from i (suc n) = i % 251 ∷ places_from (suc i) n

-- the rest of the file: an atom of 13 × 256 + 244 bytes that is skipped, and in which the samples lie. The document leaves its bytes open
abbrev pub mdat : List ℕ
mdat = 0 ∷ 0 ∷ 13 ∷ 244 ∷ 109 ∷ 100 ∷ 97 ∷ 116 ∷ [] ++ places_from 532 3564

abbrev pub bytes : List ℕ
bytes = moov ++ mdat
