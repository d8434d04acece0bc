-- The types of atoms and the component subtype that the reader knows: four characters as a big-endian number, so that two are
-- equal only if they are equal byte for byte.
use Rattle.std.specs.Prelude.{ℕ, Bool, false, cond, eqb}

-- the parent of the top-level atoms: the file itself, which is no atom
abbrev pub file : ℕ
file = 0

abbrev pub moov : ℕ
moov = 0x6d6f6f76

abbrev pub trak : ℕ
trak = 0x7472616b

abbrev pub edts : ℕ
edts = 0x65647473

abbrev pub mdia : ℕ
mdia = 0x6d646961

abbrev pub minf : ℕ
minf = 0x6d696e66

abbrev pub stbl : ℕ
stbl = 0x7374626c

abbrev pub dinf : ℕ
dinf = 0x64696e66

abbrev pub mvhd : ℕ
mvhd = 0x6d766864

abbrev pub tkhd : ℕ
tkhd = 0x746b6864

abbrev pub mdhd : ℕ
mdhd = 0x6d646864

abbrev pub hdlr : ℕ
hdlr = 0x68646c72

abbrev pub elst : ℕ
elst = 0x656c7374

abbrev pub stts : ℕ
stts = 0x73747473

abbrev pub ctts : ℕ
ctts = 0x63747473

abbrev pub stsc : ℕ
stsc = 0x73747363

abbrev pub stsz : ℕ
stsz = 0x7374737a

abbrev pub stco : ℕ
stco = 0x7374636f

abbrev pub co64 : ℕ
co64 = 0x636f3634

abbrev pub stss : ℕ
stss = 0x73747373

abbrev pub stsd : ℕ
stsd = 0x73747364

abbrev pub dref : ℕ
dref = 0x64726566

abbrev pub prfl : ℕ
prfl = 0x7072666c

-- the component subtype of a track of pictures
abbrev pub vide : ℕ
vide = 0x76696465

-- whether an atom of kind k is a container in the parent p. "Containers, each only in the parent shown: moov in the file; trak in
-- moov; edts and mdia in trak; minf in mdia; stbl in minf. Every other atom is a leaf, even a container's type in the wrong place."
-- Document 02: "one 'dinf' container in minf"
unfoldable pub container : ℕ → ℕ → Bool
container p k =
    cond (eqb k moov) (eqb p file)
    (cond (eqb k trak) (eqb p moov)
    (cond (eqb k edts) (eqb p trak)
    (cond (eqb k mdia) (eqb p trak)
    (cond (eqb k minf) (eqb p mdia)
    (cond (eqb k stbl) (eqb p minf)
    (cond (eqb k dinf) (eqb p minf)
    false))))))
