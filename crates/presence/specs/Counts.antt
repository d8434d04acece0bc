-- Atoms counted by kind in one walk. These need not be believed: they are between the crates' own functions, and `proofs/Counting.antt` shows that
-- they come to `present`.
use Rattle.std.specs.Prelude.{ℕ, ◌+◌, List, [], ◌∷◌, Bool, true, cond, ◌&&◌, leb, eqb}
use Rattle.atoms.specs.Kinds as kinds
use Rattle.atoms.specs.Atoms.{kind_of}
use Rattle.presence.specs.declared.Counts.{Counts}

-- none, one, or more
unfoldable pub one_more : ℕ → ℕ
one_more n = cond (eqb n 0) 1 2

-- the count of the kind `wanted`, an atom of that kind being there
unfoldable pub bump : ℕ → ℕ → ℕ → ℕ
bump wanted kind n = cond (eqb kind wanted) (one_more n) n

abbrev pub nothing_counted : Counts
nothing_counted =
    record {
      moov = 0;
      mvhd = 0;
      tkhd = 0;
      edts = 0;
      elst = 0;
      mdia = 0;
      mdhd = 0;
      hdlr = 0;
      minf = 0;
      dinf = 0;
      dref = 0;
      stbl = 0;
      stsd = 0;
      stts = 0;
      ctts = 0;
      stsc = 0;
      stsz = 0;
      stco = 0;
      co64 = 0;
      stss = 0;
    }

unfoldable pub with_kind : Counts → ℕ → Counts
with_kind c kind =
    record {
      moov = bump kinds.moov kind c.moov;
      mvhd = bump kinds.mvhd kind c.mvhd;
      tkhd = bump kinds.tkhd kind c.tkhd;
      edts = bump kinds.edts kind c.edts;
      elst = bump kinds.elst kind c.elst;
      mdia = bump kinds.mdia kind c.mdia;
      mdhd = bump kinds.mdhd kind c.mdhd;
      hdlr = bump kinds.hdlr kind c.hdlr;
      minf = bump kinds.minf kind c.minf;
      dinf = bump kinds.dinf kind c.dinf;
      dref = bump kinds.dref kind c.dref;
      stbl = bump kinds.stbl kind c.stbl;
      stsd = bump kinds.stsd kind c.stsd;
      stts = bump kinds.stts kind c.stts;
      ctts = bump kinds.ctts kind c.ctts;
      stsc = bump kinds.stsc kind c.stsc;
      stsz = bump kinds.stsz kind c.stsz;
      stco = bump kinds.stco kind c.stco;
      co64 = bump kinds.co64 kind c.co64;
      stss = bump kinds.stss kind c.stss;
    }

-- the counts c and the atoms of a list
unfoldable pub with_atoms : Counts → List (List ℕ) → Counts
with_atoms c [] = c
with_atoms c (a ∷ l) = with_atoms (with_kind c (kind_of a)) l

unfoldable pub offsets_by : Bool → ℕ → ℕ → Bool
offsets_by wide stco co64 = cond wide (eqb (stco + co64) 1) (eqb stco 1)

unfoldable pub tables_by : Bool → Counts → Bool
tables_by wide c =
    eqb c.stsd 1 && eqb c.stts 1 && eqb c.stsc 1 && eqb c.stsz 1 && offsets_by wide c.stco c.co64 && leb c.ctts 1 && leb c.stss 1

-- `present` by the counts of all atoms of the body
unfoldable pub present_by : Bool → ℕ → Counts → Bool
present_by wide p c =
    cond (eqb p kinds.file) (eqb c.moov 1)
    (cond (eqb p kinds.moov) (eqb c.mvhd 1)
    (cond (eqb p kinds.trak) (eqb c.tkhd 1 && eqb c.mdia 1 && leb c.edts 1)
    (cond (eqb p kinds.edts) (eqb c.elst 1)
    (cond (eqb p kinds.mdia) (eqb c.mdhd 1 && eqb c.hdlr 1 && eqb c.minf 1)
    (cond (eqb p kinds.minf) (eqb c.stbl 1 && eqb c.dinf 1)
    (cond (eqb p kinds.stbl) (tables_by wide c)
    (cond (eqb p kinds.dinf) (eqb c.dref 1)
    true)))))))
