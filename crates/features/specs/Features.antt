-- "Features, decided by four-character code", of a track as plain lists.
use Rattle.std.specs.Prelude.{ℕ, ◌+◌, ◌*◌, ◌<◌, cond, List, length, eqb, Option, None}
use Rattle.atoms.specs.Kinds.{stts, stsz, vide}
use Rattle.lists.specs.Lists.{sum}
use Rattle.runs.specs.Runs.{per_sample, least_of}
use Rattle.words.specs.Words.{sizes}
use Rattle.descriptions.specs.Descriptions.{greatest, width_of, height_of}
use Rattle.edits.specs.Edits.{edits}
use Rattle.averages.specs.Averages.{covered, average_over}
use Rattle.averages.specs.Computed.{Small, Edited}
use Rattle.structure.specs.Track.{scale_of, table_of, elst_of}
use Rattle.track.specs.Track.{Track}
use Rattle.rates.specs.Rates.{value_of, rate_of}
use Rattle.windows.specs.Windows.{Timed}
use Rattle.peaks.specs.Peaks.{peak_of, peak_in}
use Rattle.peaks.specs.declared.Peak.{Peak}

-- the codes, and the subtype of sound
abbrev pub avvb : ℕ
avvb = 0x61767662

abbrev pub avab : ℕ
avab = 0x61766162

abbrev pub tvsz : ℕ
tvsz = 0x7476737a

abbrev pub vfps : ℕ
vfps = 0x76667073

abbrev pub mvbr : ℕ
mvbr = 0x6d766272

abbrev pub mabr : ℕ
mabr = 0x6d616272

abbrev pub soun : ℕ
soun = 0x736f756e

-- "8 × all sizes × scale / total"
unfoldable pub whole_average : Track → Option ℕ
whole_average t = rate_of (8 * sum t.sizes * t.scale) (sum t.durations)

-- the same over the samples that the entries of the edit list cover; document 02: "Without a list nothing changes". movie is the movie's time scale
unfoldable pub average : ℕ → Track → Option ℕ
average movie t =
    cond (eqb (length t.edit_table) 0) (whole_average t)
    (average_over t.scale t.durations t.sizes (covered t.scale movie t.durations t.edits))

-- "greatest width × 65536 + greatest height"; "no description for tvsz"
unfoldable pub picture : Track → Option ℕ
picture t =
    cond (eqb (length t.descriptions) 0) None (value_of (greatest width_of t.descriptions * 65536 + greatest height_of t.descriptions))

-- "65536 × scale / least non-zero duration", which is absent, and stands as 0, where no sample has one
unfoldable pub frames : Track → Option ℕ
frames t = rate_of (65536 * t.scale) (least_of t.durations)

-- "Highest rate over a second"
unfoldable pub peak : Track → Option ℕ
peak t = peak_of t.scale t.durations t.sizes

-- a feature of tracks of one subtype; "the wrong subtype" can't be computed
unfoldable pub only_in : ℕ → Track → Option ℕ → Option ℕ
only_in subtype t f = cond (eqb t.subtype subtype) f None

-- 'avvb' (vide), 'avab' (soun), 'tvsz' (vide), 'vfps' (vide), 'mvbr' (vide), 'mabr' (soun); "another code" can't be computed
unfoldable pub feature_of : ℕ → Track → ℕ → Option ℕ
feature_of movie t code =
    cond (eqb code avvb) (only_in vide t (average movie t))
    (cond (eqb code avab) (only_in soun t (average movie t))
    (cond (eqb code tvsz) (only_in vide t (picture t))
    (cond (eqb code vfps) (only_in vide t (frames t))
    (cond (eqb code mvbr) (only_in vide t (peak t))
    (cond (eqb code mabr) (only_in soun t (peak t)) None)))))

-- ---- where the peak is

-- the peak of tracks of one subtype
unfoldable pub peak_only_in : ℕ → Track → Option Peak
peak_only_in subtype t = cond (eqb t.subtype subtype) (peak_in t.scale t.durations t.sizes) None

-- by the feature's code: 'mvbr' (vide), 'mabr' (soun)
unfoldable pub peak_for : Track → ℕ → Option Peak
peak_for t code = cond (eqb code mvbr) (peak_only_in vide t) (cond (eqb code mabr) (peak_only_in soun t) None)

-- ---- what is asked of a track, as the body of its trak; an accepted one has it

pub record Computable (t : List ℕ) : Type 0 where
  pub short : length t < 4294967296
  pub timed : Timed (scale_of t) (per_sample (table_of stts t)) (sizes (table_of stsz t))

pub record Averaged (movie : ℕ) (t : List ℕ) : Type 0 where
  pub small : Small (table_of stts t)
  pub short : length t < 4294967296
  pub edited : Edited (scale_of t) movie (sum (per_sample (table_of stts t))) (edits (elst_of t))
