-- The features of a track, from what the functions on its parts return: the fields of a track are these parts, by its definition.
-- Assumes nothing.
use Rattle.std.specs.Prelude.{Option, Some, None}
use Prim.Native.Nat.{ℕ, ◌+◌, ◌*◌, ◌<◌}
use mathlib.Core.Path.{◌≡◌, refl, sym, ap, ◌∙◌}
use mathlib.Core.List.{List}
use native.Mathlib.Omega.{arith}
use lib.ListN.{length}
use borrow.Author.Tests.{eq-eqb, ne_eqb}
use Rattle.atoms.specs.Kinds.{stts, stsz, stsd, vide}
use Rattle.lists.specs.Lists.{sum}
use Rattle.runs.specs.Runs.{per_sample, least_of}
use Rattle.words.specs.Words.{sizes}
use Rattle.descriptions.specs.Descriptions.{descriptions, picture_size}
use Rattle.descriptions.specs.declared.PictureSize.{PictureSize}
use Rattle.edits.specs.Edits.{edits}
use Rattle.averages.specs.Averages.{covered, average_over}
use Rattle.averages.specs.Computed.{Small, Edited}
use Rattle.structure.specs.Track.{scale_of, subtype_of, table_of, elst_of}
use Rattle.structure.proofs.Lengths.{table_short}
use Rattle.track.specs.Track.{track_of, least_size}
use Rattle.track.specs.Refusals.{total_in}
use Rattle.rates.specs.Rates.{value_of, rate_of}
use Rattle.windows.specs.Windows.{Timed}
use Rattle.peaks.specs.Peaks.{peak_in}
use Rattle.peaks.specs.declared.Peak.{Peak}
use Rattle.features.specs.Features.{whole_average, average, picture, frames, peak_only_in, Computable, Averaged}
use Rattle.rates.proofs.Values.{value_small}
use Rattle.rates.proofs.Orders.{eightfold}

-- a table of a track so short that its sizes can be added
pub fits : (k : ℕ) (t s : List ℕ) → s ≡ table_of k t → length t < 4294967296 → length s < 4294967296
fits k t s e h = rw e (omega (arith, table_short k t))

pub whole_is : (t s : List ℕ) (bytes scale total : ℕ) (r : Option ℕ) → s ≡ table_of stsz t → bytes ≡ sum (sizes s) → scale ≡ scale_of t → total ≡ total_in t
    → r ≡ rate_of (bytes * (8 * scale)) total → r ≡ whole_average (track_of t)
unfolding whole_average track_of total_in
whole_is t s bytes scale total r p b c d e =
    e ∙ ap (λ (n : ℕ). rate_of n total) (eightfold bytes scale) ∙ rw (b, p, c, d) refl

pub averaged_total : (movie : ℕ) (t : List ℕ) → Averaged movie t → total_in t < 4294967296
unfolding total_in
averaged_total movie t h = h.small.total_fits

-- the edit list, and the tables of what it shows
module _ (movie : ℕ) (t l : List ℕ) (p : l ≡ elst_of t) where
  pub average_whole : (r : Option ℕ) → length l ≡ 0 → r ≡ whole_average (track_of t) → r ≡ average movie (track_of t)
  unfolding average track_of
  average_whole r z e = e ∙ rw (← p, eq-eqb (length l) 0 z)

  pub average_edited : (d z : List ℕ) (scale : ℕ) (r : Option ℕ) → (length l ≡ 0 → ⊥) → d ≡ table_of stts t → z ≡ table_of stsz t → scale ≡ scale_of t
      → r ≡ average_over scale (per_sample d) (sizes z) (covered scale movie (per_sample d) (edits l)) → r ≡ average movie (track_of t)
  unfolding average track_of
  average_edited d z scale r n a b c e = e ∙ rw (a, b, c, ← p, ne_eqb (length l) 0 n)

  pub average_asks : (d : List ℕ) (scale : ℕ) → Averaged movie t → d ≡ table_of stts t → scale ≡ scale_of t
      → Small d × Edited scale movie (sum (per_sample d)) (edits l)
  average_asks d scale h a c = rw (a, c, p) (h.small, h.edited)

pub frames_are : (t s : List ℕ) (scale least : ℕ) (r : Option ℕ) → s ≡ table_of stts t → least ≡ least_of (per_sample s) → scale ≡ scale_of t
    → r ≡ rate_of (65536 * scale) least → r ≡ frames (track_of t)
unfolding frames track_of
frames_are t s scale least r p b c e = e ∙ rw (b, p, c) refl

-- the time scale and the tables of a track, as the code has them
module _ (t d z : List ℕ) (scale : ℕ) where
  pub peak_timed : Computable t → d ≡ table_of stts t → z ≡ table_of stsz t → scale ≡ scale_of t → Timed scale (per_sample d) (sizes z)
  peak_timed h a b c = rw (a, b, c) h.timed

  pub peak_is : (subtype wanted : ℕ) (p : Option Peak) → subtype ≡ subtype_of t → subtype ≡ wanted → d ≡ table_of stts t → z ≡ table_of stsz t → scale ≡ scale_of t
      → p ≡ peak_in scale (per_sample d) (sizes z) → p ≡ peak_only_in wanted (track_of t)
  unfolding peak_only_in track_of
  peak_is subtype wanted p s q a b c e = rw (eq-eqb (subtype_of t) wanted (sym s ∙ q)) (e ∙ rw (a, b, c) refl)

pub peak_not : (t : List ℕ) (subtype wanted : ℕ) → subtype ≡ subtype_of t → (subtype ≡ wanted → ⊥) → None ≡ peak_only_in wanted (track_of t)
unfolding peak_only_in track_of
peak_not t subtype wanted s q = rw (ne_eqb (subtype_of t) wanted (λ z. q (s ∙ z)))

-- a track of pictures, its descriptions of at least 36 bytes each
module _ (t s : List ℕ) (p : s ≡ table_of stsd t) (v : subtype_of t ≡ vide) (n : ℕ) (e : n ≡ length (descriptions 36 s)) where
  pub picture_none : n ≡ 0 → picture (track_of t) ≡ None
  unfolding picture track_of least_size
  picture_none z = rw (eq-eqb (subtype_of t) vide v, ← p, ← e, eq-eqb n 0 z) refl

  pub picture_some : (n ≡ 0 → ⊥) → (z : PictureSize) → z ≡ picture_size s → z.width * 65536 + z.height < 4294967296
      → picture (track_of t) ≡ Some (z.width * 65536 + z.height)
  unfolding picture track_of least_size picture_size
  picture_some k z q h = rw (eq-eqb (subtype_of t) vide v, ← p, ← e, ne_eqb n 0 k) (ap (λ (x : PictureSize). value_of (x.width * 65536 + x.height)) (sym q) ∙ value_small _ h)
