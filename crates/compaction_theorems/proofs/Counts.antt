-- The position of the entry that holds a sample, where entries of one duration are joined: never more.
-- Assumes nothing.
use Prim.Native.Nat.{ℕ, suc, ◌+◌, ◌-◌, ◌≤◌}
use mathlib.Core.Path.{◌≡◌}
use mathlib.Core.List.{List, [], ◌∷◌, map}
use mathlib.Core.Bool.{Bool, true, false, cond}
use native.Mathlib.Omega.{arith}
use native.Mathlib.Decide.{dec_lt}
use lib.Dec.{eqb, ltb}
use borrow.Author.Tests.{lt-ltb, le-ltb}
use Rattle.lists.specs.Lists.{Run, holder}
use Rattle.atoms.specs.Kinds.{stts}
use Rattle.structure.specs.declared.source.Source.{Source}
use Rattle.structure.specs.Track.{table_of}
use Rattle.structure.specs.Movie.{moov_of, tracks_of}
use Rattle.edits.specs.declared.MediaTime.{MediaTime}
use Rattle.runs.specs.Runs.{runs_of, entry_of}
use Rattle.movie.specs.Refusals.{film_refusal}
use Rattle.movie.specs.Tracks.{track_with}
use Rattle.questions.specs.Asked.{track_asked}
use Rattle.time_questions.specs.Times.{at_entry}
use Rattle.compact_laws.proofs.Runs.{merge_from, closed_runs, stts_runs}
use Rattle.compaction.specs.Compaction.{compact_film}
use Rattle.ways.proofs.Answers.{with_same, asked}
use Rattle.compaction_theorems.proofs.Track as track
use Rattle.compaction_theorems.proofs.Movie.{tracks_compact}
use Rattle.compaction_theorems.proofs.Refusals.{rights}
use Rattle.compaction_theorems.proofs.Film.{same_film}

-- the index, from 0, of the run that holds a sample
abbrev run_at : List Run → ℕ → ℕ
run_at rs i = holder (map (λ r. r.count) rs) i

-- two widths as one
one_width : (a b i : ℕ) (ds : List ℕ) → holder ((a + b) ∷ ds) i ≤ holder (a ∷ (b ∷ ds)) i
one_width a b i ds = elim (dec_lt i (a + b)) [
  | yes h ↦ rw (lt-ltb i (a + b) h) (omega arith)
  | no h ↦
      let q : i - (a + b) ≡ i - a - b = omega arith in
      rw (le-ltb i (a + b) (omega arith), le-ltb i a (omega arith), le-ltb (i - a) b (omega arith), q) (omega arith)
]

merged_run : (r : Run) (rs : List Run) (i : ℕ) → run_at (merge_from r rs) i ≤ run_at (r ∷ rs) i
merged_run r [] i = omega arith
merged_run r (x ∷ xs) i =
    go (eqb r.value x.value) (merged_run (record { count = r.count + x.count; value = r.value }) xs i) (merged_run x xs (i - r.count))
    (one_width r.count x.count i (map (λ r. r.count) xs))
  where
    go : (b : Bool) → run_at (merge_from (record { count = r.count + x.count; value = r.value }) xs) i ≤ run_at (record { count = r.count + x.count; value = r.value } ∷ xs) i
        → run_at (merge_from x xs) (i - r.count) ≤ run_at (x ∷ xs) (i - r.count)
        → run_at (record { count = r.count + x.count; value = r.value } ∷ xs) i ≤ run_at (r ∷ (x ∷ xs)) i
        → run_at (cond b (merge_from (record { count = r.count + x.count; value = r.value }) xs) (r ∷ merge_from x xs)) i ≤ run_at (r ∷ (x ∷ xs)) i
    go true f g h = omega (arith, f, h)
    go false f g h = later (ltb i r.count)
      where
        later : (c : Bool) → cond c 0 (suc (run_at (merge_from x xs) (i - r.count))) ≤ cond c 0 (suc (run_at (x ∷ xs) (i - r.count)))
        later true = omega arith
        later false = omega (arith, g)

closed_run : (rs : List Run) (i : ℕ) → run_at (closed_runs rs) i ≤ run_at rs i
closed_run [] i = omega arith
closed_run (r ∷ rs) i = merged_run r rs i

-- u is the track t in the compact film
abbrev NoLater : List ℕ → List ℕ → Type 0
NoLater t u = (i : ℕ) → entry_of (runs_of (table_of stts u)) i ≤ entry_of (runs_of (table_of stts t)) i

no_later : (wide : Bool) (t : List ℕ) → track.Right wide t → NoLater t (track.compact_trak t)
unfolding entry_of
no_later wide t r i =
    let a = table_of stts t in
    rw (track.stts_is wide t r, stts_runs a r.runs_head r.runs_kind (track.few_durations wide t r)) (omega (arith, closed_run (runs_of a) i))

module _ (s : List ℕ) (w : Source) (e : film_refusal s w ≡ 0) where
  entries_no_later : (id : ℕ) → NoLater (track_asked s id) (track_asked (compact_film s) id)
  unfolding compact_film track_asked track_with track.compact_trak
  entries_no_later id =
      rw (tracks_compact s w e)
      (with_same track.compact_trak NoLater (λ i. omega arith) id (tracks_of (moov_of s)) (λ i g. (track.id_same w.alone _ (rights s w e i g).whole, no_later w.alone _ (rights s w e i g))))

  pub count_no_more : (id : ℕ) (t : MediaTime) → at_entry (compact_film s) id t ≤ at_entry s id t
  unfolding at_entry compact_film
  count_no_more id t = rw (asked s (compact_film s) w w (same_film s w e) id).lists (entries_no_later id _)
