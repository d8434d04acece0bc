-- How the two ways in agree: the film is refused with the same number, and each question below gets the same answer and leaves the same in lent
-- room. Stepping answers as the sample question does, and a handle as the question that is put by it. Sample bytes "aren't offered" by the second
-- way.
-- `SameAnswers` has the answers below, but not the count of stts entries that a sample at a time took in, which is `SameEntries`: a film whose
-- tables are written anew (crate compaction_theorems) has the first, and need not have the second.
use Rattle.std.specs.Prelude.{ℕ, ◌≡◌, List, length, ℤ}
use Rattle.edits.specs.declared.MediaTime.{MediaTime}
use Rattle.edits.specs.declared.MovieTime.{MovieTime}
use Rattle.structure.specs.declared.source.Source.{Source}
use Rattle.structure.specs.Source.{whole_file, moov_alone, strictly}
use Rattle.movie.specs.Rooms.{room_after}
use Rattle.movie.specs.Refusals.{film_refusal}
use Rattle.track_list.specs.TrackList.{track_lines, list_refusal, list_answer}
use Rattle.quay.specs.Quay.{quay_answer}
use Rattle.questions.specs.Samples.{sample_answer}
use Rattle.time_questions.specs.Times.{at_refusal, at_number, at_entry, map_answer}
use Rattle.feature_questions.specs.Feature.{feature_answer, peak_answer}
use Rattle.profiles.specs.Profiles.{profile_numbers, profile_refusal, profile_answer}
use Rattle.profile_checks.specs.Checks.{check_answer}
use Rattle.movie_times.specs.Header.{movie_answer}
use Rattle.movie_times.specs.Entries.{edit_numbers, edits_asked, edits_refusal, edits_answer}
use Rattle.pairs.specs.Pairs.{flat}
use Rattle.stretch.specs.Stretches.{stretch_pairs, stretch_refusal, stretch_answer}
use Rattle.slip_writing.specs.Slips.{slip_of_stretch, slip_refusal, slip_answer}
use Rattle.return_totals.specs.Returns.{Return}
use Rattle.film_return.specs.Films.{filed_refusal, filed_return}
use Rattle.ways.specs.Ways.{moov_atom, BothWays}

-- the film of the bytes s and the source w, and that of the bytes m and the source v
pub record SameAnswers (s : List ℕ) (w : Source) (m : List ℕ) (v : Source) : Type 0 where
  pub refusal : film_refusal m v ≡ film_refusal s w
  pub tracks : (room : List ℕ) → (list_answer m v room ≡ list_answer s w room)
      × (room_after (list_refusal m v room) (track_lines m) room ≡ room_after (list_refusal s w room) (track_lines s) room)
  pub quay : quay_answer m v ≡ quay_answer s w
  pub sample : (id n : ℕ) → sample_answer m v id n ≡ sample_answer s w id n
  -- the refusal, and the sample's number
  pub sample_at : (id : ℕ) (t : MediaTime) → (at_refusal m v id t ≡ at_refusal s w id t) × (at_number m id t ≡ at_number s id t)
  pub media_time : (id : ℕ) (t : MovieTime) → map_answer m v id t ≡ map_answer s w id t
  pub feature : (id code : ℕ) → feature_answer m v id code ≡ feature_answer s w id code
  pub peak : (id code : ℕ) → peak_answer m v id code ≡ peak_answer s w id code
  pub movie : movie_answer m v ≡ movie_answer s w
  pub edits : (id : ℕ) (room : List ℤ) → (edits_answer m v id room ≡ edits_answer s w id room)
      × (room_after (edits_refusal m v id room) (edit_numbers (edits_asked m id)) room
      ≡ room_after (edits_refusal s w id room) (edit_numbers (edits_asked s id)) room)
  pub profile : (id : ℕ) (room : List ℕ) → (profile_answer m v id room ≡ profile_answer s w id room)
      × (room_after (profile_refusal m v id room) (profile_numbers m id) room ≡ room_after (profile_refusal s w id room) (profile_numbers s id) room)
  pub profile_check : (id : ℕ) → check_answer m v id ≡ check_answer s w id
  pub stretch : (id : ℕ) (a b : MediaTime) (room : List ℕ) → (stretch_answer m v id a b room ≡ stretch_answer s w id a b room)
      × (room_after (stretch_refusal m v id a b room) (flat (stretch_pairs m id a b)) room
      ≡ room_after (stretch_refusal s w id a b room) (flat (stretch_pairs s id a b)) room)
  -- the slip writer "asks the strict way", however the film is read
  pub slip : (id : ℕ) (a b : MediaTime) (out : List ℕ) → (slip_answer m v id a b out ≡ slip_answer s w id a b out)
      × (room_after (slip_refusal m v id a b out) (slip_of_stretch m id a b) out
      ≡ room_after (slip_refusal s w id a b out) (slip_of_stretch s id a b) out)
  -- the film return: what is filed in any return
  pub filed : (r : Return) → (filed_refusal r m v ≡ filed_refusal r s w) × (filed_return r m v ≡ filed_return r s w)

-- and the stts entries that a sample at a time took in
pub record SameEntries (s m : List ℕ) : Type 0 where
  pub entry : (id : ℕ) (t : MediaTime) → at_entry m id t ≡ at_entry s id t

-- a file that both ways can be asked of gets the same by its moov alone, with its length, by default and strictly; refused films too
pub record WaysAgree (s : List ℕ) : Type 0 where
  pub default : BothWays s → SameAnswers s whole_file (moov_atom s) (moov_alone (length s))
  pub strict : BothWays s → SameAnswers s (strictly whole_file) (moov_atom s) (strictly (moov_alone (length s)))
  pub entries : BothWays s → SameEntries s (moov_atom s)
