-- What the answer says, as sentences: a yes exactly if no rule is broken by the movie or by a track; else the rule is the lowest that is broken, and the
-- track named is the first that breaks it.
use Rattle.std.specs.Prelude.{ℕ, ◌*◌, ◌≤◌, ◌<◌, ◌≡◌, ◌⊎◌, Bool, true, false, List, [], length, get_or, ltb, Some, None, Result, Ok, Err}
use Rattle.structure.specs.declared.source.Source.{Source}
use Rattle.structure.specs.Track.{id_of}
use Rattle.structure.specs.Movie.{moov_of, movie_scale, tracks_of}
use Rattle.structure.specs.Rows.{Row}
use Rattle.movie.specs.Refusals.{film_refusal}
use Rattle.features.specs.Features.{vfps}
use Rattle.feature_questions.specs.Feature.{feature_answer}
use Rattle.refusals.specs.declared.Refusal.{Refusal}
use Rattle.quay_tracks.specs.Profile.{other_tracks, quay_rules}
use Rattle.quay.specs.Quay.{breaks, quay_answer}

-- a movie, from the body m of its moov, keeps all rules
pub record KeepsAll (m : List ℕ) : Type 0 where
  pub movie : other_tracks m ≡ false
  pub each : (i k : ℕ) → i < length (tracks_of m) → breaks (quay_rules (movie_scale m)) k (get_or (tracks_of m) i []) ≡ false

-- the track at a place is the first of some that breaks rule k, and it has the ID
pub record FirstAt (rs : List Row) (k : ℕ) (ts : List (List ℕ)) (id place : ℕ) : Type 0 where
  pub within : place < length ts
  pub breaking : breaks rs k (get_or ts place []) ≡ true
  pub named : id ≡ id_of (get_or ts place [])
  pub earlier_keep : (j : ℕ) → j < place → breaks rs k (get_or ts j []) ≡ false

-- of a movie that keeps the first rule, rule k is the lowest that a track breaks, and the first track that breaks it has the ID
pub record Names (m : List ℕ) (k id : ℕ) : Type 0 where
  pub movie : other_tracks m ≡ false
  pub place : ℕ
  pub first : FirstAt (quay_rules (movie_scale m)) k (tracks_of m) id place
  pub lowest : (i j : ℕ) → i < length (tracks_of m) → breaks (quay_rules (movie_scale m)) j (get_or (tracks_of m) i []) ≡ true → k ≤ j

-- "vfps at most 30.0", of the answer to the question for vfps, in 65536ths. "A vfps refused 18 breaks the last rule."
unfoldable pub answered_too_fast : Result ℕ Refusal → Bool
answered_too_fast (Ok v) = ltb (30 * 65536) v
answered_too_fast (Err e) = true

-- of a film that is not refused
pub record AnsweredExactly (s : List ℕ) (w : Source) : Type 0 where
  pub yes_if : KeepsAll (moov_of s) → quay_answer s w ≡ Ok None
  pub yes_only : quay_answer s w ≡ Ok None → KeepsAll (moov_of s)
  -- "the lowest rule that any track breaks with the ID of the first track in file order that breaks it (0 for the first rule)"
  pub names : (k id : ℕ) → quay_answer s w ≡ Ok (Some (record { rule = k; track = id }))
      → ((k ≡ 1) × (id ≡ 0) × (other_tracks (moov_of s) ≡ true)) ⊎ Names (moov_of s) k id
  -- the ninth rule goes by what the question for vfps answers of the track
  pub ninth : (i : ℕ) → i < length (tracks_of (moov_of s))
      → breaks (quay_rules (movie_scale (moov_of s))) 9 (get_or (tracks_of (moov_of s)) i [])
      ≡ answered_too_fast (feature_answer s w (id_of (get_or (tracks_of (moov_of s)) i [])) vfps)

abbrev pub QuayExactly : List ℕ → Source → Type 0
QuayExactly s w = film_refusal s w ≡ 0 → AnsweredExactly s w
