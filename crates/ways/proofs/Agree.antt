-- The two ways in agree: rows 1 to 6 are the same (Shapes), the tracks are those of the same moov, and the limit of refusal 12 is the file's length.
-- Assumes nothing.
use Prim.Native.Nat.{ℕ}
use mathlib.Core.Path.{◌≡◌, refl, sym, ap, ◌∙◌}
use mathlib.Core.List.{List, [], ◌∷◌, map}
use mathlib.Core.Bool.{Bool, true, false}
use lib.ListN.{length, get_or}
use Rattle.structure.specs.declared.source.Source.{Source}
use Rattle.structure.specs.Source.{whole_file, moov_alone, strictly, length_of}
use Rattle.structure.specs.Rows.{some, first}
use Rattle.structure.specs.Movie.{moov_of, tracks_of, movie_scale, movie_profile}
use Rattle.track.specs.Refusals.{other_duration}
use Rattle.movie.specs.Refusals.{film_refusal}
use Rattle.movie.specs.TableRows.{table_rows, tables_refusal}
use Rattle.movie.proofs.Tables.{film_is}
use Rattle.questions.specs.Asked.{track_asked}
use Rattle.time_questions.specs.Times.{at_entry}
use Rattle.movie_times.specs.Header.{movie_duration}
use Rattle.ways.specs.Ways.{moov_atom, BothWays}
use Rattle.ways.specs.Agree.{SameEntries, WaysAgree}
use Rattle.ways.proofs.Shapes.{moov_same, shape_same}
use Rattle.ways.proofs.Answers.{SameFilm, same_refl, strict_film, same_answers}

-- ---- rows 7 to 13 and 19 ask for nothing of the source but whether it is strict

some_same : (f g : List ℕ → Bool) → ((t : List ℕ) → f t ≡ g t) → (ts : List (List ℕ)) → some f ts ≡ some g ts
unfolding some
some_same f g h [] = refl
some_same f g h (t ∷ ts) = rw (h t, some_same f g h ts)

module _ (w v : Source) (e : v.strict ≡ w.strict) where
  durations_same : (t : List ℕ) → other_duration v t ≡ other_duration w t
  unfolding other_duration
  durations_same t = rw e

  tables_same : (len : ℕ) (m : List ℕ) → tables_refusal v len m ≡ tables_refusal w len m
  unfolding tables_refusal table_rows first
  tables_same len m = rw (some_same (other_duration v) (other_duration w) durations_same (tracks_of m))

map_itself : (l : List (List ℕ)) → map (λ t. t) l ≡ l
map_itself [] = refl
map_itself (a ∷ l) = ap (λ x. a ∷ x) (map_itself l)

-- ---- the tracks of one moov stay what they are

same_moov : (s m : List ℕ) (w v : Source) → film_refusal m v ≡ film_refusal s w → film_refusal m (strictly v) ≡ film_refusal s (strictly w) → moov_of m ≡ moov_of s
    → SameFilm s m w v
same_moov s m w v e f d = record {
  refusal = e;
  strict = f;
  became = λ t. t;
  tracks = ap tracks_of d ∙ sym (map_itself (tracks_of (moov_of s)));
  each = λ i g. same_refl (get_or (tracks_of (moov_of s)) i []);
  scale = ap movie_scale d;
  profile = ap movie_profile d;
  duration = ap movie_duration d;
}

same_entries : (s m : List ℕ) → moov_of m ≡ moov_of s → SameEntries s m
unfolding at_entry track_asked
same_entries s m d = record { entry = λ id t. rw d }

-- ---- a file and its moov

module _ (s : List ℕ) (b : BothWays s) (w v : Source) (wa : w.alone ≡ false) (va : v.alone ≡ true) (vl : v.length ≡ length s) (e : v.strict ≡ w.strict) where
  length_first : length_of w s ≡ length s
  unfolding length_of
  length_first = rw wa

  length_second : length_of v (moov_atom s) ≡ length s
  unfolding length_of
  length_second = rw va vl

  film_same : film_refusal (moov_atom s) v ≡ film_refusal s w
  film_same =
      film_is (moov_atom s) v
      ∙ rw (shape_same s b w v wa va vl, length_second, moov_same s b, tables_same w v e (length s) (moov_of s)) (sym (film_is s w ∙ rw length_first))

strict_same : (s : List ℕ) → BothWays s → film_refusal (moov_atom s) (strictly (moov_alone (length s))) ≡ film_refusal s (strictly whole_file)
strict_same s b = film_same s b (strictly whole_file) (strictly (moov_alone (length s))) refl refl refl refl

same_film : (s : List ℕ) → BothWays s → SameFilm s (moov_atom s) whole_file (moov_alone (length s))
same_film s b =
    same_moov s (moov_atom s) whole_file (moov_alone (length s)) (film_same s b whole_file (moov_alone (length s)) refl refl refl refl) (strict_same s b) (moov_same s b)

pub ways_agree : (s : List ℕ) → WaysAgree s
ways_agree s = record {
  default = λ b. same_answers s (moov_atom s) whole_file (moov_alone (length s)) (same_film s b);
  strict = λ b.
      same_answers s (moov_atom s) (strictly whole_file) (strictly (moov_alone (length s))) (strict_film s (moov_atom s) whole_file (moov_alone (length s)) (same_film s b));
  entries = λ b. same_entries s (moov_atom s) (moov_same s b);
}
