-- "The quay film profile": whether a film keeps its rules. "The answer is a yes, or the lowest rule that any track breaks with the
-- ID of the first track in file order that breaks it (0 for the first rule)." "Refusals: those of the file."
use Rattle.std.specs.Prelude.{ℕ, Bool, false, cond, List, [], ◌∷◌, eqb, Option, Some, None, Result, Ok, Err}
use Rattle.structure.specs.declared.source.Source.{Source}
use Rattle.structure.specs.Track.{id_of}
use Rattle.structure.specs.Movie.{moov_of, movie_scale, tracks_of}
use Rattle.structure.specs.Rows.{Row, first_judged}
use Rattle.movie.specs.Refusals.{film_refusal}
use Rattle.movie.specs.Rooms.{refused_with}
use Rattle.movie.specs.Answers.{given, Gives}
use Rattle.quay_tracks.specs.Profile.{quay_rules}
use Rattle.refusals.specs.Refusals.{number, refused}
use Rattle.refusals.specs.declared.Refusal.{Refusal}
use Rattle.quay.specs.declared.Breach.{Breach}

-- whether a track breaks the rule with that number, by its condition on a track. The first rule has none, being one of the movie
unfoldable pub breaks : List Row → ℕ → List ℕ → Bool
breaks [] k t = false
breaks (r ∷ rs) k t = cond (eqb r.number k) (r.track t) (breaks rs k t)

-- "the ID of the first track in file order that breaks it (0 for the first rule)": of the first of some tracks that breaks rule k
unfoldable pub first_breaking : List Row → ℕ → List (List ℕ) → ℕ
first_breaking rs k [] = 0
first_breaking rs k (t ∷ ts) = cond (breaks rs k t) (id_of t) (first_breaking rs k ts)

-- "the lowest rule that any track breaks", of a movie from the body m of its moov; 0 where none is broken
unfoldable pub broken_rule : List ℕ → ℕ
broken_rule m = first_judged (quay_rules (movie_scale m)) m (tracks_of m)

-- with its track's ID
unfoldable pub breaking_track : List ℕ → ℕ
breaking_track m = first_breaking (quay_rules (movie_scale m)) (broken_rule m) (tracks_of m)

-- "The answer is a yes, or the lowest rule that any track breaks with the ID": of a film that is not refused
unfoldable pub quay_verdict : List ℕ → Option Breach
quay_verdict s = cond (eqb (broken_rule (moov_of s)) 0) None (Some (record { rule = broken_rule (moov_of s); track = breaking_track (moov_of s) }))

abbrev pub quay_answer : List ℕ → Source → Result (Option Breach) Refusal
quay_answer s w = given (film_refusal s w) (Ok (quay_verdict s)) refused

-- the number and the values for each case of the answer: the refusal, 0 for none; the rule and the track's ID, both 0 for a yes
unfoldable pub quay_numbers : Result (Option Breach) Refusal → List ℕ
quay_numbers (Ok None) = 0 ∷ 0 ∷ 0 ∷ []
quay_numbers (Ok (Some b)) = 0 ∷ b.rule ∷ b.track ∷ []
quay_numbers (Err e) = refused_with 2 (number e)

-- the promise of the question: the answer r
abbrev pub Checks : List ℕ → Source → Result (Option Breach) Refusal → Type 0
Checks s w r = Gives quay_numbers (refused_with 2) refused (film_refusal s w) (Ok (quay_verdict s)) r
