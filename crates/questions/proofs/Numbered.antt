-- What a question of a track begins with is refused by a number of a refusal.
-- Assumes nothing.
use Prim.Native.Nat.{ℕ, ◌≤◌}
use mathlib.Core.Bool.{Bool, true, false, cond}
use mathlib.Core.List.{List}
use native.Mathlib.Omega.{arith}
use Rattle.structure.specs.declared.source.Source.{Source}
use Rattle.structure.specs.Movie.{moov_of}
use Rattle.movie.specs.Tracks.{has_track}
use Rattle.movie.proofs.Numbered.{film_low, else_low}
use Rattle.questions.specs.Asked.{ask_refusal}

pub ask_low : (s : List ℕ) (w : Source) (id : ℕ) → ask_refusal s w id ≤ 21
unfolding ask_refusal
ask_low s w id = else_low _ _ (film_low s w) (go (has_track id (moov_of s)))
  where
    go : (b : Bool) → cond b 0 14 ≤ 21
    go true = omega arith
    go false = omega arith
