-- What a caller in another language gets of the film return: the refusal as the result, and the return in lent places.
use Rattle.std.specs.Prelude.{ℕ, ◌≡◌, Bool, cond, ◌&&◌, List, ◌++◌, length, drop, leb}
use Rattle.structure.specs.declared.source.Source.{Source}
use Rattle.return_totals.specs.Returns.{Return, limit_refusal, return_of, KeepsRest}
use Rattle.return_totals.specs.Joining.{with_return}
use Rattle.return_totals.specs.declared.Filed.{Filed}
use Rattle.return_numbers.specs.Numbers.{return_numbers, return_in, PutsReturn}
use Rattle.film_return.specs.Films.{with_film}

-- of any 83 numbers: `return_in` says which return they are, a scale being the lowest 32 bits; a count above 32 counts as 32. With too few numbers 16.
-- `whole` is the return with all in it that is added, without a limit: 20 and 21 by it, and it is in the first 83 places where neither is. Past the
-- scales that are held the numbers stay, but that those of scales are cut to 32 bits, and so does a count above 32. A refusal leaves every number
pub record HandsReturn (enough : Bool) (whole : Return) (places : List ℕ) (r : ℕ) (after : List ℕ) : Type 0 where
  pub result : r ≡ cond enough (limit_refusal whole) 16
  pub totals : r ≡ 0 → return_of (return_in after) ≡ whole
  pub kept : r ≡ 0 → KeepsRest (return_in places) (return_in after)
  pub placed : r ≡ 0 → after ≡ return_numbers (return_in after) ++ drop 83 places
  pub rest : drop 83 after ≡ drop 83 places
  pub left : (r ≡ 0 → ⊥) → after ≡ places

-- a film added
abbrev pub FilesNumbers : List ℕ → Source → List ℕ → ℕ → List ℕ → Type 0
FilesNumbers s w places r after = HandsReturn (leb 83 (length places)) (with_film s w (return_of (return_in places))) places r after

-- another return joined to it
abbrev pub JoinsNumbers : List ℕ → List ℕ → ℕ → List ℕ → Type 0
JoinsNumbers more places r after =
    HandsReturn (leb 83 (length places) && leb 83 (length more)) (with_return (return_of (return_in more)) (return_of (return_in places))) places r after

-- an answer f put into places, between the crate's own functions
pub record PutsFiled (f : Filed) (places : List ℕ) (r : ℕ) (after : List ℕ) : Type 0 where
  pub result : r ≡ f.refusal
  pub put : r ≡ 0 → PutsReturn f.totals places after
  pub stays : (r ≡ 0 → ⊥) → after ≡ places
