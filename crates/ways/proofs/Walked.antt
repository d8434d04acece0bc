-- What the walk over a file's top level says is what the whole file's first rows say of it, and where it finds the moov the two ways agree.
-- Assumes nothing.
use Prim.Native.Nat.{ℕ, ◌≤◌}
use mathlib.Core.Path.{◌≡◌, refl}
use mathlib.Core.List.{List}
use mathlib.Core.Bool.{Bool, true, false, cond, not, ◌||◌}
use lib.ListN.{length}
use borrow.Author.Tests.{le-ltb, eq-eqb, ne_eqb}
use Rattle.atoms.specs.Kinds.{file, moov}
use Rattle.atoms.specs.Atoms.{count_in, filled}
use Rattle.atoms.specs.Tree.{everywhere}
use Rattle.atoms.proofs.Laws.{everywhere_stop}
use Rattle.presence.specs.Present.{one, present}
use Rattle.structure.specs.declared.source.Source.{Source}
use Rattle.structure.specs.Movie.{moov_of}
use Rattle.structure.specs.Rows.{first, of_whole, or_else}
use Rattle.shape.specs.Refusals.{file_too_long, one_moov, wrong_atoms, wrong_counts, file_rows}
use Rattle.movie.specs.Refusals.{film_refusal}
use Rattle.top_level.specs.declared.Next.TheVariants.{Refused}
use Rattle.top_level.specs.TopLevel.{walked}
use Rattle.top_level.proofs.Walking.{only_two, only_three, only_found, finds}
use Rattle.ways.specs.Ways.{BothWays}
use Rattle.ways.specs.Walked.{AsWhole, TakenAlone, FoundNarrow, AnsweredAlone}
use Rattle.ways.proofs.Agree.{ways_agree}

-- the three rows of a file that is lent whole and is not too long
rows_are : (s : List ℕ) (w : Source) → w.alone ≡ false → length s ≤ 2147483647
    → of_whole (file_rows w) s ≡ cond (everywhere filled 6 file s) (cond (everywhere (present false) 6 file s) 0 3) 2
unfolding file_rows first file_too_long wrong_atoms wrong_counts
rows_are s w a l = rw (le-ltb 2147483647 (length s) l, a) (go (everywhere filled 6 file s) (everywhere (present false) 6 file s))
  where
    go : (b c : Bool) → ◌≡◌ {A = ℕ} (cond (not b || false) 2 (cond (not c) 3 0)) (cond b (cond c 0 3) 2)
    go true true = refl
    go true false = refl
    go false true = refl
    go false false = refl

-- more or fewer moovs than one
not_present : (s : List ℕ) → (count_in file moov s ≡ 1 → ⊥) → everywhere (present false) 6 file s ≡ false
unfolding present one
not_present s n = everywhere_stop (present false) 6 file s (ne_eqb (count_in file moov s) 1 n)

-- a number that is given is not passed over
either : (b : Bool) (n : ℕ) → or_else (cond b 3 2) n ≡ cond b 3 2
unfolding or_else
either true n = refl
either false n = refl

module _ (s : List ℕ) (w : Source) (a : w.alone ≡ false) (l : length s ≤ 2147483647) where
  two_too : walked s ≡ Refused 2 → film_refusal s w ≡ 2
  unfolding film_refusal or_else
  two_too e = rw (rows_are s w a l, everywhere_stop filled 6 file s (only_two s e))

  three_too : walked s ≡ Refused 3 → film_refusal s w ≡ cond (everywhere filled 6 file s) 3 2
  unfolding film_refusal
  three_too e = rw (rows_are s w a l, not_present s (only_three s e).1) (either (everywhere filled 6 file s) _)

pub as_whole : (s : List ℕ) (w : Source) → AsWhole s w
as_whole s w = record { two = two_too s w; three = three_too s w }

pub taken_alone : (s : List ℕ) (at size : ℕ) → TakenAlone s at size
unfolding one_moov moov_of
taken_alone s at size = record {
  atom = (finds s).moov_there at size;
  one = λ e. let o = (finds s).alone at size e in rw (eq-eqb _ _ o.size, eq-eqb _ _ o.kind);
  movie = λ e. rw (((finds s).alone at size e).itself, (finds s).moov_there at size e);
}

-- such a file can be asked both ways
both_ways : (s : List ℕ) (at size : ℕ) → FoundNarrow s at size → BothWays s
both_ways s at size f = let o = only_found s at size f.found in record { short = f.short; top = o.0; one = o.1; narrow = f.narrow }

pub answered_alone : (s : List ℕ) (at size : ℕ) → AnsweredAlone s at size
answered_alone s at size = record {
  default = λ f. rw ((finds s).moov_there at size f.found) ((ways_agree s).default (both_ways s at size f));
  strict = λ f. rw ((finds s).moov_there at size f.found) ((ways_agree s).strict (both_ways s at size f));
  entries = λ f. rw ((finds s).moov_there at size f.found) ((ways_agree s).entries (both_ways s at size f));
}
