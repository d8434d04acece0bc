-- The answers of the question, from what the code has of the refusal and of the two atoms.
-- Assumes nothing.
use Prim.Native.Nat.{ℕ}
use mathlib.Core.Path.{◌≡◌, refl, sym, ap, ◌∙◌}
use mathlib.Core.List.{List}
use mathlib.Core.Bool.{Bool, true, false}
use lib.ListN.{length}
use lib.Dec.{ltb}
use Rattle.atoms.specs.Kinds.{file, moov}
use Rattle.atoms.specs.Atoms.{count_in}
use Rattle.places.specs.Places.{part_in}
use Rattle.places.specs.declared.Part.{Part}
use Rattle.places.proofs.Parts.{whole_part}
use Rattle.structure.specs.declared.source.Source.{Source}
use Rattle.structure.specs.Movie.{moov_of}
use Rattle.movie.specs.Refusals.{film_refusal}
use Rattle.movie.specs.Rooms.{refused_with}
use Rattle.movie.proofs.Answers.{gives_err, gives_answer}
use Rattle.fragments.specs.Fragments.{moof, mvex, extended, fragmented, fragments_told, fragments_numbers, TellsFragments}
use Rattle.std.specs.Prelude.{Ok, Err}
use Rattle.refusals.specs.Refusals.{number}
use Rattle.refusals.specs.declared.Refusal.{Refusal}

pub refused_film : (s : List ℕ) (w : Source) (e : Refusal) → film_refusal s w ≡ number e → TellsFragments s w (Err e)
unfolding fragments_numbers
refused_film s w e h = gives_err fragments_numbers (refused_with 2) (λ k. refl) (fragments_told s w) (film_refusal s w) e h

module _ (s : List ℕ) (w : Source) (z : film_refusal s w ≡ 0) (a : Bool) (p : Part) (m : part_in s p ≡ moov_of s)
    (q : a ≡ ltb 0 (count_in moov mvex (part_in s p))) where
  in_moov : a ≡ extended s
  unfolding extended
  in_moov = q ∙ ap (λ (x : List ℕ). ltb 0 (count_in moov mvex x)) m

  told : (b : Bool) → b ≡ fragmented s w → TellsFragments s w (Ok (record { extended = a; fragmented = b }))
  unfolding fragments_numbers
  told b f =
      gives_answer fragments_numbers (refused_with 2) (λ k. refl) (fragments_told s w) (film_refusal s w) (Ok (record { extended = a; fragmented = b })) z
      (λ i. Ok (record { extended = in_moov i; fragmented = f i }))

  pub told_alone : w.alone ≡ true → TellsFragments s w (Ok (record { extended = a; fragmented = false }))
  unfolding fragmented
  told_alone h = told false (rw h)

  pub told_whole : w.alone ≡ false → (n : ℕ) → n ≡ length s → (b : Bool) → b ≡ ltb 0 (count_in file moof (part_in s (record { at = 0; len = n })))
      → TellsFragments s w (Ok (record { extended = a; fragmented = b }))
  unfolding fragmented
  told_whole h n l b f =
      told b (rw h (f ∙ ap (λ (x : ℕ). ltb 0 (count_in file moof (part_in s (record { at = 0; len = x })))) l
      ∙ ap (λ (x : List ℕ). ltb 0 (count_in file moof x)) (whole_part s)))
