-- The offset and the length that are handed over for a sample's bytes give just those bytes of the file, or none with a refusal.
-- Assumes nothing.
use Prim.Native.Nat.{ℕ}
use mathlib.Core.Path.{◌≡◌, refl, sym, ap, ◌∙◌}
use mathlib.Core.List.{List}
use lib.ListN.{get_or, take, drop}
use denote.Ref.{Bor}
use Rattle.structure.specs.declared.source.Source.{Source}
use Rattle.structure.specs.Source.{whole_file}
use Rattle.questions.specs.Samples.{sample_answer, bytes_start, bytes_length, sample_bytes, PartOf, SampleBytes}
use Rattle.questions.specs.declared.samples.Sample.{Sample}
use Rattle.std.specs.Prelude.{Result, Ok, Err}
use Rattle.refusals.specs.declared.Refusal.{Refusal}
use Rattle.hand.proofs.Answered.{of_case}
use Rattle.host_samples.specs.Numbers.{bytes_numbers, of_sample_bytes}

-- the numbers of an answer that is known by its case, asked of a whole file
pub of_whole : (s : List ℕ) (w : Source) (id n : ℕ) (x y : Result Sample Refusal) → w ≡ whole_file → x ≡ sample_answer s w id n → x ≡ y
    → of_sample_bytes s id n ≡ bytes_numbers y
of_whole s w id n x y e a g = sym (ap (λ (v : Source). bytes_numbers (sample_answer s v id n)) e) ∙ of_case bytes_numbers a g

pub handed_bytes : (s : List ℕ) (id n : ℕ) → take (get_or (of_sample_bytes s id n) 2 0) (drop (get_or (of_sample_bytes s id n) 1 0) s) ≡ sample_bytes s id n
unfolding sample_bytes bytes_numbers bytes_start bytes_length
handed_bytes s id n = by_case (sample_answer s whole_file id n)
  where
    by_case : (a : Result Sample Refusal) → take (get_or (bytes_numbers a) 2 0) (drop (get_or (bytes_numbers a) 1 0) s) ≡ take (bytes_length a) (drop (bytes_start a) s)
    by_case (Ok x) = refl
    by_case (Err e) = refl

-- and they are the place in the lent file of the part that the question hands back
pub handed_part : (file r : Bor (List ℕ)) (id n : ℕ) → SampleBytes file id n r → PartOf file (get_or (of_sample_bytes file.now id n) 1 0) (get_or (of_sample_bytes file.now id n) 2 0) r
unfolding bytes_numbers bytes_start bytes_length
handed_part file r id n = by_case (sample_answer file.now whole_file id n)
  where
    by_case : (a : Result Sample Refusal) → PartOf file (bytes_start a) (bytes_length a) r → PartOf file (get_or (bytes_numbers a) 1 0) (get_or (bytes_numbers a) 2 0) r
    by_case (Ok x) p = p
    by_case (Err e) p = p
