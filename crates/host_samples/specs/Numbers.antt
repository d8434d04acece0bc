-- The numbers of a sample and of its bytes, in document 01's order: the refusal, 0 for none, and the values, zeros with a refusal.
use Rattle.std.specs.Prelude.{ℕ, ◌<◌, ◌^◌, ◌≡◌, List, [], ◌∷◌, ℤ, Result, Ok, Err}
use Rattle.structure.specs.declared.source.Source.{Source}
use Rattle.structure.specs.Source.{whole_file}
use Rattle.movie.specs.Rooms.{refused_with}
use Rattle.questions.specs.Samples.{sample_answer, sample_numbers}
use Rattle.questions.specs.declared.samples.Sample.{Sample}
use Rattle.refusals.specs.Refusals.{number}
use Rattle.refusals.specs.declared.Refusal.{Refusal}

-- numbers low enough to have a sign
abbrev pub Signable : Result Sample Refusal → Type 0
Signable a = (x : Sample) → a ≡ Ok x → (x.decode < 2 ^ 63) × (x.chunk < 2 ^ 63) × (x.offset < 2 ^ 63)

-- "decode time .., duration, composition time .., whether sync .., description ID, chunk, offset .., size": signed, since a composition time
-- may be negative
abbrev pub of_sample : List ℕ → Source → ℕ → ℕ → List ℤ
of_sample s w id n = sample_numbers (sample_answer s w id n)

-- "the sample's own bytes, as they stand in the file lent": where they begin and how many they are, none from the beginning on refusal. Document 02:
-- by the second way "sample bytes aren't offered"
unfoldable pub bytes_numbers : Result Sample Refusal → List ℕ
bytes_numbers (Ok x) = 0 ∷ x.offset ∷ x.size ∷ []
bytes_numbers (Err e) = refused_with 2 (number e)

abbrev pub of_sample_bytes : List ℕ → ℕ → ℕ → List ℕ
of_sample_bytes s id n = bytes_numbers (sample_answer s whole_file id n)
