-- The numbers of the sample at a time and of a movie time, in document 01's order: the refusal, 0 for none, and the values, zeros with a
-- refusal.
use Rattle.std.specs.Prelude.{ℕ, List}
use Rattle.structure.specs.declared.source.Source.{Source}
use Rattle.time_questions.specs.Times.{at_answer, number_numbers, map_answer, time_numbers}
use Rattle.hand.specs.Times.{media, movie}

-- "the n with decode time ≤ t < decode time plus duration", and "the position, from 1, of the entry that holds the answered sample"
abbrev pub of_sample_at : List ℕ → Source → ℕ → ℕ → List ℕ
of_sample_at s w id t = number_numbers (at_answer s w id (media t))

-- 1 and the media time, or 0 and 0 where nothing is shown
abbrev pub of_media_time : List ℕ → Source → ℕ → ℕ → List ℕ
of_media_time s w id t = time_numbers (map_answer s w id (movie t))
