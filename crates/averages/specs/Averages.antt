-- Document 02, Ask 2, "Averages must respect edits". ds are the durations of a track's samples and zs their sizes; scale is the
-- media's time scale, movie the movie's.
use Rattle.std.specs.Prelude.{ℕ, suc, ◌+◌, ◌-◌, ◌*◌, List, [], ◌∷◌, ◌++◌, map, Option}
use Rattle.lists.specs.Lists.{sum, between, holder}
use Rattle.edits.specs.Edits.{start_of, in_media}
use Rattle.edits.specs.declared.Edit.{Edit}
use Rattle.edits.specs.declared.EditStart.{EditStart}
use Rattle.edits.specs.declared.EditStart.TheVariants.{From, Empty, Wrong}
use Rattle.rates.specs.Rates.{rate_of}

-- samples by index, from one up to, not including, another
pub record Range : Type 0 where
  pub from : ℕ
  pub stop : ℕ

-- from the one at media time a to the one at media time b
abbrev pub range_at : List ℕ → ℕ → ℕ → Range
range_at ds a b = record { from = holder ds a; stop = suc (holder ds b) }

-- "each entry that shows media covers the samples from the one at its first place to the one at its last place (movie time d-1 in the entry)"; one
-- that shows nothing covers none
abbrev pub covered_from : ℕ → ℕ → List ℕ → ℕ → EditStart → List Range
covered_from scale movie ds d (From m) = range_at ds m (m + in_media scale movie (d - 1)) ∷ []
covered_from scale movie ds d Empty = []
covered_from scale movie ds d Wrong = []

abbrev pub covered_by : ℕ → ℕ → List ℕ → Edit → List Range
covered_by scale movie ds e = covered_from scale movie ds e.duration (start_of e.media)

-- entry after entry
abbrev pub covered : ℕ → ℕ → List ℕ → List Edit → List Range
covered scale movie ds [] = []
covered scale movie ds (e ∷ es) = covered_by scale movie ds e ++ covered scale movie ds es

-- "Sizes and durations of those samples are added, once for each entry that covers them"
abbrev pub added_over : List ℕ → List Range → ℕ
added_over xs rs = sum (map (λ r. between xs r.from r.stop) rs)

-- document 01: "8 × all sizes × scale / total", of these samples. Document 02: "18 also when no entry shows media": the divisor is then 0
unfoldable pub average_over : ℕ → List ℕ → List ℕ → List Range → Option ℕ
average_over scale ds zs rs = rate_of (8 * added_over zs rs * scale) (added_over ds rs)
