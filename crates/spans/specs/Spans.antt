-- The samples of a stretch of a track by their indices, between the functions of the questions. These need not be believed: a proof shows that
-- they come to the definitions of the crates stretch and slip_writing.
use Rattle.std.specs.Prelude.{ℕ, suc, ◌-◌, ◌^◌, ◌≤◌, ◌<◌, ◌≡◌, Bool, false, cond, ◌&&◌, ltb, leb, List, length, Result, Ok}
use Rattle.atoms.specs.Kinds.{stsc, stsz, stts}
use Rattle.lists.specs.Lists.{sum, holder}
use Rattle.runs.specs.Runs.{per_sample}
use Rattle.structure.specs.Track.{table_of, offset_table, samples_of, chunks_of}
use Rattle.track.specs.Refusals.{contradicts, chunk_past_end, total_in}
use Rattle.pairs.specs.Walks.{pairs_between}
use Rattle.pairs.specs.declared.Pair.{Pair}
use Rattle.spans.specs.declared.Span.{Span}
use Rattle.refusals.specs.Refusals.{refused}
use Rattle.refusals.specs.declared.Refusal.{Refusal}

-- what the code asks of a track: that it is one of a film that is not refused, whose file has fewer than `bound` bytes
pub record Usable (bound : ℕ) (t : List ℕ) : Type 0 where
  pub short : length t < 2 ^ 32
  pub agree : contradicts t ≡ false
  pub few_samples : samples_of t ≤ 1048576
  pub few_chunks : chunks_of t ≤ 1048576
  pub limit : ℕ
  pub low : limit < bound
  pub within : chunk_past_end limit t ≡ false

-- from the sample at a up to, not including, the one past that at b - 1
pub record Spans (t : List ℕ) (a b : ℕ) (s : Span) : Type 0 where
  pub first : s.from ≡ holder (per_sample (table_of stts t)) a
  pub past : s.stop ≡ suc (holder (per_sample (table_of stts t)) (b - 1))

-- the same of a table of durations
abbrev pub span_of : List ℕ → ℕ → ℕ → Span
span_of stts a b = record { from = holder (per_sample stts) a; stop = suc (holder (per_sample stts) (b - 1)) }

-- what the stretch from a to b asks for: samples, or a refusal
unfoldable pub span_in : List ℕ → ℕ → ℕ → Result Span Refusal
span_in t a b = cond (ltb a b && leb b (total_in t)) (Ok (span_of (table_of stts t) a b)) (refused 15)

-- the same by the bytes of stts, whatever these are: it has fewer than 2 ^ 32 of them, and the last sample is one of so many
unfoldable pub is_span : List ℕ → ℕ → ℕ → ℕ → Bool
is_span stts samples a b = ltb a b && (ltb (length stts) 4294967296 && (leb b (sum (per_sample stts)) && leb (span_of stts a b).stop samples))

unfoldable pub span_said : List ℕ → ℕ → ℕ → ℕ → Result Span Refusal
span_said stts samples a b = cond (is_span stts samples a b) (Ok (span_of stts a b)) (refused 15)

-- the pairs of some samples of a track
unfoldable pub span_pairs : List ℕ → Span → List Pair
span_pairs t s = pairs_between (table_of stsc t) (table_of stsz t) (offset_table t) (chunks_of t) s.from s.stop
