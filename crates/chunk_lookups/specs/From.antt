-- Checkpoints of stsc, and the place of a sample by them.
use Rattle.std.specs.Prelude.{◌≡◌, ℕ, ◌+◌, ◌-◌, ◌*◌, ◌%◌, ◌^◌, ◌<◌, cond, List, length, drop, nat_lt, slice_index}
use Rattle.lists.specs.Lists.{Run}
use Rattle.chunks.specs.Chunks.{deals, chunk_runs, per_chunk, description_ids}
use Rattle.chunks.specs.Computed.{located_in}
use Rattle.chunks.specs.declared.Located.{Located}
use Rattle.checkpoints.specs.Points.{CountsAt, TotalsAt, point_upto}

-- a run of chunks for each entry: how many chunks it holds for, and the samples of each
abbrev pub deal_runs : List ℕ → ℕ → List Run
deal_runs s chunks = chunk_runs (λ e. e.per) chunks (deals s)

-- where the sample with that index lies, by the bytes of a table
abbrev pub located_by : List ℕ → ℕ → ℕ → Located
located_by stsc chunks index = located_in (per_chunk stsc chunks) (description_ids stsc chunks) index

-- the samples before a checkpoint, as it says
abbrev pub passed_at : List ℕ → ℕ → ℕ
passed_at points i = slice_index points (2 * i + 1)

-- from the checkpoint i on: where it lies by the rest of the table, with the checkpoint's chunks, modulo 2 ^ 64
abbrev pub located_past : List ℕ → List ℕ → ℕ → ℕ → ℕ → Located
located_past stsc points chunks index i =
    let f = located_by (drop (768 * i) stsc) chunks (index - passed_at points i) in
    record { chunk = (slice_index points (2 * i) + f.chunk) % 2 ^ 64; within = f.within; description = f.description }

-- by any checkpoints; where the checkpoint lies past the sample, what the table says
unfoldable pub located_from : List ℕ → List ℕ → ℕ → ℕ → ℕ → Located
located_from stsc points count chunks index =
    let i = point_upto points count 1 index in
    cond (nat_lt index (passed_at points i)) (located_by stsc chunks index) (located_past stsc points chunks index i)

-- the promise: that answer, and that of the table where the checkpoints are the table's
pub record LocatedFrom (stsc points : List ℕ) (count chunks index : ℕ) (r : Located) : Type 0 where
  pub answer : r ≡ located_from stsc points count chunks index
  pub right : CountsAt (deal_runs stsc chunks) points count → TotalsAt (deal_runs stsc chunks) points count → length (per_chunk stsc chunks) < 2 ^ 64
      → r ≡ located_in (per_chunk stsc chunks) (description_ids stsc chunks) index
