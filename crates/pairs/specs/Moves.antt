-- Pairs put on the way from place to place, and whole chunks whose sizes are listed. These need not be believed: they are between the crates'
-- own functions.
use Rattle.std.specs.Prelude.{ℕ, ◌+◌, ◌-◌, ◌*◌, ◌/◌, ◌^◌, ◌≤◌, ◌<◌, ◌≡◌, Bool, false, cond, List, [], length, get_or, take, drop, eqb, leb}
use Rattle.std.proofs.lemmas.List.Edits.{sets}
use Rattle.bigendian.specs.BigEndian.{u32_at}
use Rattle.lists.specs.Lists.{sum}
use Rattle.words.specs.Words.{words_in}
use Rattle.chunks.specs.Cursors.{ahead}
use Rattle.chunks.specs.declared.ChunkCursor.{ChunkCursor}
use Rattle.pairs.specs.Pairs.{flat}
use Rattle.pairs.specs.Walks.{lengths_of, Fitting, pairs_ahead, At, Room}
use Rattle.pairs.specs.declared.Pair.{Pair}
use Rattle.pairs.specs.declared.ChunkPosition.{ChunkPosition}
use Rattle.pairs.specs.declared.listed.Moved.{Moved}

-- of all pairs, to be put from the place at₀ on, those of `rest` are still to be put, from the place `at` on
pub record Filling (b : ℕ) (all : List Pair) (room₀ : List ℕ) (at₀ : ℕ) (rest : List Pair) (room : List ℕ) (at total : ℕ) : Type 0 where
  pub fits : Fitting b rest
  pub few : at + 2 * length rest ≤ length room
  pub placed : at + 2 * length rest ≡ at₀ + 2 * length all
  pub same : length room ≡ length room₀
  pub stored : sets room at (flat rest) ≡ sets room₀ at₀ (flat all)
  pub added : total + sum (lengths_of rest) ≡ sum (lengths_of all)

-- z has listed sizes, from that of the sample `begin` on and none of the sample j or a later one; or it is empty
pub record ListedTo (stsz : List ℕ) (j begin : ℕ) (z : List ℕ) : Type 0 where
  pub listed : (length z ≡ 0 → ⊥) → u32_at stsz 12 ≡ 0
  pub cut : z ≡ take (length z) (drop (begin * 4) (drop 20 stsz))
  pub ends : (length z ≡ 0 → ⊥) → begin * 4 + length z ≤ j * 4

-- the sizes that are listed from that of the sample `begin` on up to, not including, that of the sample j; none where the sizes are common
unfoldable pub sizes_to : List ℕ → ℕ → ℕ → List ℕ
sizes_to stsz j begin = cond (eqb (u32_at stsz 12) 0) (cond (leb j begin) [] (take ((j - begin) * 4) (drop (begin * 4) (drop 20 stsz)))) []

-- a chunk is ahead, and the first n bytes of the sizes, some, have those of its samples
abbrev pub is_whole : ChunkCursor → ℕ → Bool
is_whole c n = cond (eqb c.remaining 0) false (cond (eqb n 0) false (leb (c.per * 4) n))

-- its pair, by all offsets and its index, and the sizes from its first sample on
abbrev pub listed_pair : List ℕ → List ℕ → ChunkCursor → ℕ → Pair
listed_pair cs z c k = record { offset = get_or cs k 0; length = sum (words_in (take (c.per * 4) z)) }

-- the place that is n chunks and so many bytes of sizes further on, where the cursor is
abbrev pub place_by : ChunkPosition → ChunkCursor → ℕ → ℕ → ChunkPosition
place_by p c n passed = record { cursor = c; chunk = p.chunk + n; begin = p.begin + passed / 4 }

-- what is asked where the pairs from a place on, behind which sample i does not lie, are put into so many places, from the place `at` on
pub record Moving (b : ℕ) (stsc stsz offsets : List ℕ) (chunks i j : ℕ) (p : ChunkPosition) (at places : ℕ) : Type 0 where
  pub short : length stsc < 2 ^ 32
  pub place : At stsc chunks i p
  pub from : i ≤ p.begin
  pub room : Room b (pairs_ahead stsc stsz offsets chunks i j p) at places

-- and some of them were
pub record Moves (b : ℕ) (stsc stsz offsets : List ℕ) (chunks i j : ℕ) (p : ChunkPosition) (room : List ℕ) (at : ℕ) (m : Moved)
    (after : List ℕ) : Type 0 where
  pub place : At stsc chunks i m.place
  pub filling : Filling b (pairs_ahead stsc stsz offsets chunks i j p) room at (pairs_ahead stsc stsz offsets chunks i j m.place)
      after m.at m.bytes
  pub fewer : length (ahead stsc chunks m.place.cursor) ≤ length (ahead stsc chunks p.cursor)
