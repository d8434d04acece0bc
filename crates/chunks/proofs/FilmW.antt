-- Film W's stsc, stco and stsz, and tables made from them, by computation: what the definitions say of bytes.
-- Assumes nothing.
use Prim.Native.Nat.{ℕ, ◌/◌, ◌%◌}
use mathlib.Core.Path.{◌≡◌, refl}
use mathlib.Core.Bool.{true, false}
use mathlib.Core.List.{List, [], ◌∷◌}
use Rattle.bigendian.specs.BigEndian.{be_at}
use Rattle.lists.specs.Entries.{rows_of, entries}
use Rattle.words.specs.Words.{numbers_in, words_after, sizes, offset_width, chunk_offsets}
use Rattle.chunks.specs.Chunks.{deals, per_chunk, description_ids, deals_contradict, offset_of, end_within}
use Rattle.chunks.specs.Computed.{deals_agree, located_in}
use Rattle.chunks.specs.declared.Located.{Located}

-- an atom of numbers below 65,536, in four bytes each; size, type and version are not read here
abbrev atom : List ℕ → List ℕ
atom [] = []
atom (n ∷ ns) = 0 ∷ 0 ∷ n / 256 ∷ n % 256 ∷ atom ns

abbrev stsc : List ℕ
stsc = atom (0 ∷ 0 ∷ 0 ∷ 2 ∷ 1 ∷ 3 ∷ 1 ∷ 2 ∷ 1 ∷ 1 ∷ [])

abbrev stco : List ℕ
stco = atom (0 ∷ 0 ∷ 0 ∷ 2 ∷ 1000 ∷ 900 ∷ [])

abbrev stsz : List ℕ
stsz = atom (0 ∷ 0 ∷ 0 ∷ 0 ∷ 4 ∷ 100 ∷ 50 ∷ 0 ∷ 70 ∷ [])

samples : per_chunk stsc 2 ≡ 3 ∷ 1 ∷ []
unfolding per_chunk deals entries rows_of be_at
samples = refl

-- the last entry holds for all chunks that remain
all_that_remain : per_chunk stsc 5 ≡ 3 ∷ 1 ∷ 1 ∷ 1 ∷ 1 ∷ []
unfolding per_chunk deals entries rows_of be_at
all_that_remain = refl

-- entries that do not rise: the second one holds for no chunk
not_rising : per_chunk (atom (0 ∷ 0 ∷ 0 ∷ 3 ∷ 1 ∷ 3 ∷ 1 ∷ 3 ∷ 1 ∷ 1 ∷ 2 ∷ 2 ∷ 2 ∷ [])) 3 ≡ 3 ∷ 3 ∷ 2 ∷ 2 ∷ []
unfolding per_chunk deals entries rows_of be_at
not_rising = refl

common : sizes (atom (0 ∷ 0 ∷ 0 ∷ 9 ∷ 3 ∷ [])) ≡ 9 ∷ 9 ∷ 9 ∷ []
unfolding sizes be_at
common = refl

-- sample 3 and sample 4
offsets : (offset_of (per_chunk stsc 2) (chunk_offsets stco) (sizes stsz) 2 ≡ 1150) × (offset_of (per_chunk stsc 2) (chunk_offsets stco) (sizes stsz) 3 ≡ 900)
unfolding offset_of per_chunk deals chunk_offsets offset_width numbers_in sizes words_after entries rows_of be_at
offsets = (refl, refl)

-- sample 4, and one past the last
places : (◌≡◌ {A = Located} (located_in (per_chunk stsc 2) (description_ids stsc 2) 3) (record { chunk = 1; within = 0; description = 1 }))
    × (◌≡◌ {A = Located} (located_in (per_chunk stsc 2) (description_ids stsc 2) 4) (record { chunk = 2; within = 0; description = 0 }))
unfolding located_in per_chunk description_ids deals entries rows_of be_at
places = (refl, refl)

-- two chunks and one description, one chunk, no description, no chunk; and no entry for no chunk
agreement : (deals_agree stsc 2 1 ≡ true) × (deals_agree stsc 1 1 ≡ false) × (deals_agree stsc 2 0 ≡ false) × (deals_agree stsc 0 1 ≡ false) × (deals_agree [] 0 1 ≡ true) × (deals_agree [] 1 1 ≡ false)
unfolding deals_agree deals entries rows_of be_at
agreement = (refl, refl, refl, refl, refl, refl)

clauses : (deals_contradict stsc 2 1 ≡ false) × (deals_contradict stsc 1 1 ≡ true) × (deals_contradict stsc 2 0 ≡ true) × (deals_contradict stsc 0 1 ≡ true) × (deals_contradict [] 0 1 ≡ false) × (deals_contradict [] 1 1 ≡ true)
unfolding deals_contradict deals entries rows_of be_at
clauses = (refl, refl, refl, refl, refl, refl)

-- the first chunk ends at 1,150
ends : (end_within 1150 (per_chunk stsc 2) (chunk_offsets stco) (sizes stsz) ≡ true) × (end_within 1149 (per_chunk stsc 2) (chunk_offsets stco) (sizes stsz) ≡ false)
unfolding per_chunk deals chunk_offsets offset_width numbers_in sizes words_after entries rows_of be_at
ends = (refl, refl)
