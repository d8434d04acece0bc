-- stsc as the code goes through it. These need not be believed: they are between the crates' own functions, and a proof shows that they come
-- to the definitions of Chunks: `agree_clauses` of `proofs/Clauses.antt`, `offset_located` of `proofs/Finding.antt`.
use Rattle.std.specs.Prelude.{ℕ, ◌+◌, ◌-◌, Bool, true, false, cond, List, [], ◌∷◌, get_or, leb, eqb}
use Rattle.lists.specs.Lists.{before, between, holder}
use Rattle.chunks.specs.Chunks.{Deal, deals, first_of}
use Rattle.chunks.specs.declared.Located.{Located}

-- an entry holds for some chunk up to the next entry's first, has samples in each, and an ID in 1 to the number of descriptions
abbrev pub right_entry : ℕ → ℕ → ℕ → ℕ → ℕ → Bool
right_entry first next per id descriptions = cond (leb next first) false (cond (eqb per 0) false (cond (eqb id 0) false (leb id descriptions)))

abbrev pub dealing : ℕ → ℕ → List Deal → Bool
dealing chunks descriptions [] = true
dealing chunks descriptions (e ∷ es) =
    cond (right_entry e.first (first_of chunks es) e.per e.id descriptions) (dealing chunks descriptions es) false

-- refusal 9's part: the entries begin at chunk 1, or at one past the last of no chunks, and each is right
unfoldable pub deals_agree : List ℕ → ℕ → ℕ → Bool
deals_agree s chunks descriptions = cond (eqb (first_of chunks (deals s)) 1) (dealing chunks descriptions (deals s)) false

-- where the sample with index i lies, with the samples and the IDs of the chunks: the index of its chunk, its index in the chunk, and its
-- description ID
unfoldable pub located_in : List ℕ → List ℕ → ℕ → Located
located_in ps ids i = record { chunk = holder ps i; within = i - before ps (holder ps i); description = get_or ids (holder ps i) 0 }

-- the offset of a sample whose place was found
unfoldable pub located_offset : List ℕ → List ℕ → Located → ℕ → ℕ
located_offset cs zs p i = get_or cs p.chunk 0 + between zs (i - p.within) i
