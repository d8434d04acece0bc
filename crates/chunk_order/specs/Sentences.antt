-- The eighth rule as a sentence: each chunk but the first begins past the offset of the one before it, and no earlier than where that ends.
use Rattle.std.specs.Prelude.{ℕ, suc, ◌+◌, ◌≤◌, ◌<◌, ◌≡◌, true, List, length, get_or}
use Rattle.chunk_order.specs.Order.{Extent, in_order}

-- the chunk with index k, from 0
abbrev pub chunk_at : List Extent → ℕ → Extent
chunk_at es k = get_or es k (record { offset = 0; bytes = 0 })

pub record Rising (es : List Extent) (k : ℕ) : Type 0 where
  pub past : (chunk_at es k).offset < (chunk_at es (suc k)).offset
  pub no_overlap : (chunk_at es k).offset + (chunk_at es k).bytes ≤ (chunk_at es (suc k)).offset

-- the rule says this, and nothing else
pub record RisingExactly (es : List Extent) : Type 0 where
  pub rises : in_order es ≡ true → (k : ℕ) → suc k < length es → Rising es k
  pub kept : ((k : ℕ) → suc k < length es → Rising es k) → in_order es ≡ true
