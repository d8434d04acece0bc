-- The fifth rule as a sentence on the samples' flags: sample 1 is sync, and after a sync sample the next sync one, or the end, comes within 250 samples.
use Rattle.std.specs.Prelude.{ℕ, ◌+◌, ◌≤◌, ◌<◌, ◌≡◌, Bool, true, false, List, length, get_or}
use Rattle.quay_rules.specs.Rules.{lacks_syncs}

-- the sample with index i, from 0, is sync
abbrev pub Sync : List Bool → ℕ → Type 0
Sync bs i = get_or bs i false ≡ true

pub record Spaced (bs : List Bool) : Type 0 where
  pub starts : Sync bs 0
  pub next : (i : ℕ) → Sync bs i → i + 250 < length bs → (j : ℕ) × ((i < j) × ((j ≤ i + 250) × Sync bs j))

-- the rule says this, and nothing else
pub record SpacedExactly (bs : List Bool) : Type 0 where
  pub spaced : lacks_syncs bs ≡ false → Spaced bs
  pub kept : Spaced bs → lacks_syncs bs ≡ false
