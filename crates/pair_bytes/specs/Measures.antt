-- The numbers of some pairs as a slip writes them: how long they are, and what writing them leaves. Between the crates' own functions.
use Rattle.std.specs.Prelude.{ℕ, ◌+◌, ◌≡◌, List, length}
use Rattle.std.proofs.lemmas.List.Edits.{sets}
use Rattle.leb128.specs.Numbers.{writes}
use Rattle.slip_head.specs.Bytes.{any_wide}
use Rattle.pairs.specs.Pairs.{flat}
use Rattle.pairs.specs.declared.Pair.{Pair}
use Rattle.pair_bytes.specs.declared.Measured.{Measured}

-- their bytes
unfoldable pub pair_bytes : List Pair → List ℕ
pair_bytes qs = writes (flat qs)

-- how many bytes these are, and whether "some number is 2^32 or more"
abbrev pub measured_of : List Pair → Measured
measured_of qs = record { bytes = length (pair_bytes qs); wide = any_wide (flat qs) }

-- they were written from the place `at` on; past is the place past them
pub record Wrote (qs : List Pair) (out : List ℕ) (at past : ℕ) (after : List ℕ) : Type 0 where
  pub ends : past ≡ at + length (pair_bytes qs)
  pub stored : after ≡ sets out at (pair_bytes qs)
