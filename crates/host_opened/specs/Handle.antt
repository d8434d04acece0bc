-- A handle as numbers: 19 of them, in the order of its structs' fields.
use Rattle.std.specs.Prelude.{ℕ, ◌≤◌, ◌≡◌, List, [], ◌∷◌, length}
use Rattle.hand.specs.Places.{Hands}
use Rattle.table_numbers.specs.Numbers.{low_at, part_at, tables_at}
use Rattle.opened.specs.declared.Opened.{Opened}

unfoldable pub opened_numbers : Opened → List ℕ
opened_numbers h =
    h.tables.stts.at
    ∷ h.tables.stts.len
    ∷ h.tables.ctts.at
    ∷ h.tables.ctts.len
    ∷ h.tables.stsc.at
    ∷ h.tables.stsc.len
    ∷ h.tables.stsz.at
    ∷ h.tables.stsz.len
    ∷ h.tables.offsets.at
    ∷ h.tables.offsets.len
    ∷ h.tables.stss.at
    ∷ h.tables.stss.len
    ∷ h.elst.at
    ∷ h.elst.len
    ∷ h.samples
    ∷ h.chunks
    ∷ h.scale
    ∷ h.movie
    ∷ h.total
    ∷ []

-- the handle that numbers are, whatever they are: a field of 32 bits takes the lowest 32, and a number that is not there counts as 0
unfoldable pub opened_in : List ℕ → Opened
opened_in ns =
    record {
      tables = tables_at ns;
      elst = part_at ns 12;
      samples = low_at ns 14;
      chunks = low_at ns 15;
      scale = low_at ns 16;
      movie = low_at ns 17;
      total = low_at ns 18;
    }

-- the promise of `hand_handle`: the numbers of h in the first places, and what is then in the places is h again
pub record HandsHandle (h : Opened) (places : List ℕ) (r : ℕ) (after : List ℕ) : Type 0 where
  pub handed : Hands 0 (opened_numbers h) places r after
  pub again : 19 ≤ length places → opened_in after ≡ h
