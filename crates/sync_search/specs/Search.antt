-- Whether a sample is sync, by halving stss.
use Rattle.std.specs.Prelude.{ℕ, ◌*◌, ◌/◌, ◌≡◌, Bool, true, false, cond, List, length, drop, ltb, leb, eqb}
use Rattle.bigendian.specs.BigEndian.{u32_at}
use Rattle.lists.specs.Halving.{last_passing}
use Rattle.words.specs.Words.{syncs_agree, is_sync}

-- the index of the last number of a part that is not above x, where they rise; of any other part what halving comes to
abbrev pub last_upto : List ℕ → ℕ → ℕ
last_upto part x = last_passing (λ i. leb (u32_at part (i * 4)) x) (length part / 4)

-- whether the number that halving comes to is the one asked; of a part with none it is not
abbrev pub searched_in : List ℕ → ℕ → Bool
searched_in part number = cond (ltb (length part) 4) false (eqb (u32_at part (last_upto part number * 4)) number)

-- the answer, of any table
unfoldable pub searched_sync : List ℕ → ℕ → Bool
searched_sync s number = cond (eqb (length s) 0) true (searched_in (drop 16 s) number)

-- the promise: that answer; of a table that is right for some number n of samples it is whether the sample is sync
pub record Searched (s : List ℕ) (number : ℕ) (r : Bool) : Type 0 where
  pub answer : r ≡ searched_sync s number
  pub right : (n : ℕ) → syncs_agree s n ≡ true → r ≡ is_sync s number
