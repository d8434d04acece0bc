-- Whether runs count n samples, as the code counts down. This need not be believed: it is between the crates' own functions, and
-- `proofs/Sentences.antt` says it without the subtraction (`Counted`).
use Rattle.std.specs.Prelude.{ℕ, ◌-◌, Bool, false, cond, List, [], ◌∷◌, ltb, eqb}
use Rattle.lists.specs.Lists.{Run}

-- whether no run counts 0 samples and all of them total n
abbrev pub counting : ℕ → List Run → Bool
counting n [] = eqb n 0
counting n (r ∷ rs) = cond (eqb r.count 0) false (cond (ltb n r.count) false (counting (n - r.count) rs))
