-- One turn of the loop over the numbers of stss that looks for a group that is too long.
-- Assumes nothing.
use Prim.Native.Nat.{ℕ, ◌-◌, ◌≤◌, ◌<◌}
use mathlib.Core.Path.{◌≡◌, ap, ◌∙◌}
use mathlib.Core.Bool.{true}
use mathlib.Core.List.{List, ◌∷◌}
use borrow.Author.Tests.{lt-ltb, le-ltb}
use lib.Dec.{leb}
use lib.ListN.{length, drop}
use Rattle.bigendian.specs.BigEndian.{u32_at}
use Rattle.words.specs.Words.{words_in}
use Rattle.words.proofs.Turns.{words_none, words_next}
use Rattle.quay_rules.specs.Computed.{long_group}

-- the first number x of a part
module _ (t : List ℕ) (x : ℕ) (e : x ≡ u32_at t 0) (h : 4 ≤ length t) (n last d : ℕ) (f : d ≡ x - last) where
  opened : words_in t ≡ x ∷ words_in (drop 4 t)
  opened = rw e (words_next t h)

  pub group_long : 250 < d → long_group 250 n last (words_in t) ≡ true
  group_long l = ap (long_group 250 n last) opened ∙ rw (← f, lt-ltb 250 d l)

  pub group_on : d ≤ 250 → long_group 250 n last (words_in t) ≡ long_group 250 n x (words_in (drop 4 t))
  group_on l = ap (long_group 250 n last) opened ∙ rw (← f, le-ltb 250 d l)

pub group_end : (t : List ℕ) (n last d : ℕ) → length t < 4 → d ≡ n - last → long_group 250 n last (words_in t) ≡ leb 250 d
group_end t n last d h f = ap (long_group 250 n last) (words_none t h) ∙ rw (← f)
