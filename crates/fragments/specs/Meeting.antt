-- That the walk over a file's top level meets every fragment: a host that reads the headers alone, and asks of each whether it is a fragment's,
-- knows what a reader of the whole file knows.
use Rattle.std.specs.Prelude.{ℕ, zero, suc, ◌+◌, ◌/◌, ◌≤◌, ◌≡◌, List, [], ◌∷◌, Bool, true, false, ◌||◌, length, ltb, eqb}
use Rattle.bigendian.specs.BigEndian.{u32_at}
use Rattle.atoms.specs.Kinds.{file}
use Rattle.atoms.specs.Atoms.{filled, count_in}
use Rattle.top_level.specs.declared.Walk.{Walk}
use Rattle.top_level.specs.declared.Next.{Next}
use Rattle.top_level.specs.declared.Next.TheVariants.{Read, Found, Refused}
use Rattle.top_level.specs.Steps.{start, stepped}
use Rattle.top_level.specs.TopLevel.{header_at}
use Rattle.fragments.specs.Fragments.{moof}

-- the type k of a header that the walk has passed, and those after it by f; a header where it ends is not passed
unfoldable pub passing : ℕ → (Walk → List ℕ) → Next → List ℕ
passing k f (Read w) = k ∷ f w
passing k f (Found at size) = []
passing k f (Refused r) = []

-- the types of the headers that the walk over the file s passes in at most n steps from w on
unfoldable pub kinds_passed : ℕ → List ℕ → Walk → List ℕ
kinds_passed zero s w = []
kinds_passed (suc n) s w = passing (u32_at (header_at s w.place) 4) (kinds_passed n s) (stepped (header_at s w.place) w)

-- from the file's first byte to its end
abbrev pub kinds_met : List ℕ → List ℕ
kinds_met s = kinds_passed (length s / 8 + 1) s (start (length s))

-- whether one of some types is that of a fragment
unfoldable pub any_fragment : List ℕ → Bool
any_fragment [] = false
any_fragment (k ∷ ks) = eqb k moof || any_fragment ks

-- a file s whose atoms fill it, and that is no longer than a walk may be: a fragment is met exactly if the file has one at top level
pub record MeetsFragments (s : List ℕ) : Type 0 where
  pub met : length s ≤ 9223372036854775807 → filled file s ≡ true → any_fragment (kinds_met s) ≡ ltb 0 (count_in file moof s)
