-- Good numbers below 2 ^ 32, by each byte and the four before it. Nobody has to believe these definitions: they are between the crate's own
-- functions, and `proofs/Ended.antt` shows what they come to.
use Rattle.std.specs.Prelude.{cond, List, ℕ, zero, suc, ◌+◌, ◌-◌, ◌≤◌, ◌<◌, ltb, get_or}

-- whether a byte ends a number
abbrev pub end_of : ℕ → ℕ
end_of b = cond (ltb b 128) 1 0

-- how many of n bytes from a place on do
unfoldable pub ends_in : List ℕ → ℕ → ℕ → ℕ
ends_in bs from zero = 0
ends_in bs from (suc n) = ends_in bs from n + end_of (get_or bs (from + n) 0)

-- a byte can stand after four others, of which b₁ is the one just before it: a last group is not 0 if others precede it, a fifth group is below 16
pub record Fine (b b₁ b₂ b₃ b₄ : ℕ) : Type 0 where
  pub some : 128 ≤ b₁ → 0 < b
  pub low : 128 ≤ b₁ → 128 ≤ b₂ → 128 ≤ b₃ → 128 ≤ b₄ → b < 16

abbrev pub FineAt : List ℕ → ℕ → Type 0
FineAt bs x = Fine (get_or bs x 0) (get_or bs (x - 1) 0) (get_or bs (x - 2) 0) (get_or bs (x - 3) 0) (get_or bs (x - 4) 0)

-- each byte from a place up to another can
abbrev pub FineIn : List ℕ → ℕ → ℕ → Type 0
FineIn bs from to = (x : ℕ) → from ≤ x → x < to → FineAt bs x
