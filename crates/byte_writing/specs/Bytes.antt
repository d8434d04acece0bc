-- Bytes that are written.
use Rattle.std.specs.Prelude.{ℕ, ◌+◌, ◌/◌, ◌%◌, ◌≤◌, ◌≡◌, List, [], ◌∷◌, ◌++◌, length}
use Rattle.std.proofs.lemmas.List.Edits.{sets}

-- a number in four bytes, most significant first; of a number of 2^32 or more its lowest 32 bits
unfoldable pub be32 : ℕ → List ℕ
be32 n = n / 16777216 % 256 ∷ n / 65536 % 256 ∷ n / 256 % 256 ∷ n % 256 ∷ []

-- one after the other
unfoldable pub joined : List (List ℕ) → List ℕ
joined [] = []
joined (a ∷ l) = a ++ joined l

-- what a writer asks for: there is room for the bytes from the offset `at` on
abbrev pub Fits : List ℕ → List ℕ → ℕ → Type 0
Fits bytes out at = at + length bytes ≤ length out

-- what a writer promises: it returns the offset past the bytes; they are written, and nothing else has changed
abbrev pub Wrote : List ℕ → List ℕ → ℕ → ℕ → List ℕ → Type 0
Wrote bytes out at r after = (r ≡ at + length bytes) × (after ≡ sets out at bytes)
