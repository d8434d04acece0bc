-- Big-endian numbers in a list of bytes.
use Rattle.std.specs.Prelude.{ℕ, zero, suc, ◌+◌, ◌-◌, ◌*◌, cond, List, get_or, ℤ, pos, negsuc, ltb}

-- the number written by the n bytes from `at` on, the most significant first; a byte past the end counts as 0
unfoldable pub be_at : ℕ → List ℕ → ℕ → ℕ
be_at zero s at = 0
be_at (suc k) s at = be_at k s at * 256 + get_or s (at + k) 0

-- the numbers of 16, 32 and 64 bits
abbrev pub u16_at : List ℕ → ℕ → ℕ
u16_at s at = be_at 2 s at

abbrev pub u32_at : List ℕ → ℕ → ℕ
u32_at s at = be_at 4 s at

abbrev pub u64_at : List ℕ → ℕ → ℕ
u64_at s at = be_at 8 s at

-- 32 bits in two's complement: n below 2 ^ 31, and n - 2 ^ 32 from there on (negsuc k is -(k + 1))
unfoldable pub signed32 : ℕ → ℤ
signed32 n = cond (ltb n 2147483648) (pos n) (negsuc (4294967295 - n))

-- the signed number of 32 bits
abbrev pub i32_at : List ℕ → ℕ → ℤ
i32_at s at = signed32 (u32_at s at)
