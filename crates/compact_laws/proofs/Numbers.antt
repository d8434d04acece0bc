-- A number of 32 bits that was written is read again.
-- Assumes nothing.
use Prim.Native.Nat.{ℕ, ◌+◌, ◌*◌, ◌/◌, ◌%◌, ◌<◌}
use mathlib.Core.Path.{◌≡◌, refl}
use mathlib.Core.List.{List, ◌++◌}
use native.Mathlib.Omega.{arith}
use native.Mathlib.Nat.{div-div-eq-div-mul, zero-add}
use Rattle.bigendian.specs.BigEndian.{be_at, u32_at}
use Rattle.byte_writing.specs.Bytes.{be32}

last : (n : ℕ) → n / 256 * 256 + n % 256 ≡ n
last n = omega arith

less : (n m : ℕ) → n < m * 256 → n / 256 < m
less n m h = omega arith

only : (n : ℕ) → n < 256 → n % 256 ≡ n
only n h = omega arith

digits : (n : ℕ) → n < 4294967296 → ((n / 16777216 % 256 * 256 + n / 65536 % 256) * 256 + n / 256 % 256) * 256 + n % 256 ≡ n
digits n h =
    let a : n / 256 / 256 ≡ n / 65536 = div-div-eq-div-mul n 256 256 in
    let b : n / 65536 / 256 ≡ n / 16777216 = div-div-eq-div-mul n 65536 256 in
    let l = less (n / 256 / 256) 256 (less (n / 256) 65536 (less n 16777216 h)) in
    rw (← b, ← a, only (n / 256 / 256 / 256) l, last (n / 256 / 256), last (n / 256), last n) refl

pub read_written : (n : ℕ) (r : List ℕ) → n < 4294967296 → u32_at (be32 n ++ r) 0 ≡ n
unfolding be32 be_at
read_written n r h = rw (zero-add) (digits n h)
