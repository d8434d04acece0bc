-- Sizes of tables, once over head and entry width: a table of 32-bit many entries of a 32-bit width fits 64 bits, and each entry that
-- it counts lies inside it.
-- Assumes nothing.
use Prim.Native.Nat.{ℕ, suc, ◌+◌, ◌*◌, ◌^◌, ◌≤◌, ◌<◌}
use mathlib.Core.Path.{◌≡◌}
use mathlib.Core.List.{List}
use lib.ListN.{length}
use native.Mathlib.Nat.{mul-le-mul, mul-le-mul_left, mul-suc}
use native.Mathlib.Omega.{arith}

pub wide : (a b : ℕ) → a < 2 ^ 32 → b < 2 ^ 32 → a * b ≤ 18446744065119617025
wide a b h g =
    let x : a ≤ 4294967295 = omega arith in
    let y : b ≤ 4294967295 = omega arith in
    mul-le-mul x y

pub entry_inside : (head w n i : ℕ) (a : List ℕ) → length a ≡ head + w * n → i < n → head + w * i + w ≤ length a
entry_inside head w n i a e h =
    let q : suc i ≤ n = omega arith in
    omega (arith, mul-le-mul_left w q, mul-suc w i)
