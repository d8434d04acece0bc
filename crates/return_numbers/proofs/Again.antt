-- A return that is put into places is read from them again.
-- Assumes nothing.
use Prim.Native.Nat.{ℕ, ◌+◌, ◌≤◌, ◌<◌}
use mathlib.Core.Path.{◌≡◌, refl, sym, ap, ◌∙◌}
use mathlib.Core.List.{List, [], ◌∷◌, ◌++◌, map, append_assoc}
use native.Mathlib.Omega.{arith}
use native.Mathlib.Nat.{zero-add, mod-eq_of_lt}
use mir.Val.{Val}
use denote.Shadow.{shadow}
use denote.Array.{each}
use denote.Builtin.{u32}
use lib.ListN.{length, get_or, take, drop, length-append}
use lib.Seq.{sets, sets-eq, take_at, drop_at, drop-append-add, get_or-append-add}
use Rattle.lists.proofs.Stores.{sets_append}
use Rattle.return_totals.specs.declared.FilmReturn.{FilmReturn}
use Rattle.return_numbers.specs.Numbers.{return_numbers, low, return_in, PutsReturn}

-- a state as the code holds it
pub record Whole (r : FilmReturn) : Type 0 where
  pub refused : length r.refused ≡ 14
  pub scales : length r.scales ≡ 32
  pub units : length r.units ≡ 32
  pub low : map low r.scales ≡ r.scales

-- the elements of an array of 32-bit numbers are not cut
pub array_low : (xs : List ℕ) (us : List Val) → shadow (each u32.Denot u32.own_val xs us) → map low xs ≡ xs
array_low [] us h = refl
array_low (x ∷ xs) [] h = absurd h
array_low (x ∷ xs) (u ∷ us) h = let b : x < 4294967296 = h.0.1 in rw (mod-eq_of_lt b, array_low xs us h.1)

-- the return that was read, by the parts in which it was
pub return_is : (ns refused scales units : List ℕ) → refused ≡ take 14 (drop 1 ns) → scales ≡ map low (take 32 (drop 19 ns)) → units ≡ take 32 (drop 51 ns)
    → (record { accepted = get_or ns 0 0; refused = refused; tracks = get_or ns 15 0; samples = get_or ns 16 0; bytes = get_or ns 17 0; count = get_or ns 18 0; scales = scales; units = units }) ≡ return_in ns
unfolding return_in
return_is ns refused scales units p q s = rw (p, q, s)

module _ (r : FilmReturn) (w : Whole r) where
  -- what follows the refused ones
  abbrev tail : List ℕ → List ℕ
  tail rest = r.tracks ∷ r.samples ∷ r.bytes ∷ r.count ∷ (r.scales ++ (r.units ++ rest))

  numbers_then : (rest : List ℕ) → return_numbers r ++ rest ≡ r.accepted ∷ (r.refused ++ tail rest)
  unfolding return_numbers
  numbers_then rest = rw (append_assoc r.refused _ rest, append_assoc r.scales r.units rest)

  numbers_length : length (return_numbers r) ≡ 83
  unfolding return_numbers
  numbers_length = omega (arith, length-append r.refused (r.tracks ∷ r.samples ∷ r.bytes ∷ r.count ∷ (r.scales ++ r.units)), length-append r.scales r.units, w.refused, w.scales, w.units)

  at_tail : (rest : List ℕ) (k n : ℕ) → n ≡ 14 + k → get_or (r.refused ++ tail rest) n 0 ≡ get_or (tail rest) k 0
  at_tail rest k n e = let z : n ≡ length r.refused + k = omega (arith, w.refused) in rw z (get_or-append-add r.refused (tail rest) k 0)

  past_tail : (rest : List ℕ) (k n : ℕ) → n ≡ 14 + k → drop n (r.refused ++ tail rest) ≡ drop k (tail rest)
  past_tail rest k n e = let z : n ≡ length r.refused + k = omega (arith, w.refused) in rw z (drop-append-add r.refused (tail rest) k)

  read_again : (rest : List ℕ) → return_in (r.accepted ∷ (r.refused ++ tail rest)) ≡ r
  unfolding return_in
  read_again rest =
      rw (
        take_at r.refused (tail rest) 14 w.refused,
        at_tail rest 0 14 (omega arith),
        at_tail rest 1 15 (omega arith),
        at_tail rest 2 16 (omega arith),
        at_tail rest 3 17 (omega arith),
        past_tail rest 4 18 (omega arith),
        past_tail rest 36 50 (omega arith),
        take_at r.scales (r.units ++ rest) 32 w.scales,
        w.low,
        drop_at r.scales (r.units ++ rest) 32 w.scales,
        take_at r.units rest 32 w.units,
      )

  pub put_again : (room after : List ℕ) → 83 ≤ length room → after ≡ sets room 0 (return_numbers r) → PutsReturn r room after
  put_again room after h e =
      let s : sets room 0 (return_numbers r) ≡ return_numbers r ++ drop 83 room = rw (numbers_length) at (rw zero-add at (sets-eq (return_numbers r) room 0 (omega (arith, numbers_length)))) in
      let p = e ∙ s in
      record { placed = p; rest = rw p (drop_at (return_numbers r) (drop 83 room) 83 numbers_length); again = ap return_in (p ∙ numbers_then (drop 83 room)) ∙ read_again (drop 83 room) }

  -- five puts, one after the other
  pub puts : (a b c d e room : List ℕ) → a ≡ sets room 0 (r.accepted ∷ []) → b ≡ sets a 1 r.refused → c ≡ sets b 15 (r.tracks ∷ r.samples ∷ r.bytes ∷ r.count ∷ []) → d ≡ sets c 19 r.scales
      → e ≡ sets d 51 r.units → e ≡ sets room 0 (return_numbers r)
  unfolding return_numbers
  puts a b c d e room p q s t u =
      let f1 = sets_append room 0 (r.accepted ∷ []) (r.refused ++ (r.tracks ∷ r.samples ∷ r.bytes ∷ r.count ∷ (r.scales ++ r.units))) in
      let f2 = sets_append a 1 r.refused (r.tracks ∷ r.samples ∷ r.bytes ∷ r.count ∷ (r.scales ++ r.units)) in
      let f3 = sets_append b 15 (r.tracks ∷ r.samples ∷ r.bytes ∷ r.count ∷ []) (r.scales ++ r.units) in
      let f4 = sets_append c 19 r.scales r.units in
      let n2 : 1 + length r.refused ≡ 15 = omega (arith, w.refused) in
      let n4 : 19 + length r.scales ≡ 51 = omega (arith, w.scales) in
      u
      ∙ sym (rw (n4, ← t) at f4)
      ∙ sym (rw (← s) at f3)
      ∙ sym (rw (n2, ← q) at f2)
      ∙ sym (rw (← p) at f1)
