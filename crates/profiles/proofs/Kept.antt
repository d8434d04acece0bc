-- The records kept of a profile, record after record: what a walk learns at a place t.
-- Assumes nothing.
use Prim.Native.Nat.{ℕ, suc, ◌+◌, ◌*◌, ◌≤◌, ◌<◌}
use mathlib.Core.Path.{◌≡◌, refl}
use mathlib.Core.List.{List, [], ◌∷◌, ◌++◌}
use native.Mathlib.Omega.{arith}
use native.Mathlib.Nat.{zero-add}
use borrow.Author.Tests.{eq-eqb, ne_eqb}
use lib.Dec.{lit<, lit≤}
use lib.ListN.{length, take, drop}
use lib.Seq.{sets, sets-eq}
use Rattle.bigendian.specs.BigEndian.{u32_at}
use Rattle.bigendian.proofs.Laws.{be_at_take}
use Rattle.lists.specs.Entries.{entries}
use Rattle.lists.proofs.Rows.{rows_none, rows_next}
use Rattle.profiles.specs.Profiles.{kept, record_numbers, kept_in, kept_of}

pub kept-in : (p : List ℕ) → kept_of p ≡ kept_in (drop 16 p)
unfolding kept_of kept_in entries
kept-in p = refl

pub kept_none : (t : List ℕ) → length t < 16 → kept_in t ≡ []
unfolding kept_in kept
kept_none t h = rw (rows_none 16 t h)

pub kept_here : (t : List ℕ) (c : ℕ) → 16 ≤ length t → c ≡ u32_at t 8 → (c ≡ 0 → ⊥) → kept_in t ≡ take 16 t ∷ kept_in (drop 16 t)
unfolding kept_in kept
kept_here t c h e n = rw (rows_next 16 t (lit< tt) h, be_at_take 4 16 t 8 (lit≤ tt), ← e, ne_eqb c 0 n)

pub kept_next : (t : List ℕ) (c : ℕ) → 16 ≤ length t → c ≡ u32_at t 8 → c ≡ 0 → kept_in t ≡ kept_in (drop 16 t)
unfolding kept_in kept
kept_next t c h e z = rw (rows_next 16 t (lit< tt) h, be_at_take 4 16 t 8 (lit≤ tt), ← e, eq-eqb c 0 z)

-- three numbers for each record
pub numbers_length : (l : List (List ℕ)) → length (record_numbers l) ≡ 3 * length l
numbers_length [] = refl
numbers_length (e ∷ l) = omega (arith, numbers_length l)

-- ---- a turn of the walk that puts them, at a place whose first record is kept

module _ (t : List ℕ) (rest : List (List ℕ)) (q : kept_in t ≡ take 16 t ∷ rest) where
  pub room_here : (at k : ℕ) → at + 3 * length (kept_in t) ≤ k → (at + 3 ≤ k) × (at + 3 + 3 * length rest ≤ k)
  room_here at k h = let z : at + 3 * suc (length rest) ≤ k = rw q at h in (omega arith, omega arith)

  pub turn : (room new goal : List ℕ) (at : ℕ) → new ≡ sets room at (record_numbers (t ∷ [])) → sets room at (record_numbers (kept_in t)) ≡ goal
      → sets new (at + 3) (record_numbers rest) ≡ goal
  turn room new goal at d h =
      let z : sets room at (record_numbers (take 16 t ∷ rest)) ≡ goal = rw q at h in
      let w = rw (be_at_take 4 16 t 4 (lit≤ tt), be_at_take 4 16 t 8 (lit≤ tt), be_at_take 4 16 t 12 (lit≤ tt)) at z in
      let e : at + 3 ≡ suc (suc (suc at)) = omega arith in
      rw (d, e) w

-- all of them, in room for them all
pub all_records : (l : List (List ℕ)) (room : List ℕ) → 3 * length l ≤ length room → sets room 0 (record_numbers l) ≡ record_numbers l ++ drop (length (record_numbers l)) room
all_records l room h = rw (zero-add) at (sets-eq (record_numbers l) room 0 (omega (arith, numbers_length l)))
