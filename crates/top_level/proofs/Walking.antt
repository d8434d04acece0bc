-- The walk over a whole file: step by step it says what the atoms from its place on say, and it has steps enough to reach the end.
-- Assumes nothing.
use Prim.Native.Nat.{ℕ, zero, suc, ◌+◌, ◌-◌, ◌*◌, ◌/◌, ◌≤◌, ◌<◌}
use mathlib.Core.Path.{◌≡◌, refl, sym, ap, ◌∙◌}
use mathlib.Core.List.{List, [], ◌∷◌}
use mathlib.Core.Bool.{Bool, true, false, cond}
use lib.ListN.{length, take, drop, length-drop, drop_of_length-le}
use lib.Seq.{drop-drop, length-take-le}
use lib.Dec.{ltb, eqb}
use borrow.Author.Tests.{lt-ltb, le-ltb, ltb-true, ltb-false, eqb-true, eqb-false}
use native.Mathlib.Omega.{arith}
use native.Mathlib.Numerals.{add-one}
use native.Mathlib.Nat.{zero-add}
use native.Mathlib.Decide.{dec_lt}
use Rattle.bigendian.specs.BigEndian.{u32_at}
use Rattle.bigendian.proofs.Laws.{be_at_take}
use Rattle.atoms.specs.Kinds.{file, moov}
use Rattle.atoms.specs.Pieces.{pieces_after, total, filled_by}
use Rattle.atoms.specs.Atoms.{kind_of, size_in, atoms, filled, count_in, child_in}
use Rattle.atoms.proofs.Laws.{size_le, size_none, atoms_next, fill_stop, fill_next}
use Rattle.top_level.specs.declared.Walk.{Walk}
use Rattle.top_level.specs.declared.Next.{Next}
use Rattle.top_level.specs.declared.Next.TheVariants.{Read, Found, Refused}
use Rattle.top_level.specs.Steps.{size_ahead, start, past, ended, stepped}
use Rattle.top_level.specs.TopLevel.{header_at, on_by, walk, walked, moov_place, moov_in, top_level, OneMoov, Finds}
use Rattle.top_level.proofs.Steps.{past_moov, past_other, step_long, step_end, step_stop, step_on}
use Rattle.top_level.proofs.Ahead.{ahead_top}
use Rattle.top_level.proofs.Passing.{passed, passed_next, none}
use Rattle.top_level.proofs.Places.{First, first_stands, moov_alone}

-- what the atoms of t say, from the walk w before them
said : List ℕ → Walk → Next
said t w = cond (filled file t) (ended (passed (atoms file t) w)) (Refused 2)

-- ---- a step

-- at the file's end no walk goes on
end_stays : (f : Walk → Next) (w : Walk) → on_by f (ended w) ≡ ended w
unfolding ended on_by
end_stays f w = go (eqb w.moovs 1)
  where
    go : (b : Bool) → on_by f (cond b (Found w.at w.size) (Refused 3)) ≡ cond b (Found w.at w.size) (Refused 3)
    go true = refl
    go false = refl

said_end : (w : Walk) → said [] w ≡ ended w
unfolding said filled_by total pieces_after passed
said_end w = refl

-- past an atom the length stays, and the place is past it
pub past_length : (z k : ℕ) (w : Walk) → (past z k w).length ≡ w.length
past_length z k w = go (eqb k moov) refl
  where
    go : (b : Bool) → eqb k moov ≡ b → (past z k w).length ≡ w.length
    go true e = rw (past_moov z k w (eqb-true _ _ e))
    go false e = rw (past_other z k w (eqb-false _ _ e))

pub past_place : (z k : ℕ) (w : Walk) → (past z k w).place ≡ w.place + z
past_place z k w = go (eqb k moov) refl
  where
    go : (b : Bool) → eqb k moov ≡ b → (past z k w).place ≡ w.place + z
    go true e = rw (past_moov z k w (eqb-true _ _ e))
    go false e = rw (past_other z k w (eqb-false _ _ e))

said_stop : (t : List ℕ) (w : Walk) → size_in file t < 8 → 0 < length t → said t w ≡ Refused 2
unfolding said
said_stop t w h g = rw (fill_stop file t (size_in file t) refl h g)

said_next : (t : List ℕ) (w : Walk) (z : ℕ) → z ≡ size_in file t → 8 ≤ z → said t w ≡ said (drop z t) (past z (u32_at t 4) w)
unfolding said
said_next t w z e h =
    rw (
      fill_next file t z e h,
      atoms_next file t z e h,
      passed_next (take z t) (atoms file (drop z t)) w z (u32_at t 4) (length-take-le z t (omega (arith, size_le file t))) (be_at_take 4 z t 4 h),
    )

module _ (s : List ℕ) (g : length s ≤ 9223372036854775807) (n : ℕ) where
  -- with n steps the walk from v on says what the atoms from its place on say
  abbrev Says : Type 0
  Says = (v : Walk) → v.length ≡ length s → v.place ≤ length s → length s - v.place < 8 * n → walk n s v ≡ said (drop v.place s) v

  module _ (ih : Says) (w : Walk) (l : w.length ≡ length s) where
    at_end : length s ≤ w.place → walk (suc n) s w ≡ said (drop w.place s) w
    unfolding walk
    at_end p =
        rw (step_end (header_at s w.place) w (rw l g) (rw l p), end_stays (walk n s) w, drop_of_length-le s {i = w.place} p)
        (sym (said_end w))

    module _ (p : w.place < length s) (b : length s - w.place < 8 * suc n) where
      abbrev t : List ℕ
      t = drop w.place s

      ahead : size_in file t ≡ size_ahead (w.length - w.place) (header_at s w.place)
      ahead = sym (ahead_top t) ∙ rw (l, length-drop w.place s)

      stops : size_in file t < 8 → walk (suc n) s w ≡ said t w
      unfolding walk on_by
      stops h =
          rw (step_stop (header_at s w.place) w (rw l g) (size_in file t) ahead (rw l p) (size_none file t h))
          (sym (said_stop t w h (omega (arith, length-drop w.place s))))

      goes : 8 ≤ size_in file t → walk (suc n) s w ≡ said t w
      unfolding walk on_by
      goes h =
          let z = size_in file t in
          let k = u32_at t 4 in
          let q = size_le file t in
          let d = length-drop w.place s in
          let y : w.place + z ≤ length s = omega arith in
          let r = ih (past z k w) (past_length z k w ∙ l) (rw (past_place z k w) y) (rw (past_place z k w) (omega arith)) in
          rw (step_on (header_at s w.place) w (rw l g) z ahead (rw l p) (λ e. omega arith), be_at_take 4 16 t 4 (omega arith), said_next t w z refl h)
          (r ∙ rw (past_place z k w, drop-drop z w.place s))

      inside : walk (suc n) s w ≡ said t w
      inside = elim (dec_lt (size_in file t) 8) [
        | yes h ↦ stops h
        | no h ↦ goes (omega arith)
      ]

walks : (s : List ℕ) (g : length s ≤ 9223372036854775807) (n : ℕ) → Says s g n
walks s g zero v l p b = absurd (omega arith)
walks s g (suc n) v l p b = elim (dec_lt v.place (length s)) [
  | yes h ↦ inside s g n (walks s g n) v l h b
  | no h ↦ at_end s g n (walks s g n) v l (omega arith)
]

-- ---- the whole file

long_walk : (s : List ℕ) → 9223372036854775807 < length s → walked s ≡ Refused 1
unfolding walk on_by
long_walk s h = rw (add-one (length s / 8), step_long (header_at s 0) (start (length s)) h)

-- a file that is not too long
short_walk : (s : List ℕ) → length s ≤ 9223372036854775807 → walked s ≡ cond (filled file s) (moov_in s) (Refused 2)
unfolding said moov_in
short_walk s h =
    walks s h (length s / 8 + 1) (start (length s)) refl (omega arith) (omega arith)
    ∙ ap (λ (x : Next). cond (filled file s) x (Refused 2)) (rw (zero-add (moov_place (atoms file s))) at (none (atoms file s) (start (length s)) refl))

says : (s : List ℕ) → walked s ≡ top_level s
unfolding top_level
says s = go (ltb 9223372036854775807 (length s)) refl
  where
    go : (b : Bool) → ltb 9223372036854775807 (length s) ≡ b → walked s ≡ cond b (Refused 1) (cond (filled file s) (moov_in s) (Refused 2))
    go true e = long_walk s (ltb-true _ _ e)
    go false e = short_walk s (ltb-false _ _ e)

-- ---- the moov that is told

abbrev tag : Next → ℕ
tag (Read w) = 0
tag (Found at size) = 1
tag (Refused r) = 2 + r

abbrev place_in : Next → ℕ
place_in (Read w) = 0
place_in (Found at size) = at
place_in (Refused r) = 0

abbrev size_found : Next → ℕ
size_found (Read w) = 0
size_found (Found at size) = size
size_found (Refused r) = 0

-- which way out an answer comes from
module _ (x y : ℕ) where
  abbrev outs : Bool → Bool → Bool → Next
  outs long full one = cond long (Refused 1) (cond full (cond one (Found x y) (Refused 3)) (Refused 2))

  found_out : (long full one : Bool) (at size : ℕ) → outs long full one ≡ Found at size → (full ≡ true) × (one ≡ true) × (x ≡ at) × (y ≡ size)
  found_out true full one at size e = let z = ap tag e in absurd (omega arith)
  found_out false false one at size e = let z = ap tag e in absurd (omega arith)
  found_out false true false at size e = let z = ap tag e in absurd (omega arith)
  found_out false true true at size e = (refl, refl, ap place_in e, ap size_found e)

  two_out : (long full one : Bool) → outs long full one ≡ Refused 2 → full ≡ false
  two_out true full one e = let z = ap tag e in absurd (omega arith)
  two_out false false one e = refl
  two_out false true false e = let z = ap tag e in absurd (omega arith)
  two_out false true true e = let z = ap tag e in absurd (omega arith)

  three_out : (long full one : Bool) → outs long full one ≡ Refused 3 → (full ≡ true) × (one ≡ false)
  three_out true full one e = let z = ap tag e in absurd (omega arith)
  three_out false false one e = let z = ap tag e in absurd (omega arith)
  three_out false true false e = (refl, refl)
  three_out false true true e = let z = ap tag e in absurd (omega arith)

module _ (s : List ℕ) where
  abbrev the : List ℕ
  the = child_in file moov 0 s

  out_of : (n : Next) → walked s ≡ n
      → outs (moov_place (atoms file s)) (length the) (ltb 9223372036854775807 (length s)) (filled file s) (eqb (count_in file moov s) 1) ≡ n
  unfolding top_level moov_in
  out_of n e = sym (says s) ∙ e

  -- refused 2 only where the atoms do not fill the file, and 3 only where they do and not one of them is a moov
  pub only_two : walked s ≡ Refused 2 → filled file s ≡ false
  only_two e = two_out (moov_place (atoms file s)) (length the) (ltb 9223372036854775807 (length s)) (filled file s) (eqb (count_in file moov s) 1) (out_of (Refused 2) e)

  pub only_three : walked s ≡ Refused 3 → (filled file s ≡ true) × (count_in file moov s ≡ 1 → ⊥)
  only_three e =
      let o = three_out (moov_place (atoms file s)) (length the) (ltb 9223372036854775807 (length s)) (filled file s) (eqb (count_in file moov s) 1) (out_of (Refused 3) e) in
      (o.0, eqb-false _ _ o.1)

module _ (s : List ℕ) (at size : ℕ) (e : walked s ≡ Found at size) where
  told : (filled file s ≡ true) × (eqb (count_in file moov s) 1 ≡ true) × (moov_place (atoms file s) ≡ at) × (length (the s) ≡ size)
  told =
      found_out (moov_place (atoms file s)) (length (the s)) (ltb 9223372036854775807 (length s)) (filled file s) (eqb (count_in file moov s) 1) at size
      (out_of s (Found at size) e)

  pub only_found : (filled file s ≡ true) × (count_in file moov s ≡ 1)
  only_found = (told.0, eqb-true _ _ told.1)

  stands : First s
  stands = let n = only_found.1 in first_stands s (omega arith)

  fits : at + size ≤ length s
  fits = rw (← told.2, ← told.3) stands.inside

  there : take size (drop at s) ≡ the s
  there = rw (← told.2, ← told.3) stands.there

  by_itself : OneMoov (take size (drop at s))
  by_itself = let n = only_found.1 in rw there (moov_alone s (omega arith))

pub finds : (s : List ℕ) → Finds s
finds s = record { says = says s; inside = fits s; moov_there = there s; alone = by_itself s }
