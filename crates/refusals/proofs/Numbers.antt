-- Refusals and their numbers: each has one of 1 to 21, and each of these is a refusal's. So a result is known by its number, and what holds
-- of each refusal of the list holds of all.
-- Assumes nothing.
use Prim.Native.Nat.{ℕ, suc, zero, ◌+◌, ◌-◌, ◌≤◌, ◌<◌}
use mathlib.Core.Path.{◌≡◌, refl, sym, ap, ◌∙◌}
use mathlib.Core.List.{List, [], ◌∷◌}
use mathlib.Core.Bool.{Bool, true, false, ◌&&◌}
use native.Mathlib.Omega.{arith}
use lib.ListN.{length, get_or}
use lib.Dec.{ltb, leb}
use borrow.Author.Tests.{ltb-true, leb-true}
use Rattle.std.specs.Prelude.{Result, Ok, Err, IsErrAnd}
use Rattle.refusals.specs.Refusals.{number, by_number, refusal_of, refused, code}
use Rattle.refusals.specs.declared.Refusal.{Refusal}
use Rattle.refusals.specs.declared.Refusal.TheVariants.{TooLong, BrokenAtom, AtomCount, UnknownVersion, WrongSize, OverLimits, TrackId, ZeroScale, Contradiction, TotalTooLarge, OtherDuration, DataElsewhere, ChunkPastEnd, WrongEdits, NoTrack, Outside, NoRoom, MalformedSlip, NotComputed, TooManyScales, TotalOverflows}

-- ---- each refusal's number

abbrev Numbered : Refusal → Type 0
Numbered e = (refusal_of (number e) ≡ e) × (ltb 0 (number e) ≡ true) × (leb (number e) 21 ≡ true)

numbered : (e : Refusal) → Numbered e
numbered TooLong = (refl, refl, refl)
numbered BrokenAtom = (refl, refl, refl)
numbered AtomCount = (refl, refl, refl)
numbered UnknownVersion = (refl, refl, refl)
numbered WrongSize = (refl, refl, refl)
numbered OverLimits = (refl, refl, refl)
numbered TrackId = (refl, refl, refl)
numbered ZeroScale = (refl, refl, refl)
numbered Contradiction = (refl, refl, refl)
numbered TotalTooLarge = (refl, refl, refl)
numbered OtherDuration = (refl, refl, refl)
numbered DataElsewhere = (refl, refl, refl)
numbered ChunkPastEnd = (refl, refl, refl)
numbered WrongEdits = (refl, refl, refl)
numbered NoTrack = (refl, refl, refl)
numbered Outside = (refl, refl, refl)
numbered NoRoom = (refl, refl, refl)
numbered MalformedSlip = (refl, refl, refl)
numbered NotComputed = (refl, refl, refl)
numbered TooManyScales = (refl, refl, refl)
numbered TotalOverflows = (refl, refl, refl)

pub number_back : (e : Refusal) → refusal_of (number e) ≡ e
number_back e = (numbered e).0

pub number_some : (e : Refusal) → 0 < number e
number_some e = ltb-true 0 (number e) (numbered e).1

pub number_most : (e : Refusal) → number e ≤ 21
number_most e = leb-true (number e) 21 (numbered e).2

-- two refusals of one number are one
pub number_one : (a b : Refusal) → number a ≡ number b → a ≡ b
number_one a b h = sym (number_back a) ∙ ap refusal_of h ∙ number_back b

-- ---- each number's refusal

-- the numbers of a list rise by one, from n on
abbrev Counted : ℕ → List Refusal → Type 0
Counted n [] = Unit
Counted n (e ∷ l) = (number e ≡ n) × Counted (suc n) l

counted_at : (n : ℕ) (l : List Refusal) (i : ℕ) → Counted n l → i < length l → number (get_or l i TooLong) ≡ n + i
counted_at n [] i h g = absurd (omega arith)
counted_at n (e ∷ l) zero h g = h.0 ∙ omega arith
counted_at n (e ∷ l) (suc i) h g = counted_at (suc n) l i h.1 (omega arith) ∙ omega arith

by_number_counted : Counted 1 by_number
by_number_counted = (refl, (refl, (refl, (refl, (refl, (refl, (refl, (refl, (refl, (refl, (refl, (refl, (refl, (refl, (refl, (refl, (refl, (refl, (refl, (refl, (refl, tt)))))))))))))))))))))

pub number_of : (n : ℕ) → 0 < n → n ≤ 21 → number (refusal_of n) ≡ n
number_of n h g = counted_at 1 by_number (n - 1) by_number_counted (omega arith) ∙ omega arith

-- ---- results by their numbers

pub code_refused : (A : Type 0) (n : ℕ) → 0 < n → n ≤ 21 → code {A = A} (refused n) ≡ n
code_refused A n h g = number_of n h g

-- a refusal is the result that its number refuses
pub err_refused : {A : Type 0} (e : Refusal) → ◌≡◌ {A = Result A Refusal} (Err e) (refused (number e))
err_refused e = ap Err (sym (number_back e))

-- no number: it is not refused
pub code_none : {A : Type 0} (r : Result A Refusal) → code r ≡ 0 → (x : A) × (r ≡ Ok x)
code_none (Ok x) h = (x, refl)
code_none (Err e) h = absurd (omega (arith, number_some e))

-- a number: it is refused by it
pub code_some : {A : Type 0} (r : Result A Refusal) → (code r ≡ 0 → ⊥) → r ≡ refused (code r)
code_some (Ok x) h = absurd (h refl)
code_some (Err e) h = err_refused e

pub ok_code : {A : Type 0} (r : Result A Refusal) (x : A) → r ≡ Ok x → code r ≡ 0
ok_code r x h = ap code h

pub err_code : {A : Type 0} (r : Result A Refusal) (e : Refusal) → r ≡ Err e → (code r ≡ number e) × (code r ≡ 0 → ⊥)
err_code r e h = let k : code r ≡ number e = ap code h in (k, λ z. omega (arith, number_some e))

-- the answers of two results that are one are one
pub ok_one : {A : Type 0} {x y : A} → ◌≡◌ {A = Result A Refusal} (Ok x) (Ok y) → x ≡ y
ok_one h = cc

-- what a `?` passes on is the refusal that it met
pub passed : {A : Type 0} (r : Result A Refusal) (e : Refusal) → IsErrAnd r (λ y. y ≡ e) → r ≡ Err e
passed (Ok x) e h = absurd h
passed (Err y) e h = ap Err h

-- ---- what a test finds of each refusal of the list holds of all

abbrev pub each_of : (Refusal → Bool) → List Refusal → Bool
each_of f [] = true
each_of f (e ∷ l) = f e && each_of f l

each_step : (a b : Bool) → (a && b) ≡ true → (a ≡ true) × (b ≡ true)
each_step true b h = (refl, h)
each_step false b h = absurd (cc)

each_at : (f : Refusal → Bool) (l : List Refusal) (i : ℕ) → each_of f l ≡ true → i < length l → f (get_or l i TooLong) ≡ true
each_at f [] i h g = absurd (omega arith)
each_at f (e ∷ l) zero h g = (each_step (f e) _ h).0
each_at f (e ∷ l) (suc i) h g = each_at f l i (each_step (f e) _ h).1 (omega arith)

pub each : (f : Refusal → Bool) → each_of f by_number ≡ true → (e : Refusal) → f e ≡ true
each f h e = ap f (sym (number_back e)) ∙ each_at f by_number (number e - 1) h (omega (arith, number_some e, number_most e))
