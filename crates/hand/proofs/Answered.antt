-- From what a function hands over, case by case of an answer, to the promise that names the question; and the refusal where the places are too few.
-- Assumes nothing.
use Prim.Native.Nat.{ℕ, zero, suc, ◌≤◌, ◌<◌}
use mathlib.Core.Path.{◌≡◌, refl, ap, sym, ◌∙◌}
use mathlib.Core.List.{List, ◌∷◌}
use mathlib.Core.Bool.{Bool, true, false, cond}
use native.Mathlib.Omega.{arith}
use borrow.Author.Tests.{ne_eqb, lt-ltb, le-ltb}
use lib.Dec.{eqb, ltb}
use lib.ListN.{length, replicate}
use lib.IntN.{ℤ, pos}
use Rattle.structure.specs.Rows.{or_else}
use Rattle.movie.specs.Rooms.{no_room, room_after, refused_with}
use Rattle.hand.specs.Places.{Hands, refusal_in, values_in, Answers, SignedAnswers, Fills}
use Rattle.hand.proofs.Handing.{own}

-- ---- numbers that are the refusal and the values

pub handed : (ns : List ℕ) (refusal : ℕ) (values places : List ℕ) (r : ℕ) (after : List ℕ) → ns ≡ refusal ∷ values → Hands refusal values places r after
    → Answers ns places r after
handed ns refusal values places r after e h = rw e h

pub handed_signed : (ns : List ℤ) (refusal : ℕ) (values places : List ℤ) (r : ℕ) (after : List ℤ) → ns ≡ pos refusal ∷ values → Hands refusal values places r after
    → SignedAnswers ns places r after
handed_signed ns refusal values places r after e h = rw e h

-- ---- the numbers of an answer that is given or refused

abbrev pub judged : ℕ → List ℕ → List ℕ
judged refusal values = cond (eqb refusal 0) (0 ∷ values) (refused_with (length values) refusal)

zeros_length : (n : ℕ) → length {A = ℕ} (replicate n 0) ≡ n
zeros_length zero = refl
zeros_length (suc n) = ap suc (zeros_length n)

first_is : (refusal : ℕ) (values : List ℕ) → refusal_in (judged refusal values) ≡ refusal
first_is zero values = refl
first_is (suc n) values = rw (ne_eqb (suc n) 0 (λ q. omega arith))

as_many : (refusal : ℕ) (values : List ℕ) → length (values_in (judged refusal values)) ≡ length values
as_many zero values = refl
as_many (suc n) values = rw (ne_eqb (suc n) 0 (λ q. omega arith)) (zeros_length (length values))

-- ---- a question that fills room

-- the list is as the question's own refusal R leaves it, which is the first of its numbers
pub fills_first : {A : Type 0} (ns : List ℕ) (R : ℕ) (refusal : ℕ) (values places : List ℕ) (list room : List A) (r : ℕ) (after : List ℕ) (filled : List A) → refusal_in ns ≡ R → ns ≡ refusal ∷ values
    → length values ≤ length places → Hands refusal values places r after → filled ≡ room_after R list room → Fills ns places list room r after filled
unfolding no_room
fills_first ns R refusal values places list room r after filled j e h k d =
    let z : r ≡ refusal = k.result ∙ rw (le-ltb (length places) (length values) h) (sym (own refusal)) in
    let w : refusal ≡ R = ap refusal_in (sym e) ∙ j in
    record { handed = handed ns refusal values places r after e k; listed = rw (z, w) d }

pub fills : {A : Type 0} (ns : List ℕ) (R : ℕ) (vs : List ℕ) (refusal : ℕ) (values places : List ℕ) (list room : List A) (r : ℕ) (after : List ℕ) (filled : List A) → ns ≡ judged R vs → ns ≡ refusal ∷ values
    → length values ≤ length places → Hands refusal values places r after → filled ≡ room_after R list room → Fills ns places list room r after filled
fills ns R vs refusal values places list room r after filled j = fills_first ns R refusal values places list room r after filled (ap refusal_in j ∙ first_is R vs)

-- too few places
else_first : (n b : ℕ) → or_else (suc n) b ≡ suc n
unfolding or_else
else_first n b = rw (ne_eqb (suc n) 0 (λ q. omega arith))

sixteen : (short : Bool) → 16 ≡ or_else (cond short 16 0) 16
unfolding or_else
sixteen true = refl
sixteen false = refl

-- the room's own refusal is the same number
then_short : {A : Type 0} (first : ℕ) (list room : List A) → or_else first 16 ≡ or_else (or_else first (no_room list room)) 16
unfolding or_else no_room
then_short zero list room = sixteen (ltb (length room) (length list))
then_short (suc n) list room = rw (else_first n (no_room list room), else_first n 16)

some_refusal : (first : ℕ) → or_else first 16 ≡ 0 → ⊥
unfolding or_else
some_refusal zero e = omega arith
some_refusal (suc n) e = let z = rw (else_first n 16) at e in omega arith

pub too_few_first : {A : Type 0} (ns : List ℕ) (refusal first count : ℕ) (places : List ℕ) (list room : List A) (r : ℕ) → refusal_in ns ≡ refusal → length (values_in ns) ≡ count
    → refusal ≡ or_else first (no_room list room) → length places < count → r ≡ or_else first 16 → Fills ns places list room r places room
unfolding no_room room_after
too_few_first ns refusal first count places list room r n c d h q =
    let k = lt-ltb (length places) (length (values_in ns)) (rw c h) in
    record {
      handed = record { result = rw (n, k, d) (q ∙ then_short first list room); placed = rw k };
      listed = rw (q, ne_eqb (or_else first 16) 0 (some_refusal first));
    }

pub too_few : {A : Type 0} (ns : List ℕ) (refusal first : ℕ) (values places : List ℕ) (list room : List A) (r : ℕ) → ns ≡ judged refusal values → refusal ≡ or_else first (no_room list room)
    → length places < length values → r ≡ or_else first 16 → Fills ns places list room r places room
too_few ns refusal first values places list room r e =
    too_few_first ns refusal first (length values) places list room r (ap refusal_in e ∙ first_is refusal values) (ap (λ (x : List ℕ). length (values_in x)) e ∙ as_many refusal values)

-- the numbers of an answer that is known by its case
pub of_case : {X Y : Type 0} (numbers : X → Y) {answer x y : X} → x ≡ answer → x ≡ y → numbers answer ≡ numbers y
of_case numbers a g = ap numbers (sym a ∙ g)
