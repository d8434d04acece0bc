-- What the reader of form 1 and the reader of both forms say of the same bytes: of bytes that do not begin with form 2 the same (`same_outcome`), and the first one
-- refuses those that do, at place 0 (`old_refuses`).
-- Assumes nothing.
use mathlib.Core.Path.{◌≡◌, refl, ap, sym, ◌∙◌}
use mathlib.Core.Bool.{Bool, true, false, ◌&&◌}
use mathlib.Core.List.{List, [], ◌∷◌, ◌++◌}
use Prim.Native.Nat.{ℕ, ◌^◌}
use native.Mathlib.Omega.{arith}
use lib.Dec.{ltb, eqb}
use lib.ListN.{length, get_or}
use borrow.Author.Tests.{eqb-true}
use Rattle.lists.proofs.Booleans.{and_both}
use Rattle.leb128.specs.Numbers.{groups, groups_in, value, cut, same, written, values, unended, cut_short}
use Rattle.leb128.proofs.Cuts.{same_true, joined, joined_cut}
use Rattle.slip.specs.Slip.{Fault, at, rest_fault, slip_fault, malformed, outcome_of, slip_in, numbers_for, room_for, Reads}
use Rattle.slip.specs.Slip.{SlipRead}
use Rattle.std.specs.Prelude.{Ok, Err}
use Rattle.slip.specs.declared.SlipError.TheVariants.{Malformed, NoRoom}
use Rattle.slip.proofs.Promises.{numbers_only, reads_malformed}

-- bytes whose first number is 2, so written, begin with 2
begins_two : (bs p : List ℕ) (ps : List (List ℕ)) → cut bs ≡ p ∷ ps → written (2 ^ 32) p ≡ true → value p ≡ 2 → get_or bs 0 0 ≡ 2
unfolding written joined groups groups_in
begins_two bs p ps c w v =
    let u = and_both (ltb (value p) (2 ^ 32)) (same p (groups (value p))) w in
    let e : p ≡ 2 ∷ [] = same_true p (groups (value p)) u.1 ∙ ap groups v in
    ap (λ (x : List ℕ). get_or x 0 0) (sym (joined_cut bs) ∙ ap joined c ∙ ap (λ (x : List ℕ). x ++ joined ps) e)

same_fault : (bs : List ℕ) → (get_or bs 0 0 ≡ 2 → ⊥) → (l : List (List ℕ)) → cut bs ≡ l → slip_fault true l ≡ slip_fault false l
unfolding slip_fault rest_fault
same_fault bs n [] c = refl
same_fault bs n (p ∷ ps) c = go (written (2 ^ 32) p) refl (eqb (value p) 2) refl
  where
    go : (f : Bool) → written (2 ^ 32) p ≡ f → (g : Bool) → eqb (value p) 2 ≡ g → slip_fault true (p ∷ ps) ≡ slip_fault false (p ∷ ps)
    go true f true g = absurd (n (begins_two bs p ps c f (eqb-true (value p) 2 g)))
    go true f false g = rw g
    go false f g h = rw f

pub same_outcome : (bs : List ℕ) → (get_or bs 0 0 ≡ 2 → ⊥) → slip_in true bs ≡ slip_in false bs
unfolding slip_in
same_outcome bs n = ap (λ (f : Fault). outcome_of f (values (cut bs))) (same_fault bs n (cut bs) refl)

old_outcome : (bs : List ℕ) → get_or bs 0 0 ≡ 2 → slip_in false bs ≡ malformed 0
unfolding slip_in outcome_of slip_fault rest_fault cut_short unended written value same groups groups_in cut
old_outcome [] e = absurd (omega arith)
old_outcome (b ∷ bs) e = rw (e)

-- "The new reader gives for a form 1 slip what the old one gave"
pub old_as_new : (bs : List ℕ) → (get_or bs 0 0 ≡ 2 → ⊥) → (room : List ℕ) (old new : SlipRead) (narrow wide : List ℕ) → Reads false bs room old narrow → Reads true bs room new wide → (new ≡ old) × (wide ≡ narrow)
old_as_new bs n room old new narrow wide r s =
    let e = same_outcome bs n in
    (numbers_only new old (s.numbers ∙ ap (numbers_for (length room)) e ∙ sym r.numbers), s.places ∙ ap (room_for room) e ∙ sym r.places)

-- "the old reader refuses form 2 by 17"
pub old_refuses : (bs : List ℕ) → get_or bs 0 0 ≡ 2 → (room : List ℕ) (r : SlipRead) (after : List ℕ) → Reads false bs room r after → (r ≡ Err (Malformed 0)) × (after ≡ room)
old_refuses bs e room r after reads = reads_malformed false bs room r after reads 0 (old_outcome bs e)
