-- Past all atoms of a file the walk says what they say: atom by atom, with none, one or more moovs met before.
-- Assumes nothing.
use Prim.Native.Nat.{ℕ, suc, ◌+◌}
use mathlib.Core.Path.{◌≡◌, refl, sym, ap, ◌∙◌}
use mathlib.Core.List.{List, [], ◌∷◌}
use mathlib.Core.Bool.{Bool, true, false, cond}
use lib.ListN.{length, get_or}
use lib.Dec.{eqb}
use borrow.Author.Tests.{eqb-true, eqb-false, eq-eqb, ne_eqb}
use native.Mathlib.Nat.{add-zero, add_assoc}
use native.Mathlib.Omega.{arith}
use Rattle.atoms.specs.Kinds.{moov}
use Rattle.atoms.specs.Atoms.{kind_of, of_kind}
use Rattle.top_level.specs.declared.Walk.{Walk}
use Rattle.top_level.specs.declared.Next.{Next}
use Rattle.top_level.specs.declared.Next.TheVariants.{Found, Refused}
use Rattle.top_level.specs.Steps.{one_more, past, ended}
use Rattle.top_level.specs.TopLevel.{moov_place}
use Rattle.top_level.proofs.Steps.{past_moov, past_other}

-- the walk past these atoms
unfoldable pub passed : List (List ℕ) → Walk → Walk
passed [] w = w
passed (a ∷ l) w = passed l (past (length a) (kind_of a) w)

pub passed_next : (a : List ℕ) (l : List (List ℕ)) (w : Walk) (z k : ℕ) → length a ≡ z → kind_of a ≡ k → passed (a ∷ l) w ≡ passed l (past z k w)
unfolding passed
passed_next a l w z k e f = ap (λ (x : ℕ). passed l (past x (kind_of a) w)) e ∙ ap (λ (x : ℕ). passed l (past z x w)) f

suc_not : (n : ℕ) → eqb (suc n) 0 ≡ false
suc_not n = ne_eqb (suc n) 0 (λ q. omega arith)

suc_one : (n : ℕ) → eqb (suc n) 1 ≡ eqb n 0
suc_one n = go (eqb n 0) refl
  where
    go : (b : Bool) → eqb n 0 ≡ b → eqb (suc n) 1 ≡ b
    go true e = let h = eqb-true n 0 e in eq-eqb (suc n) 1 (omega arith)
    go false e = ne_eqb (suc n) 1 (λ q. eqb-false n 0 e (omega arith))

-- more than one was met
several : (l : List (List ℕ)) (w : Walk) → w.moovs ≡ 2 → ended (passed l w) ≡ Refused 3
unfolding passed ended one_more
several [] w e = rw e
several (a ∷ l) w e = several l (past (length a) (kind_of a) w) (go (eqb (kind_of a) moov) refl)
  where
    go : (b : Bool) → eqb (kind_of a) moov ≡ b → (past (length a) (kind_of a) w).moovs ≡ 2
    go true f = rw (past_moov (length a) (kind_of a) w (eqb-true _ _ f), e)
    go false f = rw (past_other (length a) (kind_of a) w (eqb-false _ _ f)) e

-- one was met, or none
abbrev Once : List (List ℕ) → Type 0
Once l = (w : Walk) → w.moovs ≡ 1 → ended (passed l w) ≡ cond (eqb (length (of_kind moov l)) 0) (Found w.at w.size) (Refused 3)

abbrev pub None : List (List ℕ) → Type 0
None l = (w : Walk) → w.moovs ≡ 0
    → ended (passed l w) ≡ cond (eqb (length (of_kind moov l)) 1) (Found (w.place + moov_place l) (length (get_or (of_kind moov l) 0 []))) (Refused 3)

once : (l : List (List ℕ)) → Once l
unfolding passed ended one_more of_kind
once [] w e = rw e
once (a ∷ l) w e = go (eqb (kind_of a) moov) refl (once l)
  where
    go : (b : Bool) → eqb (kind_of a) moov ≡ b → Once l
        → ended (passed l (past (length a) (kind_of a) w)) ≡ cond (eqb (length (cond b (a ∷ of_kind moov l) (of_kind moov l))) 0) (Found w.at w.size) (Refused 3)
    go true f ih = rw (past_moov (length a) (kind_of a) w (eqb-true _ _ f), suc_not (length (of_kind moov l))) (several l _ (rw e))
    go false f ih = rw (past_other (length a) (kind_of a) w (eqb-false _ _ f)) (ih _ e)

pub none : (l : List (List ℕ)) → None l
unfolding passed ended one_more of_kind moov_place
none [] w e = rw e
none (a ∷ l) w e = go (eqb (kind_of a) moov) refl (none l)
  where
    go : (b : Bool) → eqb (kind_of a) moov ≡ b → None l
        → ended (passed l (past (length a) (kind_of a) w))
        ≡ cond (eqb (length (cond b (a ∷ of_kind moov l) (of_kind moov l))) 1)
        (Found (w.place + cond b 0 (length a + moov_place l)) (length (get_or (cond b (a ∷ of_kind moov l) (of_kind moov l)) 0 [])))
        (Refused 3)
    go true f ih =
        rw (past_moov (length a) (kind_of a) w (eqb-true _ _ f), suc_one (length (of_kind moov l)), add-zero w.place) (once l _ (rw e))
    go false f ih =
        rw (past_other (length a) (kind_of a) w (eqb-false _ _ f), ← add_assoc w.place (length a) (moov_place l)) (ih _ e)
