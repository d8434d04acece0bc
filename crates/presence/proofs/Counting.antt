-- What the counts of a walk come to: `present_by` of the counts of all atoms of a body is `present`.
-- Assumes nothing.
use Prim.Native.Nat.{ℕ, zero, suc, ◌+◌}
use mathlib.Core.Path.{◌≡◌, refl, sym, ap, ◌∙◌}
use mathlib.Core.List.{List, [], ◌∷◌}
use mathlib.Core.Bool.{Bool, true, false, cond, ◌&&◌}
use lib.ListN.{length}
use lib.Dec.{leb, eqb}
use borrow.Author.Tests.{eqb-true, ne_eqb, lt-leb}
use native.Mathlib.Omega.{arith}
use Rattle.atoms.specs.Kinds as kinds
use Rattle.atoms.specs.Atoms.{kind_of, atoms, of_kind, count_in}
use Rattle.presence.specs.declared.Counts.{Counts}
use Rattle.presence.specs.Present.{one, at_most_one, one_offsets, tables, present}
use Rattle.presence.specs.Counts.{one_more, bump, nothing_counted, with_kind, with_atoms, offsets_by, tables_by, present_by}

-- n more
many : ℕ → ℕ → ℕ
many zero x = x
many (suc n) x = many n (one_more x)

module _ (k : ℕ) (get : Counts → ℕ) (h : (c : Counts) (j : ℕ) → get (with_kind c j) ≡ bump k j (get c)) where
  step : (b : Bool) (a : List ℕ) (l : List (List ℕ)) (x : ℕ) → many (length l) (cond b (one_more x) x) ≡ many (length (cond b (a ∷ l) l)) x
  unfolding many
  step true a l x = refl
  step false a l x = refl

  counts_all : (l : List (List ℕ)) (c : Counts) → get (with_atoms c l) ≡ many (length (of_kind k l)) (get c)
  unfolding with_atoms of_kind many bump
  counts_all [] c = refl
  counts_all (a ∷ l) c =
      counts_all l (with_kind c (kind_of a)) ∙ ap (many (length (of_kind k l))) (h c (kind_of a)) ∙ step (eqb (kind_of a) k) a (of_kind k l) (get c)

-- 0, 1, or 2 for more
stays : (n : ℕ) → many n 2 ≡ 2
unfolding many one_more
stays zero = refl
stays (suc n) = stays n

is_one : (n : ℕ) → eqb (many n 0) 1 ≡ eqb n 1
unfolding many one_more
is_one zero = refl
is_one (suc zero) = refl
is_one (suc (suc n)) = rw (stays n) (sym (ne_eqb (suc (suc n)) 1 (λ e. omega arith)))

is_few : (n : ℕ) → leb (many n 0) 1 ≡ leb n 1
unfolding many one_more
is_few zero = refl
is_few (suc zero) = refl
is_few (suc (suc n)) = rw (stays n) (sym (lt-leb (suc (suc n)) 1 (omega arith)))

is_one_of : (n m : ℕ) → eqb (many n 0 + many m 0) 1 ≡ eqb (n + m) 1
unfolding many one_more
is_one_of zero zero = refl
is_one_of zero (suc zero) = refl
is_one_of zero (suc (suc m)) = rw (stays m) (sym (ne_eqb (0 + suc (suc m)) 1 (λ e. omega arith)))
is_one_of (suc zero) zero = refl
is_one_of (suc zero) (suc zero) = refl
is_one_of (suc zero) (suc (suc m)) = rw (stays m) (sym (ne_eqb (1 + suc (suc m)) 1 (λ e. omega arith)))
is_one_of (suc (suc n)) m = rw (stays n) (ne_eqb (2 + many m 0) 1 (λ e. omega arith) ∙ sym (ne_eqb (suc (suc n) + m) 1 (λ e. omega arith)))

-- a count that is kept by kind: what it is at first, and with an atom more
module _ (k : ℕ) (get : Counts → ℕ) where
  abbrev Kept : Type 0
  Kept = ((c : Counts) (j : ℕ) → get (with_kind c j) ≡ bump k j (get c)) × (get nothing_counted ≡ 0)

-- the counts of all atoms of the body s of the parent p
abbrev pub counts_in : ℕ → List ℕ → Counts
counts_in p s = with_atoms nothing_counted (atoms p s)

module _ (p : ℕ) (s : List ℕ) (q : ℕ) (e : p ≡ q) where
  module _ (k : ℕ) (get : Counts → ℕ) (h : Kept k get) where
    count : get (counts_in p s) ≡ many (count_in q k s) 0
    count = rw (← e) (counts_all k get h.0 (atoms p s) nothing_counted ∙ ap (many (count_in p k s)) h.1)

    one_is : eqb (get (counts_in p s)) 1 ≡ one q k s
    unfolding one
    one_is = ap (λ x. eqb x 1) count ∙ is_one (count_in q k s)

    few_is : leb (get (counts_in p s)) 1 ≡ at_most_one q k s
    unfolding at_most_one
    few_is = ap (λ x. leb x 1) count ∙ is_few (count_in q k s)

and_are : {x y a b : Bool} → x ≡ a → y ≡ b → (x && y) ≡ (a && b)
and_are {y = y} {a = a} f g = ap (λ t. t && y) f ∙ ap (λ t. a && t) g

module _ (wide : Bool) (p : ℕ) (s : List ℕ) (e : p ≡ kinds.stbl) where
  offsets_are : (w : Bool) → offsets_by w (counts_in p s).stco (counts_in p s).co64 ≡ one_offsets w s
  unfolding offsets_by one_offsets with_kind
  offsets_are true =
      let a = count p s kinds.stbl e kinds.stco (λ c. c.stco) ((λ c j. refl), refl) in
      let b = count p s kinds.stbl e kinds.co64 (λ c. c.co64) ((λ c j. refl), refl) in
      rw (a, b) (is_one_of (count_in kinds.stbl kinds.stco s) (count_in kinds.stbl kinds.co64 s))
  offsets_are false = one_is p s kinds.stbl e kinds.stco (λ c. c.stco) ((λ c j. refl), refl)

  tables_are : tables_by wide (counts_in p s) ≡ tables wide s
  unfolding tables_by tables with_kind
  tables_are =
      and_are (and_are (and_are (and_are (and_are (and_are
      (one_is p s kinds.stbl e kinds.stsd (λ c. c.stsd) ((λ c j. refl), refl))
      (one_is p s kinds.stbl e kinds.stts (λ c. c.stts) ((λ c j. refl), refl)))
      (one_is p s kinds.stbl e kinds.stsc (λ c. c.stsc) ((λ c j. refl), refl)))
      (one_is p s kinds.stbl e kinds.stsz (λ c. c.stsz) ((λ c j. refl), refl)))
      (offsets_are wide))
      (few_is p s kinds.stbl e kinds.ctts (λ c. c.ctts) ((λ c j. refl), refl)))
      (few_is p s kinds.stbl e kinds.stss (λ c. c.stss) ((λ c j. refl), refl))

-- where the parent is known, and where it is another
at : (p q : ℕ) {x x' y y' : Bool} → (p ≡ q → x ≡ x') → y ≡ y' → cond (eqb p q) x y ≡ cond (eqb p q) x' y'
at p q {x = x} {x' = x'} {y = y} {y' = y'} f g = go (eqb p q) refl
  where
    go : (b : Bool) → eqb p q ≡ b → cond b x y ≡ cond b x' y'
    go true h = f (eqb-true p q h)
    go false h = g

pub present-by : (wide : Bool) (p : ℕ) (s : List ℕ) → present_by wide p (counts_in p s) ≡ present wide p s
unfolding present_by present with_kind
present-by wide p s =
    at p kinds.file (λ e. one_is p s kinds.file e kinds.moov (λ c. c.moov) ((λ c j. refl), refl))
    (at p kinds.moov (λ e. one_is p s kinds.moov e kinds.mvhd (λ c. c.mvhd) ((λ c j. refl), refl))
    (at p kinds.trak (λ e. and_are (and_are
    (one_is p s kinds.trak e kinds.tkhd (λ c. c.tkhd) ((λ c j. refl), refl))
    (one_is p s kinds.trak e kinds.mdia (λ c. c.mdia) ((λ c j. refl), refl)))
    (few_is p s kinds.trak e kinds.edts (λ c. c.edts) ((λ c j. refl), refl)))
    (at p kinds.edts (λ e. one_is p s kinds.edts e kinds.elst (λ c. c.elst) ((λ c j. refl), refl))
    (at p kinds.mdia (λ e. and_are (and_are
    (one_is p s kinds.mdia e kinds.mdhd (λ c. c.mdhd) ((λ c j. refl), refl))
    (one_is p s kinds.mdia e kinds.hdlr (λ c. c.hdlr) ((λ c j. refl), refl)))
    (one_is p s kinds.mdia e kinds.minf (λ c. c.minf) ((λ c j. refl), refl)))
    (at p kinds.minf (λ e. and_are
    (one_is p s kinds.minf e kinds.stbl (λ c. c.stbl) ((λ c j. refl), refl))
    (one_is p s kinds.minf e kinds.dinf (λ c. c.dinf) ((λ c j. refl), refl)))
    (at p kinds.stbl (λ e. tables_are wide p s e)
    (at p kinds.dinf (λ e. one_is p s kinds.dinf e kinds.dref (λ c. c.dref) ((λ c j. refl), refl))
    refl)))))))
