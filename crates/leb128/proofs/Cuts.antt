-- Cutting bytes into numbers. The bytes of numbers are cut into these numbers, each so written (`cut_writes`), and bytes whose pieces are so written are the
-- bytes of what they count, and no others are (`cut_only`). The idea: a number's groups end at the first byte without the top bit.
-- Assumes nothing.
use mathlib.Core.Path.{◌≡◌, refl, ap, ap₂, sym, ◌∙◌}
use mathlib.Core.Bool.{Bool, true, false, cond}
use mathlib.Core.List.{List, [], ◌∷◌, ◌++◌}
use Prim.Native.Nat.{ℕ, zero, suc, ◌+◌, ◌/◌, ◌%◌, ◌<◌, ◌≤◌, ◌^◌}
use native.Mathlib.Omega.{arith}
use lib.Dec.{ltb, eqb}
use borrow.Author.Tests.{ltb-true, eqb-true, lt-ltb, le-ltb, eq-eqb}
use Rattle.lists.proofs.Booleans.{and_both}
use Rattle.leb128.specs.Numbers.{groups_in, groups, writes, Below, value, onto, cut, same, written, all_written, values}
use Rattle.leb128.specs.Reading.{limit}

-- ---- one number

-- groups count the number whose groups they are
pub value_groups : (k n : ℕ) → n < limit k 128 → value (groups_in k n) ≡ n
unfolding groups_in value limit
value_groups zero n h = omega arith
value_groups (suc k) n h = go (ltb n 128) refl (value_groups k (n / 128))
  where
    go : (f : Bool) → ltb n 128 ≡ f → (n / 128 < limit k 128 → value (groups_in k (n / 128)) ≡ n / 128) → value (cond f (n ∷ []) ((128 + n % 128) ∷ groups_in k (n / 128))) ≡ n
    go true f ih = let l : n < 128 = ltb-true n 128 f in omega arith
    go false f ih = omega (arith, ih (omega arith))

-- bytes that begin with the groups of a number are cut behind them
pub cut_groups : (k n : ℕ) (rest : List ℕ) → n < limit k 128 → cut (groups_in k n ++ rest) ≡ groups_in k n ∷ cut rest
unfolding groups_in cut onto limit
cut_groups zero n rest h = rw (lt-ltb n 128 h)
cut_groups (suc k) n rest h = go (ltb n 128) refl (cut_groups k (n / 128) rest)
  where
    go : (f : Bool) → ltb n 128 ≡ f → (n / 128 < limit k 128 → cut (groups_in k (n / 128) ++ rest) ≡ groups_in k (n / 128) ∷ cut rest)
        → cut (cond f (n ∷ []) ((128 + n % 128) ∷ groups_in k (n / 128)) ++ rest) ≡ cond f (n ∷ []) ((128 + n % 128) ∷ groups_in k (n / 128)) ∷ cut rest
    go true f ih = rw f
    go false f ih = rw (le-ltb (128 + n % 128) 128 (omega arith)) (ap (onto (128 + n % 128)) (ih (omega arith)))

pub same_refl : (xs : List ℕ) → same xs xs ≡ true
unfolding same
same_refl [] = refl
same_refl (x ∷ xs) = rw (eq-eqb x x refl) (same_refl xs)

pub same_true : (xs ys : List ℕ) → same xs ys ≡ true → xs ≡ ys
unfolding same
same_true [] [] e = refl
same_true [] (y ∷ ys) e = absurd (let z : ◌≡◌ {A = ℕ} 0 1 = cc in omega arith)
same_true (x ∷ xs) [] e = absurd (let z : ◌≡◌ {A = ℕ} 0 1 = cc in omega arith)
same_true (x ∷ xs) (y ∷ ys) e =
    let t = and_both (eqb x y) (same xs ys) e in
    ap₂ (λ (z : ℕ) (zs : List ℕ). z ∷ zs) (eqb-true x y t.0) (same_true xs ys t.1)

-- ---- some numbers

-- the bytes of pieces, one after the other
unfoldable pub joined : List (List ℕ) → List ℕ
joined [] = []
joined (p ∷ ps) = p ++ joined ps

joined_onto : (b : ℕ) (ps : List (List ℕ)) → joined (onto b ps) ≡ b ∷ joined ps
unfolding joined onto
joined_onto b [] = refl
joined_onto b (p ∷ ps) = refl

pub joined_cut : (bs : List ℕ) → joined (cut bs) ≡ bs
unfolding joined cut
joined_cut [] = refl
joined_cut (b ∷ bs) = go (ltb b 128) (joined_cut bs)
  where
    go : (f : Bool) → joined (cut bs) ≡ bs → joined (cond f ((b ∷ []) ∷ cut bs) (onto b (cut bs))) ≡ b ∷ bs
    go true ih = ap (λ (l : List ℕ). b ∷ l) ih
    go false ih = joined_onto b (cut bs) ∙ ap (λ (l : List ℕ). b ∷ l) ih

-- pieces that are numbers so written are the bytes of these numbers
pub written_writes : (bound : ℕ) (ps : List (List ℕ)) → all_written bound ps ≡ true → (joined ps ≡ writes (values ps)) × Below bound (values ps)
unfolding joined all_written written values writes
written_writes bound [] e = (refl, tt)
written_writes bound (p ∷ ps) e =
    let t = and_both (written bound p) (all_written bound ps) e in
    let u = and_both (ltb (value p) bound) (same p (groups (value p))) t.0 in
    let ih = written_writes bound ps t.1 in
    (ap₂ (λ (x y : List ℕ). x ++ y) (same_true p (groups (value p)) u.1) ih.0, (ltb-true (value p) bound u.0, ih.1))

pub cut_only : (bound : ℕ) (bs : List ℕ) → all_written bound (cut bs) ≡ true → (bs ≡ writes (values (cut bs))) × Below bound (values (cut bs))
cut_only bound bs e = let w = written_writes bound (cut bs) e in (sym (joined_cut bs) ∙ w.0, w.1)

pub small_ten : (n : ℕ) → n < 2 ^ 64 → n < limit 9 128
unfolding limit
small_ten n h = omega arith

-- the bytes of numbers are cut into these numbers, each so written
pub cut_writes : (bound : ℕ) (ns : List ℕ) → bound ≤ 2 ^ 64 → Below bound ns → (all_written bound (cut (writes ns)) ≡ true) × (values (cut (writes ns)) ≡ ns)
unfolding cut writes all_written written values groups
cut_writes bound [] w l = (refl, refl)
cut_writes bound (n ∷ ns) w l = here (cut_writes bound ns w l.1)
  where
    small : n < limit 9 128
    small = small_ten n (omega (arith, l.0))

    here : (all_written bound (cut (writes ns)) ≡ true) × (values (cut (writes ns)) ≡ ns) → (all_written bound (cut (groups n ++ writes ns)) ≡ true) × (values (cut (groups n ++ writes ns)) ≡ n ∷ ns)
    here ih =
        let v = value_groups 9 n small in
        rw (cut_groups 9 n (writes ns) small) (rw (v, lt-ltb n bound l.0, same_refl (groups_in 9 n)) ih.0, ap₂ (λ (x : ℕ) (xs : List ℕ). x ∷ xs) v ih.1)
