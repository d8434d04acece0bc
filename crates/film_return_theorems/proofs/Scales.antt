-- Totals by scale, in whatever order the tracks are met.
-- Assumes nothing.
use Prim.Native.Nat.{ℕ, suc, ◌+◌, ◌<◌}
use mathlib.Core.Path.{◌≡◌, refl, sym, ap, ◌∙◌}
use mathlib.Core.Bool.{Bool, true, false, cond, ◌||◌}
use mathlib.Core.List.{List, [], ◌∷◌, ◌++◌, map}
use native.Mathlib.Omega.{arith}
use lib.ListN.{length}
use lib.Dec.{leb, eqb}
use borrow.Author.Tests.{eqb-true, eqb-false, eq-eqb, ne_eqb, leb-false, lt-leb}
use Rattle.lists.specs.Lists.{sum}
use Rattle.lists.proofs.Booleans.{or_left, or_right, or_neither}
use Rattle.return_totals.specs.Returns.{Scale, with_units, any_over}
use Rattle.return_totals.specs.Following.{units_in}
use Rattle.return_totals.specs.declared.TrackTotals.{TrackTotals}
use Rattle.film_return_theorems.specs.Filing.{Reordered, none, keep, swap, then}

-- the total of a scale; 0 where it was not met
abbrev pub total_of : ℕ → List Scale → ℕ
total_of k [] = 0
total_of k (x ∷ xs) = cond (eqb x.scale k) x.total 0 + total_of k xs

abbrev pub is_met : ℕ → List Scale → Bool
is_met k [] = false
is_met k (x ∷ xs) = eqb x.scale k || is_met k xs

abbrev pub with_all : List TrackTotals → List Scale → List Scale
with_all [] l = l
with_all (t ∷ ts) l = with_all ts (with_units t.scale t.total l)

pub all_append : (a b : List TrackTotals) (l : List Scale) → with_all (a ++ b) l ≡ with_all b (with_all a l)
all_append [] b l = refl
all_append (t ∷ a) b l = all_append a b (with_units t.scale t.total l)

-- the same scales, each with the same total
pub record Same (l m : List Scale) : Type 0 where
  pub many : length l ≡ length m
  pub met : (k : ℕ) → is_met k l ≡ is_met k m
  pub totals : (k : ℕ) → total_of k l ≡ total_of k m

same_refl : (l : List Scale) → Same l l
same_refl l = record { many = refl; met = λ k. refl; totals = λ k. refl }

same_then : {l m n : List Scale} → Same l m → Same m n → Same l n
same_then a b = record { many = a.many ∙ b.many; met = λ k. a.met k ∙ b.met k; totals = λ k. a.totals k ∙ b.totals k }

-- ---- one track more

units_length : (j u : ℕ) (l : List Scale) → length (with_units j u l) ≡ cond (is_met j l) (length l) (suc (length l))
units_length j u [] = refl
units_length j u (x ∷ xs) = go (eqb x.scale j) (is_met j xs) refl (units_length j u xs)
  where
    go : (b m : Bool) → is_met j xs ≡ m → length (with_units j u xs) ≡ cond (is_met j xs) (length xs) (suc (length xs))
        → length (cond b (record { scale = x.scale; total = x.total + u } ∷ xs) (x ∷ with_units j u xs)) ≡ cond (b || m) (suc (length xs)) (suc (suc (length xs)))
    go true m q ih = refl
    go false true q ih = ap suc (ih ∙ rw q)
    go false false q ih = ap suc (ih ∙ rw q)

or_swap : (a b c : Bool) → (a || (b || c)) ≡ (b || (a || c))
or_swap true true c = refl
or_swap true false c = refl
or_swap false true c = refl
or_swap false false c = refl

or_same : (a c : Bool) → (a || c) ≡ (a || (a || c))
or_same true c = refl
or_same false c = refl

pub units_met : (j u : ℕ) (l : List Scale) (k : ℕ) → is_met k (with_units j u l) ≡ (eqb j k || is_met k l)
units_met j u [] k = refl
units_met j u (x ∷ xs) k = go (eqb x.scale j) refl (units_met j u xs k)
  where
    go : (b : Bool) → eqb x.scale j ≡ b → is_met k (with_units j u xs) ≡ (eqb j k || is_met k xs)
        → is_met k (cond b (record { scale = x.scale; total = x.total + u } ∷ xs) (x ∷ with_units j u xs)) ≡ (eqb j k || (eqb x.scale k || is_met k xs))
    go true q ih =
        let e = eqb-true x.scale j q in
        or_same (eqb x.scale k) (is_met k xs) ∙ ap (λ (s : ℕ). eqb s k || (eqb x.scale k || is_met k xs)) e
    go false q ih = ap (λ (b : Bool). eqb x.scale k || b) ih ∙ or_swap (eqb x.scale k) (eqb j k) (is_met k xs)

by_add : (b : Bool) (m n r : ℕ) → cond b (m + n) 0 + r ≡ cond b n 0 + (cond b m 0 + r)
by_add true m n r = omega arith
by_add false m n r = omega arith

pub units_total : (j u : ℕ) (l : List Scale) (k : ℕ) → total_of k (with_units j u l) ≡ cond (eqb j k) u 0 + total_of k l
units_total j u [] k = refl
units_total j u (x ∷ xs) k = go (eqb x.scale j) refl (units_total j u xs k)
  where
    go : (b : Bool) → eqb x.scale j ≡ b → total_of k (with_units j u xs) ≡ cond (eqb j k) u 0 + total_of k xs
        → total_of k (cond b (record { scale = x.scale; total = x.total + u } ∷ xs) (x ∷ with_units j u xs)) ≡ cond (eqb j k) u 0 + (cond (eqb x.scale k) x.total 0 + total_of k xs)
    go true q ih =
        let e = eqb-true x.scale j q in
        by_add (eqb x.scale k) x.total u (total_of k xs) ∙ ap (λ (s : ℕ). cond (eqb s k) u 0 + (cond (eqb x.scale k) x.total 0 + total_of k xs)) e
    go false q ih = omega (arith, ih)

pub all_total : (ts : List TrackTotals) (l : List Scale) (k : ℕ) → total_of k (with_all ts l) ≡ total_of k l + sum (map (λ t. cond (eqb t.scale k) t.total 0) ts)
all_total [] l k = omega arith
all_total (t ∷ ts) l k = omega (arith, all_total ts (with_units t.scale t.total l) k, units_total t.scale t.total l k)

units_same : (j u : ℕ) {l m : List Scale} → Same l m → Same (with_units j u l) (with_units j u m)
units_same j u {l} {m} s = record {
  many =
      let e : cond (is_met j l) (length l) (suc (length l)) ≡ cond (is_met j m) (length m) (suc (length m)) = rw (s.many, s.met j) in
      units_length j u l ∙ e ∙ sym (units_length j u m);
  met = λ k. units_met j u l k ∙ ap (λ (b : Bool). eqb j k || b) (s.met k) ∙ sym (units_met j u m k);
  totals = λ k. units_total j u l k ∙ ap (λ (n : ℕ). cond (eqb j k) u 0 + n) (s.totals k) ∙ sym (units_total j u m k);
}

-- ---- two tracks exchanged

two : (e a b : Bool) (n : ℕ) → (e ≡ true → a ≡ b)
    → cond (e || b) (cond a n (suc n)) (suc (cond a n (suc n))) ≡ cond (e || a) (cond b n (suc n)) (suc (cond b n (suc n)))
two true a b n h = rw (h refl)
two false true true n h = refl
two false true false n h = refl
two false false true n h = refl
two false false false n h = refl

pub eqb_swap : (a b : ℕ) → eqb a b ≡ eqb b a
eqb_swap a b = go (eqb b a) refl
  where
    go : (f : Bool) → eqb b a ≡ f → eqb a b ≡ f
    go true q = eq-eqb a b (sym (eqb-true b a q))
    go false q = ne_eqb a b (λ e. eqb-false b a q (sym e))

units_swap : (j u i v : ℕ) (l : List Scale) → Same (with_units i v (with_units j u l)) (with_units j u (with_units i v l))
units_swap j u i v l = record {
  many =
      let left : length (with_units i v (with_units j u l)) ≡ cond (eqb j i || is_met i l) (cond (is_met j l) (length l) (suc (length l))) (suc (cond (is_met j l) (length l) (suc (length l)))) =
      units_length i v (with_units j u l) ∙ rw (units_met j u l i, units_length j u l) in
      let right : length (with_units j u (with_units i v l)) ≡ cond (eqb j i || is_met j l) (cond (is_met i l) (length l) (suc (length l))) (suc (cond (is_met i l) (length l) (suc (length l)))) =
      units_length j u (with_units i v l) ∙ rw (units_met i v l j, units_length i v l, eqb_swap i j) in
      left ∙ two (eqb j i) (is_met j l) (is_met i l) (length l) (λ q. ap (λ (s : ℕ). is_met s l) (eqb-true j i q)) ∙ sym right;
  met = λ k.
      units_met i v (with_units j u l) k
      ∙ ap (λ (b : Bool). eqb i k || b) (units_met j u l k)
      ∙ or_swap (eqb i k) (eqb j k) (is_met k l)
      ∙ sym (units_met j u (with_units i v l) k ∙ ap (λ (b : Bool). eqb j k || b) (units_met i v l k));
  totals = λ k. omega (arith, units_total i v (with_units j u l) k, units_total j u l k, units_total j u (with_units i v l) k, units_total i v l k);
}

-- ---- any order

all_same : (ts : List TrackTotals) {l m : List Scale} → Same l m → Same (with_all ts l) (with_all ts m)
all_same [] s = s
all_same (t ∷ ts) s = all_same ts (units_same t.scale t.total s)

pub tracks_order : {ts us : List TrackTotals} → Reordered ts us → (l : List Scale) → Same (with_all ts l) (with_all us l)
tracks_order none l = same_refl _
tracks_order (keep {x} h) l = tracks_order h (with_units x.scale x.total l)
tracks_order (swap {x} {y} {l = ts}) l = all_same ts (units_swap x.scale x.total y.scale y.total l)
tracks_order (then h k) l = same_then (tracks_order h l) (tracks_order k l)

-- ---- the limit of a scale's total

-- the total of the first of some scales that is k: of scales met one after the other there is no second
abbrev first_of : ℕ → List Scale → ℕ
first_of k [] = 0
first_of k (x ∷ xs) = cond (eqb x.scale k) x.total (first_of k xs)

abbrev pub Sole : List Scale → Type 0
Sole l = (k : ℕ) → total_of k l ≡ first_of k l

units_first : (j u : ℕ) (l : List Scale) (k : ℕ) → first_of k (with_units j u l) ≡ cond (eqb j k) u 0 + first_of k l
units_first j u [] k = go (eqb j k)
  where
    go : (b : Bool) → cond b u 0 ≡ cond b u 0 + 0
    go true = omega arith
    go false = omega arith
units_first j u (x ∷ xs) k = go (eqb x.scale j) refl (eqb x.scale k) refl (units_first j u xs k)
  where
    go : (b : Bool) → eqb x.scale j ≡ b → (c : Bool) → eqb x.scale k ≡ c → first_of k (with_units j u xs) ≡ cond (eqb j k) u 0 + first_of k xs
        → first_of k (cond b (record { scale = x.scale; total = x.total + u } ∷ xs) (x ∷ with_units j u xs)) ≡ cond (eqb j k) u 0 + cond (eqb x.scale k) x.total (first_of k xs)
    go true q true p ih = rw (p, eq-eqb j k (sym (eqb-true _ _ q) ∙ eqb-true _ _ p)) (omega arith)
    go true q false p ih = rw (p, ne_eqb j k (λ e. eqb-false _ _ p (eqb-true _ _ q ∙ e))) (omega arith)
    go false q true p ih = rw (p, ne_eqb j k (λ e. eqb-false _ _ q (eqb-true _ _ p ∙ sym e))) (omega arith)
    go false q false p ih = rw p ih

pub all_sole : (ts : List TrackTotals) (l : List Scale) → Sole l → Sole (with_all ts l)
all_sole [] l s = s
all_sole (t ∷ ts) l s = all_sole ts (with_units t.scale t.total l) (λ k. omega (arith, s k, units_total t.scale t.total l k, units_first t.scale t.total l k))

first_within : (l : List Scale) (k : ℕ) → any_over (units_in l) ≡ false → first_of k l < 18446744073709551616
first_within [] k e = omega arith
first_within (x ∷ xs) k e = go (eqb x.scale k) (leb-false 18446744073709551616 x.total (or_left _ (any_over (units_in xs)) e)) (first_within xs k (or_right (leb 18446744073709551616 x.total) _ e))
  where
    go : (b : Bool) → x.total < 18446744073709551616 → first_of k xs < 18446744073709551616 → cond b x.total (first_of k xs) < 18446744073709551616
    go true h g = h
    go false h g = g

within_by : (l : List Scale) → ((k : ℕ) → total_of k l < 18446744073709551616) → any_over (units_in l) ≡ false
within_by [] h = refl
within_by (x ∷ xs) h =
    or_neither (leb 18446744073709551616 x.total) _ (lt-leb 18446744073709551616 x.total (let g = rw (eq-eqb x.scale x.scale refl) at (h x.scale) in omega arith))
    (within_by xs (λ k. let g = h k in omega arith))

pub same_within : (l m : List Scale) → Sole l → Same l m → any_over (units_in l) ≡ false → any_over (units_in m) ≡ false
same_within l m s q e = within_by m (λ k. omega (arith, q.totals k, s k, first_within l k e))
