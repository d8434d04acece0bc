-- The scales of a return are those first met, each once, each with the total of its tracks; tracks in another order give the same in another order.
-- Assumes nothing.
use Prim.Native.Nat.{ℕ, ◌+◌}
use mathlib.Core.Path.{◌≡◌, refl, sym, ap, ◌∙◌}
use mathlib.Core.Bool.{Bool, true, false, cond, ◌||◌}
use mathlib.Core.List.{List, [], ◌∷◌, ◌++◌, map, append_assoc, append-nil}
use native.Mathlib.Omega.{arith}
use lib.Dec.{eqb}
use borrow.Author.Tests.{eqb-true, eq-eqb}
use Rattle.lists.specs.Lists.{sum}
use Rattle.words.specs.Words.{listed}
use Rattle.return_totals.specs.Returns.{Scale, with_units}
use Rattle.return_totals.specs.Following.{met_in}
use Rattle.return_totals.specs.declared.TrackTotals.{TrackTotals}
use Rattle.film_return_theorems.specs.Filing.{met_after, Reordered, none, keep, swap, then}
use Rattle.film_return_theorems.proofs.Scales.{total_of, with_all, all_total, eqb_swap}
use Rattle.film_return_theorems.proofs.Orders.{order_sum, order_map}

differ : ◌≡◌ {A = Bool} true false → ⊥
differ e = let z : ◌≡◌ {A = ℕ} 1 0 = ap (λ (b : Bool). cond b 1 0) e in omega arith

-- ---- the scales in order of first meeting

units_met : (j u : ℕ) (l : List Scale) → met_in (with_units j u l) ≡ cond (listed j (met_in l)) (met_in l) (met_in l ++ (j ∷ []))
units_met j u [] = refl
units_met j u (x ∷ xs) = go (eqb x.scale j) (listed j (met_in xs)) (units_met j u xs)
  where
    go : (b m : Bool) → met_in (with_units j u xs) ≡ cond m (met_in xs) (met_in xs ++ (j ∷ []))
        → met_in (cond b (record { scale = x.scale; total = x.total + u } ∷ xs) (x ∷ with_units j u xs))
        ≡ cond (cond b true m) (x.scale ∷ met_in xs) (x.scale ∷ (met_in xs ++ (j ∷ [])))
    go true m ih = refl
    go false true ih = ap (λ l. x.scale ∷ l) ih
    go false false ih = ap (λ l. x.scale ∷ l) ih

pub all_met : (ts : List TrackTotals) (l : List Scale) → met_in (with_all ts l) ≡ met_in l ++ met_after (met_in l) (map (λ t. t.scale) ts)
all_met [] l = sym (append-nil (met_in l))
all_met (t ∷ ts) l =
    let ks = map (λ t. t.scale) ts in
    all_met ts (with_units t.scale t.total l) ∙ ap (λ s. s ++ met_after s ks) (units_met t.scale t.total l) ∙ go (listed t.scale (met_in l))
  where
    go : (b : Bool) → cond b (met_in l) (met_in l ++ (t.scale ∷ [])) ++ met_after (cond b (met_in l) (met_in l ++ (t.scale ∷ []))) (map (λ t. t.scale) ts)
        ≡ met_in l ++ cond b (met_after (met_in l) (map (λ t. t.scale) ts)) (t.scale ∷ met_after (met_in l ++ (t.scale ∷ [])) (map (λ t. t.scale) ts))
    go true = refl
    go false = append_assoc (met_in l) (t.scale ∷ []) (met_after (met_in l ++ (t.scale ∷ [])) (map (λ t. t.scale) ts))

-- ---- each once

abbrev Once : List ℕ → Type 0
Once [] = Unit {0}
Once (k ∷ ks) = (listed k ks ≡ false) × Once ks

listed_last : (k j : ℕ) (ks : List ℕ) → listed k (ks ++ (j ∷ [])) ≡ (listed k ks || eqb j k)
listed_last k j [] = go (eqb j k)
  where
    go : (b : Bool) → cond b true false ≡ b
    go true = refl
    go false = refl
listed_last k j (x ∷ ks) = go (eqb x k) (listed_last k j ks)
  where
    go : (b : Bool) → listed k (ks ++ (j ∷ [])) ≡ (listed k ks || eqb j k) → cond b true (listed k (ks ++ (j ∷ []))) ≡ (cond b true (listed k ks) || eqb j k)
    go true ih = refl
    go false ih = ih

once_last : (ks : List ℕ) (j : ℕ) → Once ks → listed j ks ≡ false → Once (ks ++ (j ∷ []))
once_last [] j o n = (refl, tt)
once_last (x ∷ ks) j o n = go (eqb x j) refl n (once_last ks j o.1)
  where
    go : (b : Bool) → eqb x j ≡ b → cond b true (listed j ks) ≡ false → (listed j ks ≡ false → Once (ks ++ (j ∷ []))) → Once (x ∷ (ks ++ (j ∷ [])))
    go true q n ih = absurd (differ n)
    go false q n ih = (listed_last x j ks ∙ rw (o.0, eqb_swap j x, q), ih n)

units_once : (j u : ℕ) (l : List Scale) → Once (met_in l) → Once (met_in (with_units j u l))
units_once j u l o = rw (units_met j u l) (go (listed j (met_in l)) refl)
  where
    go : (b : Bool) → listed j (met_in l) ≡ b → Once (cond b (met_in l) (met_in l ++ (j ∷ [])))
    go true q = o
    go false q = once_last (met_in l) j o q

pub all_once : (ts : List TrackTotals) (l : List Scale) → Once (met_in l) → Once (met_in (with_all ts l))
all_once [] l o = o
all_once (t ∷ ts) l o = all_once ts (with_units t.scale t.total l) (units_once t.scale t.total l o)

-- ---- scales that stand once each, with their totals

total_none : (k : ℕ) (l : List Scale) → listed k (met_in l) ≡ false → total_of k l ≡ 0
total_none k [] n = refl
total_none k (x ∷ xs) n = go (eqb x.scale k) n (total_none k xs)
  where
    go : (b : Bool) → cond b true (listed k (met_in xs)) ≡ false → (listed k (met_in xs) ≡ false → total_of k xs ≡ 0) → cond b x.total 0 + total_of k xs ≡ 0
    go true n ih = absurd (differ n)
    go false n ih = omega (arith, ih n)

pub by_scales : (f : ℕ → ℕ) (l : List Scale) → Once (met_in l) → ((k : ℕ) → listed k (met_in l) ≡ true → total_of k l ≡ f k)
    → l ≡ map (λ k. record { scale = k; total = f k }) (met_in l)
by_scales f [] o h = refl
by_scales f (x ∷ xs) o h =
    let k = x.scale in
    let e : eqb k k ≡ true = eq-eqb k k refl in
    let a : x.total + total_of k xs ≡ f k = rw e at (h k (rw e)) in
    let t : x.total ≡ f k = omega (arith, a, total_none k xs o.0) in
    let y : x ≡ record { scale = k; total = f k } = λ i. record { scale = k; total = t i } in
    ap (λ z. z ∷ xs) y ∙ ap (λ l. record { scale = k; total = f k } ∷ l) (by_scales f xs o.1 (λ j g. later j g (eqb k j) refl))
  where
    later : (j : ℕ) → listed j (met_in xs) ≡ true → (b : Bool) → eqb x.scale j ≡ b → total_of j xs ≡ f j
    later j g true q = absurd (differ (sym g ∙ ap (λ (s : ℕ). listed s (met_in xs)) (sym (eqb-true _ _ q)) ∙ o.0))
    later j g false q = let a : 0 + total_of j xs ≡ f j = rw q at (h j (rw q g)) in omega (arith, a)

-- ---- in another order

or_last : (a b c : Bool) → ((a || b) || c) ≡ ((a || c) || b)
or_last true b c = refl
or_last false true true = refl
or_last false true false = refl
or_last false false true = refl
or_last false false false = refl

-- only what stands in `seen` counts, and not where
met_same : (ks seen also : List ℕ) → ((k : ℕ) → listed k seen ≡ listed k also) → met_after seen ks ≡ met_after also ks
met_same [] seen also h = refl
met_same (k ∷ ks) seen also h =
    rw (h k)
    (go (listed k also) (met_same ks seen also h) (met_same ks (seen ++ (k ∷ [])) (also ++ (k ∷ [])) (λ j. listed_last j k seen ∙ rw (h j) (sym (listed_last j k also)))))
  where
    go : (b : Bool) → met_after seen ks ≡ met_after also ks → met_after (seen ++ (k ∷ [])) ks ≡ met_after (also ++ (k ∷ [])) ks
        → cond b (met_after seen ks) (k ∷ met_after (seen ++ (k ∷ [])) ks) ≡ cond b (met_after also ks) (k ∷ met_after (also ++ (k ∷ [])) ks)
    go true p q = p
    go false p q = ap (λ l. k ∷ l) q

module _ (x y : ℕ) (l seen : List ℕ) where
  abbrev plus : ℕ → List ℕ
  plus k = seen ++ (k ∷ [])

  two_more : met_after (plus x ++ (y ∷ [])) l ≡ met_after (plus y ++ (x ∷ [])) l
  two_more = met_same l (plus x ++ (y ∷ [])) (plus y ++ (x ∷ [])) (λ k.
      listed_last k y (plus x)
      ∙ ap (λ (b : Bool). b || eqb y k) (listed_last k x seen)
      ∙ or_last (listed k seen) (eqb x k) (eqb y k)
      ∙ sym (listed_last k x (plus y) ∙ ap (λ (b : Bool). b || eqb x k) (listed_last k y seen)))

  swapped : Reordered (met_after seen (x ∷ (y ∷ l))) (met_after seen (y ∷ (x ∷ l)))
  swapped = rw (listed_last y x seen, listed_last x y seen, eqb_swap y x, two_more) (go (listed x seen) (listed y seen) (eqb x y) refl)
    where
      go : (a b c : Bool) → eqb x y ≡ c
          → Reordered (cond a (cond b (met_after seen l) (y ∷ met_after (plus y) l)) (x ∷ cond (b || c) (met_after (plus x) l) (y ∷ met_after (plus y ++ (x ∷ [])) l)))
          (cond b (cond a (met_after seen l) (x ∷ met_after (plus x) l)) (y ∷ cond (a || c) (met_after (plus y) l) (x ∷ met_after (plus y ++ (x ∷ [])) l)))
      go true true c q = none
      go true false c q = none
      go false true c q = none
      go false false true q = rw (eqb-true x y q) none
      go false false false q = swap

order_met : {ks js : List ℕ} → Reordered ks js → (seen : List ℕ) → Reordered (met_after seen ks) (met_after seen js)
order_met none seen = none
order_met (keep {x} {l} {m} h) seen = go (listed x seen) (order_met h seen) (order_met h (seen ++ (x ∷ [])))
  where
    go : (b : Bool) → Reordered (met_after seen l) (met_after seen m) → Reordered (met_after (seen ++ (x ∷ [])) l) (met_after (seen ++ (x ∷ [])) m)
        → Reordered (cond b (met_after seen l) (x ∷ met_after (seen ++ (x ∷ [])) l)) (cond b (met_after seen m) (x ∷ met_after (seen ++ (x ∷ [])) m))
    go true p q = p
    go false p q = keep q
order_met (swap {x} {y} {l}) seen = swapped x y l seen
order_met (then h k) seen = then (order_met h seen) (order_met k seen)

-- ---- tracks added to no scales

abbrev in_scale : ℕ → TrackTotals → ℕ
in_scale k t = cond (eqb t.scale k) t.total 0

exact : (ts : List TrackTotals) → with_all ts [] ≡ map (λ k. record { scale = k; total = sum (map (in_scale k) ts) }) (met_after ([]) (map (λ t. t.scale) ts))
exact ts =
    by_scales (λ k. sum (map (in_scale k) ts)) (with_all ts []) (all_once ts [] tt) (λ k g. omega (arith, all_total ts [] k))
    ∙ ap (map (λ k. record { scale = k; total = sum (map (in_scale k) ts) })) (all_met ts [])

pub tracks_reordered : {ts us : List TrackTotals} → Reordered ts us → Reordered (with_all ts []) (with_all us [])
tracks_reordered {ts} {us} o =
    let f : ((k : ℕ) → sum (map (in_scale k) us) ≡ sum (map (in_scale k) ts)) = λ k. sym (order_sum (in_scale k) o) in
    let e : with_all us [] ≡ map (λ k. record { scale = k; total = sum (map (in_scale k) ts) }) (met_after ([]) (map (λ t. t.scale) us)) =
    exact us ∙ (λ i. map (λ k. record { scale = k; total = f k i }) (met_after ([]) (map (λ t. t.scale) us))) in
    rw (exact ts, e) (order_map _ (order_met (order_map (λ t. t.scale) o) []))
