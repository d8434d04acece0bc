-- Where no film is refused 20 or 21, the returns of two parts of the films, joined, are the return of all of them: without a limit a join adds what the
-- films of the second part add, and the scales come in the order in which those films meet them.
-- Assumes nothing.
use Prim.Native.Nat.{ℕ, zero, suc, ◌+◌}
use mathlib.Core.Path.{◌≡◌, refl, sym, ap, ◌∙◌}
use mathlib.Core.Bool.{Bool, true, false, cond, ◌||◌}
use mathlib.Core.List.{List, [], ◌∷◌, ◌++◌, map, append_assoc, append-nil}
use native.Mathlib.Omega.{arith}
use lib.ListN.{length, get_or}
use lib.Seq.{ext_get_or}
use lib.Dec.{eqb}
use borrow.Author.Tests.{eqb-true, eq-eqb}
use Rattle.lists.specs.Lists.{sum}
use Rattle.lists.proofs.Booleans.{or_second}
use Rattle.return_totals.specs.Returns.{Scale, Return, empty_return, with_units, limit_refusal, limited}
use Rattle.return_totals.specs.Joining.{added_each, with_scales, with_return, joined_refusal, joined_return}
use Rattle.return_totals.specs.declared.TrackTotals.{TrackTotals}
use Rattle.film_return_theorems.specs.Filing.{Film, filed_all, NoneRefused, turn_return, accepted_in, tracks_in, samples_in, bytes_in, joined, Reordered, parts_return, NoneUnjoined, TwoJoined, Joinable}
use Rattle.film_return_theorems.proofs.Scales.{with_all, is_met, units_met}
use Rattle.film_return_theorems.proofs.Orders.{exchanged}
use Rattle.film_return_theorems.proofs.Films.{with_it, slot_in, film_adds}
use Rattle.film_return_theorems.proofs.Sums.{Fourteen, zeros}
use Rattle.film_return_theorems.proofs.AnyOrder.{unlimited, all_number, all_fourteen, all_scales, Any, of_within, none_all, empty_within, any_order}

-- ---- units for scales, in another order of adding: the same scales in the same order

abbrev with : ℕ → ℕ → List Scale → List Scale
with k u l = record { scale = k; total = u } ∷ l

totals_same : (k a b : ℕ) (l : List Scale) → a ≡ b → with k a l ≡ with k b l
totals_same k a b l e = ap (λ (t : ℕ). with k t l) e

units_twice : (k u v : ℕ) (l : List Scale) → with_units k u (with_units k v l) ≡ with_units k (v + u) l
units_twice k u v [] = rw (eq-eqb k k refl)
units_twice k u v (x ∷ xs) = go (eqb x.scale k) refl (units_twice k u v xs)
  where
    go : (b : Bool) → eqb x.scale k ≡ b → with_units k u (with_units k v xs) ≡ with_units k (v + u) xs
        → with_units k u (cond b (with x.scale (x.total + v) xs) (x ∷ with_units k v xs)) ≡ cond b (with x.scale (x.total + (v + u)) xs) (x ∷ with_units k (v + u) xs)
    go true q ih = rw q (totals_same x.scale (x.total + v + u) (x.total + (v + u)) xs (omega arith))
    go false q ih = rw q (ap (λ l. x ∷ l) ih)

nothing_met : ◌≡◌ {A = Bool} false true → ⊥
nothing_met e = let z : ◌≡◌ {A = ℕ} 0 1 = ap (λ (b : Bool). cond b 1 0) e in omega arith

-- where the one is met already
units_exchange : (k u j v : ℕ) (l : List Scale) → is_met k l ≡ true → with_units k u (with_units j v l) ≡ with_units j v (with_units k u l)
units_exchange k u j v [] m = absurd (nothing_met m)
units_exchange k u j v (x ∷ xs) m = go (eqb x.scale k) refl (eqb x.scale j) refl m (units_exchange k u j v xs)
  where
    go : (a : Bool) → eqb x.scale k ≡ a → (b : Bool) → eqb x.scale j ≡ b → (a || is_met k xs) ≡ true
        → (is_met k xs ≡ true → with_units k u (with_units j v xs) ≡ with_units j v (with_units k u xs))
        → with_units k u (cond b (with x.scale (x.total + v) xs) (x ∷ with_units j v xs)) ≡ with_units j v (cond a (with x.scale (x.total + u) xs) (x ∷ with_units k u xs))
    go true p true q m ih = rw (p, q) (totals_same x.scale (x.total + v + u) (x.total + u + v) xs (omega arith))
    go true p false q m ih = rw (p, q)
    go false p true q m ih = rw (p, q)
    go false p false q m ih = rw (p, q) (ap (λ l. x ∷ l) (ih m))

met_now : (k v : ℕ) (l : List Scale) → is_met k (with_units k v l) ≡ true
met_now k v l = units_met k v l k ∙ rw (eq-eqb k k refl)

met_still : (k j v : ℕ) (l : List Scale) → is_met k l ≡ true → is_met k (with_units j v l) ≡ true
met_still k j v l m = units_met j v l k ∙ or_second (eqb j k) (is_met k l) m

slide : (xs l : List Scale) (k u : ℕ) → is_met k l ≡ true → with_units k u (with_scales xs l) ≡ with_scales xs (with_units k u l)
slide [] l k u m = refl
slide (x ∷ xs) l k u m =
    slide xs (with_units x.scale x.total l) k u (met_still k x.scale x.total l m) ∙ ap (with_scales xs) (units_exchange k u x.scale x.total l m)

both_parts : (s t u : ℕ) (xs l : List Scale) → with_scales xs (with_units s (t + u) l) ≡ with_units s u (with_scales xs (with_units s t l))
both_parts s t u xs l = sym (slide xs (with_units s t l) s u (met_now s t l) ∙ ap (with_scales xs) (units_twice s u t l))

scale_joined : (k u : ℕ) (m l : List Scale) → with_scales (with_units k u m) l ≡ with_units k u (with_scales m l)
scale_joined k u [] l = refl
scale_joined k u (x ∷ xs) l = go (eqb x.scale k) refl (scale_joined k u xs)
  where
    go : (b : Bool) → eqb x.scale k ≡ b → ((l : List Scale) → with_scales (with_units k u xs) l ≡ with_units k u (with_scales xs l))
        → with_scales (cond b (with x.scale (x.total + u) xs) (x ∷ with_units k u xs)) l ≡ with_units k u (with_scales xs (with_units x.scale x.total l))
    go true q ih = both_parts x.scale x.total u xs l ∙ ap (λ (s : ℕ). with_units s u (with_scales xs (with_units x.scale x.total l))) (eqb-true x.scale k q)
    go false q ih = ih (with_units x.scale x.total l)

all_joined : (ts : List TrackTotals) (m l : List Scale) → with_scales (with_all ts m) l ≡ with_all ts (with_scales m l)
all_joined [] m l = refl
all_joined (t ∷ ts) m l = all_joined ts (with_units t.scale t.total m) l ∙ ap (with_all ts) (scale_joined t.scale t.total m l)

-- ---- numbers added place by place

added_long : (a b : List ℕ) → length (added_each a b) ≡ length a
added_long [] b = refl
added_long (x ∷ a) [] = refl
added_long (x ∷ a) (n ∷ b) = ap suc (added_long a b)

added_at : (a b : List ℕ) (i : ℕ) → length a ≡ length b → get_or (added_each a b) i 0 ≡ get_or a i 0 + get_or b i 0
added_at [] [] i e = refl
added_at [] (n ∷ b) i e = absurd (omega arith)
added_at (x ∷ a) [] i e = absurd (omega arith)
added_at (x ∷ a) (n ∷ b) zero e = refl
added_at (x ∷ a) (n ∷ b) (suc i) e = added_at a b i (omega arith)

-- ---- without a limit

append_unlimited : (fs gs : List Film) (r : Return) → unlimited r (fs ++ gs) ≡ unlimited (unlimited r fs) gs
append_unlimited [] gs r = refl
append_unlimited (f ∷ fs) gs r = append_unlimited fs gs (with_it f r)

module _ (gs : List Film) (r : Return) (w : Fourteen r) where
  abbrev second : Return
  second = unlimited empty_return gs

  slots : added_each r.refused second.refused ≡ (unlimited r gs).refused
  slots =
      let l = all_fourteen gs empty_return refl in
      ext_get_or 0 (added_each r.refused second.refused) (unlimited r gs).refused (added_long r.refused second.refused ∙ w ∙ sym (all_fourteen gs r w))
      (λ i h. added_at r.refused second.refused i (w ∙ sym l) ∙ omega (arith, at i empty_return refl, at i r w, zeros 14 i))
    where
      at : (i : ℕ) (s : Return) → Fourteen s → get_or (unlimited s gs).refused i 0 ≡ get_or s.refused i 0 + sum (map (slot_in i) gs)
      at i s p = all_number (λ r. get_or r.refused i 0) (slot_in i) Fourteen (λ f r p. ((film_adds f r).slot i p, (film_adds f r).long ∙ p)) gs s p

  number : (n : Return → ℕ) (a : Film → ℕ) → ((f : Film) (s : Return) → n (with_it f s) ≡ n s + a f) → n empty_return ≡ 0 → n r + n second ≡ n (unlimited r gs)
  number n a h z = omega (arith, all_number n a Any (λ f s p. (h f s, tt)) gs empty_return tt, all_number n a Any (λ f s p. (h f s, tt)) gs r tt, z)

  scales : with_scales second.scales r.scales ≡ (unlimited r gs).scales
  scales = rw (all_scales gs empty_return, all_scales gs r) (all_joined (joined tracks_in gs) [] r.scales)

  return_joined : with_return second r ≡ unlimited r gs
  unfolding with_return
  return_joined = λ i. record {
    accepted = number (λ s. s.accepted) accepted_in (λ f s. (film_adds f s).accepted) refl i;
    refused = slots i;
    tracks = number (λ s. s.tracks) (λ f. length (tracks_in f)) (λ f s. (film_adds f s).tracks) refl i;
    samples = number (λ s. s.samples) samples_in (λ f s. (film_adds f s).samples) refl i;
    bytes = number (λ s. s.bytes) bytes_in (λ f s. (film_adds f s).bytes) refl i;
    scales = scales i;
  }

-- ---- the claim

none_first : (fs gs : List Film) (r : Return) → NoneRefused r (fs ++ gs) → NoneRefused r fs
none_first [] gs r n = tt
none_first (f ∷ fs) gs r n = (n.0, none_first fs gs (turn_return r f) n.1)

other_way : (fs gs : List Film) → Reordered (fs ++ gs) (gs ++ fs)
other_way fs gs = let o = exchanged fs gs [] in rw (append-nil fs, append-nil gs) at o

module _ (fs gs : List Film) (n : NoneRefused empty_return (fs ++ gs)) where
  first_is : filed_all empty_return fs ≡ unlimited empty_return fs
  first_is = (none_all fs empty_return empty_within (none_first fs gs empty_return n)).0

  second_is : filed_all empty_return gs ≡ unlimited empty_return gs
  second_is = (none_all gs empty_return empty_within (none_first gs fs empty_return (any_order (other_way fs gs) n).none_refused)).0

  whole : with_return (filed_all empty_return gs) (filed_all empty_return fs) ≡ unlimited empty_return (fs ++ gs)
  whole = rw (first_is, second_is) (return_joined gs (unlimited empty_return fs) (all_fourteen fs empty_return refl) ∙ sym (append_unlimited fs gs empty_return))

  none_over : limit_refusal (with_return (filed_all empty_return gs) (filed_all empty_return fs)) ≡ 0
  none_over = rw whole (of_within (unlimited empty_return (fs ++ gs)) (none_all (fs ++ gs) empty_return empty_within n).1)

  is_whole : limited (filed_all empty_return fs) (with_return (filed_all empty_return gs) (filed_all empty_return fs)) ≡ filed_all empty_return (fs ++ gs)
  unfolding limited
  is_whole = rw (eq-eqb _ 0 none_over) (whole ∙ sym (none_all (fs ++ gs) empty_return empty_within n).0)

  two_joined : TwoJoined fs gs
  unfolding joined_refusal joined_return
  two_joined = record {
    refusal = none_over;
    same = is_whole;
    run = λ r s x p q j. (j.refusal ∙ rw (p, q) none_over, j.totals ∙ rw (p, q) is_whole);
  }

-- the films before them filed already
after : (parts : List (List Film)) (fs : List Film) → NoneRefused empty_return (fs ++ joined (λ l. l) parts)
    → NoneUnjoined (filed_all empty_return fs) parts × (parts_return (filed_all empty_return fs) parts ≡ filed_all empty_return (fs ++ joined (λ l. l) parts))
after [] fs n = (tt, rw (append-nil fs))
after (gs ∷ parts) fs n =
    let rest = joined (λ l. l) parts in
    let m = rw (← append_assoc fs gs rest) at n in
    let t = two_joined fs gs (none_first (fs ++ gs) rest empty_return m) in
    let k = after parts (fs ++ gs) m in
    ((t.refusal, rw t.same k.0), rw (t.same, ← append_assoc fs gs rest) k.1)

pub joinable : Joinable
joinable = record {
  two = two_joined;
  parts = λ parts n. let k = after parts [] n in record { none_refused = k.0; same = k.1 };
}
