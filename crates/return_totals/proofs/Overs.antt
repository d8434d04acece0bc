-- Totals of 2^64 or more: in lists put together, where a total grows, and that the arrays of the code hold none.
-- Assumes nothing.
use Prim.Native.Nat.{ℕ, zero, suc, ◌+◌, ◌≤◌, ◌<◌}
use mathlib.Core.Path.{◌≡◌, refl, sym, ap, ◌∙◌}
use mathlib.Core.Bool.{Bool, true, false, cond, ◌||◌}
use mathlib.Core.List.{List, [], ◌∷◌, ◌++◌, map}
use native.Mathlib.Omega.{arith}
use mir.Val.{Val}
use denote.Shadow.{shadow}
use denote.Array.{each}
use denote.Struct.Field.{u64-field}
use lib.ListN.{length, get_or, set, take}
use lib.Dec.{leb, eqb}
use borrow.Author.Tests.{leb-true, le-leb, lt-leb}
use Rattle.lists.proofs.Booleans.{or_left, or_right, or_neither, or_second}
use Rattle.return_totals.specs.Returns.{Scale, Return, with_units, with_track, with_accepted, with_refused, one_more, slot_of, any_over, totals_in, scales_from}
use Rattle.return_totals.specs.Joining.{with_scales}
use Rattle.return_totals.specs.Following.{units_in, more_at, with_met, with_counts, with_slots}
use Rattle.return_totals.specs.declared.Counts.{Counts}
use Rattle.return_totals.specs.declared.TrackTotals.{TrackTotals}

pub or_first : (a b : Bool) → a ≡ true → (a || b) ≡ true
or_first a b e = rw e

pub or_mono : (a c b d : Bool) → (a ≡ true → c ≡ true) → (b ≡ true → d ≡ true) → (a || b) ≡ true → (c || d) ≡ true
or_mono true c b d f g e = or_first c d (f refl)
or_mono false c b d f g e = or_second c d (g e)

-- ---- lists

pub over_append : (l m : List ℕ) → any_over (l ++ m) ≡ (any_over l || any_over m)
over_append [] m = refl
over_append (n ∷ l) m = go (leb 18446744073709551616 n) (over_append l m)
  where
    go : (b : Bool) → any_over (l ++ m) ≡ (any_over l || any_over m) → (b || any_over (l ++ m)) ≡ ((b || any_over l) || any_over m)
    go true h = refl
    go false h = h

pub over_set : (l : List ℕ) (i x : ℕ) → i < length l → 18446744073709551616 ≤ x → any_over (set l i x) ≡ true
over_set [] i x h g = absurd (omega arith)
over_set (y ∷ l) zero x h g = or_first _ _ (le-leb 18446744073709551616 x g)
over_set (y ∷ l) (suc i) x h g = or_second (leb 18446744073709551616 y) _ (over_set l i x (omega arith) g)

pub within_take : (n : ℕ) (l : List ℕ) → any_over l ≡ false → any_over (take n l) ≡ false
within_take zero l e = refl
within_take (suc n) [] e = refl
within_take (suc n) (x ∷ l) e = or_neither (leb 18446744073709551616 x) _ (or_left _ (any_over l) e) (within_take n l (or_right (leb 18446744073709551616 x) _ e))

pub within_from : (ks us : List ℕ) → any_over us ≡ false → any_over (units_in (scales_from ks us)) ≡ false
within_from [] us e = refl
within_from (k ∷ ks) [] e = refl
within_from (k ∷ ks) (u ∷ us) e = or_neither (leb 18446744073709551616 u) _ (or_left _ (any_over us) e) (within_from ks us (or_right (leb 18446744073709551616 u) _ e))

-- of four numbers and the rest
module _ (a b c d : ℕ) (l : List ℕ) where
  pub over_second : leb 18446744073709551616 b ≡ true → any_over (a ∷ b ∷ c ∷ d ∷ l) ≡ true
  over_second e = or_second (leb 18446744073709551616 a) _ (or_first _ _ e)

  pub over_third : leb 18446744073709551616 c ≡ true → any_over (a ∷ b ∷ c ∷ d ∷ l) ≡ true
  over_third e = or_second (leb 18446744073709551616 a) _ (or_second (leb 18446744073709551616 b) _ (or_first _ _ e))

  pub over_fourth : leb 18446744073709551616 d ≡ true → any_over (a ∷ b ∷ c ∷ d ∷ l) ≡ true
  over_fourth e = or_second (leb 18446744073709551616 a) _ (or_second (leb 18446744073709551616 b) _ (or_second (leb 18446744073709551616 c) _ (or_first _ _ e)))

  pub over_rest : any_over l ≡ true → any_over (a ∷ b ∷ c ∷ d ∷ l) ≡ true
  over_rest e =
      or_second (leb 18446744073709551616 a) _ (or_second (leb 18446744073709551616 b) _ (or_second (leb 18446744073709551616 c) _ (or_second (leb 18446744073709551616 d) _ e)))

-- ---- an array of the code, as its row has it

-- the elements of one of 64-bit numbers
pub array_within : (xs : List ℕ) (us : List Val) → shadow (each ℕ (λ x vs. u64-field.row.own_val x vs) xs us) → any_over xs ≡ false
array_within [] us h = refl
array_within (x ∷ xs) [] h = absurd h
array_within (x ∷ xs) (u ∷ us) h =
    let b : x < 18446744073709551616 = h.0.1 in or_neither (leb 18446744073709551616 x) _ (lt-leb 18446744073709551616 x b) (array_within xs us h.1)

-- ---- totals that grow

pub over_more : (a b : ℕ) → a ≤ b → leb 18446744073709551616 a ≡ true → leb 18446744073709551616 b ≡ true
over_more a b g e = let h = leb-true 18446744073709551616 a e in le-leb 18446744073709551616 b (omega arith)

units_over : (k u : ℕ) (l : List Scale) → any_over (units_in l) ≡ true → any_over (units_in (with_units k u l)) ≡ true
units_over k u [] e = absurd (let z : ◌≡◌ {A = ℕ} 0 1 = cc in omega arith)
units_over k u (x ∷ l) e = go (eqb x.scale k) (units_over k u l)
  where
    go : (b : Bool) → (any_over (units_in l) ≡ true → any_over (units_in (with_units k u l)) ≡ true)
        → any_over (units_in (cond b (record { scale = x.scale; total = x.total + u } ∷ l) (x ∷ with_units k u l))) ≡ true
    go true f = or_mono (leb 18446744073709551616 x.total) _ (any_over (units_in l)) _ (over_more x.total (x.total + u) (omega arith)) (λ q. q) e
    go false f = or_mono (leb 18446744073709551616 x.total) _ (any_over (units_in l)) _ (λ q. q) f e

scales_over : (m l : List Scale) → any_over (units_in l) ≡ true → any_over (units_in (with_scales m l)) ≡ true
scales_over [] l e = e
scales_over (x ∷ m) l e = scales_over m (with_units x.scale x.total l) (units_over x.scale x.total l e)

pub over_set_more : (l : List ℕ) (i n : ℕ) → any_over l ≡ true → any_over (more_at l i n) ≡ true
over_set_more [] i n e = e
over_set_more (x ∷ l) zero n e = or_mono (leb 18446744073709551616 x) _ (any_over l) _ (over_more x (x + n) (omega arith)) (λ q. q) e
over_set_more (x ∷ l) (suc i) n e = or_mono (leb 18446744073709551616 x) _ (any_over l) _ (λ q. q) (over_set_more l i n) e

tails_over : (a b c d : List ℕ) → (any_over a ≡ true → any_over c ≡ true) → (any_over b ≡ true → any_over d ≡ true) → any_over (a ++ b) ≡ true → any_over (c ++ d) ≡ true
tails_over a b c d f g e = over_append c d ∙ or_mono (any_over a) _ (any_over b) _ f g (sym (over_append a b) ∙ e)

-- the four numbers, and the rest
grown : (a b c d e f g h : ℕ) (l m : List ℕ) → a ≤ e → b ≤ f → c ≤ g → d ≤ h → (any_over l ≡ true → any_over m ≡ true) → any_over (a ∷ b ∷ c ∷ d ∷ l) ≡ true
    → any_over (e ∷ f ∷ g ∷ h ∷ m) ≡ true
grown a b c d e f g h l m p q r s k z =
    or_mono (leb 18446744073709551616 a) _ _ _ (over_more a e p)
    (or_mono (leb 18446744073709551616 b) _ _ _ (over_more b f q)
    (or_mono (leb 18446744073709551616 c) _ _ _ (over_more c g r) (or_mono (leb 18446744073709551616 d) _ (any_over l) _ (over_more d h s) k)))
    z

module _ (s new : Return) (a : s.accepted ≤ new.accepted) (b : s.tracks ≤ new.tracks) (c : s.samples ≤ new.samples) (d : s.bytes ≤ new.bytes) where
  grown_totals : (any_over s.refused ≡ true → any_over new.refused ≡ true) → (any_over (units_in s.scales) ≡ true → any_over (units_in new.scales) ≡ true)
      → any_over (totals_in s) ≡ true → any_over (totals_in new) ≡ true
  grown_totals f g =
      grown s.accepted s.tracks s.samples s.bytes new.accepted new.tracks new.samples new.bytes (s.refused ++ units_in s.scales) (new.refused ++ units_in new.scales) a b c d
      (tails_over s.refused (units_in s.scales) new.refused (units_in new.scales) f g)

pub track_over : (t : TrackTotals) (s : Return) → any_over (totals_in s) ≡ true → any_over (totals_in (with_track t s)) ≡ true
unfolding with_track
track_over t s = grown_totals s (with_track t s) (omega arith) (omega arith) (omega arith) (omega arith) (λ q. q) (units_over t.scale t.total s.scales)

pub accepted_over : (s : Return) → any_over (totals_in s) ≡ true → any_over (totals_in (with_accepted s)) ≡ true
unfolding with_accepted
accepted_over s = grown_totals s (with_accepted s) (omega arith) (omega arith) (omega arith) (omega arith) (λ q. q) (λ q. q)

pub refused_over : (n : ℕ) (s : Return) → any_over (totals_in s) ≡ true → any_over (totals_in (with_refused n s)) ≡ true
unfolding with_refused
refused_over n s = grown_totals s (with_refused n s) (omega arith) (omega arith) (omega arith) (omega arith) (over_set_more s.refused (slot_of n) 1) (λ q. q)

-- the parts of another return
pub met_over : (m : List Scale) (s : Return) → any_over (totals_in s) ≡ true → any_over (totals_in (with_met m s)) ≡ true
unfolding with_met
met_over m s = grown_totals s (with_met m s) (omega arith) (omega arith) (omega arith) (omega arith) (λ q. q) (scales_over m s.scales)

pub counts_over : (c : Counts) (s : Return) → any_over (totals_in s) ≡ true → any_over (totals_in (with_counts c s)) ≡ true
unfolding with_counts
counts_over c s = grown_totals s (with_counts c s) (omega arith) (omega arith) (omega arith) (omega arith) (λ q. q) (λ q. q)

pub slots_over : (l : List ℕ) (s : Return) → (any_over s.refused ≡ true → any_over l ≡ true) → any_over (totals_in s) ≡ true → any_over (totals_in (with_slots l s)) ≡ true
unfolding with_slots
slots_over l s f = grown_totals s (with_slots l s) (omega arith) (omega arith) (omega arith) (omega arith) f (λ q. q)
