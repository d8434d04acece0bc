-- Another return added: its scales one after the other, its numbers of refused files place by place, and the answer.
-- Assumes nothing.
use Prim.Native.Nat.{ℕ, suc, ◌+◌, ◌≤◌, ◌<◌, min}
use mathlib.Core.Path.{◌≡◌, refl, sym, ap, ◌∙◌}
use mathlib.Core.List.{List, [], ◌∷◌}
use native.Mathlib.Omega.{arith}
use lib.ListN.{length, get_or, take, drop, drop_of_length-le, length-take}
use lib.Seq.{drop-cons}
use Rattle.return_totals.specs.Returns.{Scale, Return, scales_from, scales_in, return_of}
use Rattle.return_totals.specs.Joining.{added_each, with_return, joined_refusal, joined_return, Joins}
use Rattle.return_totals.specs.Following.{Adds, Follows, SettlesAll, with_met, with_counts, with_slots, more_at, with_more_at, with_each}
use Rattle.return_totals.specs.declared.FilmReturn.{FilmReturn}
use Rattle.return_totals.specs.declared.Counts.{Counts}
use Rattle.return_totals.specs.declared.Filed.{Filed}
use Rattle.return_totals.proofs.Scales.{taken_at}

-- g follows a return to which `more` is still to be added
pub record Toward (r : FilmReturn) (goal : Return) (more : Return → Return) (g : Filed) : Type 0 where
  pub state : Return
  pub follows : Follows r state g
  pub rest : more state ≡ goal

pub toward_all : (r : FilmReturn) (s : Return) (more : Return → Return) (f : Filed) → Follows r s f → Toward r (more s) more f
toward_all r s more f w = record { state = s; follows = w; rest = refl }

-- one part more was added
pub toward_next : (r : FilmReturn) (goal : Return) (more one then : Return → Return) (g h : Filed) → ((s : Return) → more s ≡ then (one s)) → Adds one g h → Toward r goal more g → Toward r goal then h
toward_next r goal more one then g h e a p =
    record { state = one p.state; follows = a r p.state p.follows; rest = sym (e p.state) ∙ p.rest }

pub toward_none : (r : FilmReturn) (goal : Return) (more : Return → Return) (g : Filed) → ((s : Return) → more s ≡ s) → Toward r goal more g → Follows r goal g
toward_none r goal more g e p = let z : p.state ≡ goal = sym (e p.state) ∙ p.rest in rw (← z) p.follows

-- ---- the scales from i on

abbrev pub scales_after : FilmReturn → ℕ → ℕ → List Scale
scales_after s n i = scales_from (drop i (take n s.scales)) (drop i (take n s.units))

pub all_scales : (s : FilmReturn) (n : ℕ) → n ≡ min s.count 32 → (r : Return) → with_met (scales_in s) r ≡ with_met (scales_after s n 0) r
unfolding scales_in
all_scales s n e r = rw e

pub next_scale : (s : FilmReturn) (n i : ℕ) → i < n → n ≤ length s.scales → n ≤ length s.units → (r : Return)
    → with_met (scales_after s n i) r ≡ with_met (scales_after s n (i + 1)) (with_met (record { scale = get_or s.scales i 0; total = get_or s.units i 0 } ∷ []) r)
unfolding with_met
next_scale s n i h gs gu r =
    let k : i + 1 ≡ suc i = omega arith in
    rw (taken_at i n s.scales h gs, taken_at i n s.units h gu, k)

pub no_scale : (s : FilmReturn) (n i : ℕ) → n ≤ i → (r : Return) → with_met (scales_after s n i) r ≡ r
unfolding with_met
no_scale s n i h r = rw (drop_of_length-le (take n s.scales) {i = i} (omega (arith, length-take n s.scales)))

-- ---- the numbers of refused files from i on

abbrev from_at : ℕ → List ℕ → List ℕ → List ℕ
from_at i [] l = l
from_at i (n ∷ ns) l = from_at (suc i) ns (more_at l i n)

from_nothing : (i : ℕ) (ns : List ℕ) → from_at i ns [] ≡ []
from_nothing i [] = refl
from_nothing i (n ∷ ns) = from_nothing (suc i) ns

from_later : (i x : ℕ) (ns l : List ℕ) → from_at (suc i) ns (x ∷ l) ≡ x ∷ from_at i ns l
from_later i x [] l = refl
from_later i x (n ∷ ns) l = from_later (suc i) x ns (more_at l i n)

from_each : (ns l : List ℕ) → from_at 0 ns l ≡ added_each l ns
from_each ns [] = from_nothing 0 ns
from_each [] (x ∷ l) = refl
from_each (n ∷ ns) (x ∷ l) = from_later 0 (x + n) ns l ∙ ap (λ (m : List ℕ). (x + n) ∷ m) (from_each ns l)

abbrev pub with_from : ℕ → List ℕ → Return → Return
with_from i ns r = with_slots (from_at i ns r.refused) r

pub all_slots : (ns : List ℕ) (r : Return) → with_each ns r ≡ with_from 0 ns r
all_slots ns r = ap (λ l. with_slots l r) (sym (from_each ns r.refused))

pub next_slot : (ns : List ℕ) (i : ℕ) → i < length ns → (r : Return) → with_from i (drop i ns) r ≡ with_from (i + 1) (drop (i + 1) ns) (with_more_at i (get_or ns i 0) r)
unfolding with_slots
next_slot ns i h r =
    let k : i + 1 ≡ suc i = omega arith in
    rw (drop-cons ns i 0 h, k)

pub no_slot : (ns : List ℕ) (i : ℕ) → length ns ≤ i → (r : Return) → with_from i (drop i ns) r ≡ r
unfolding with_slots
no_slot ns i h r = rw (drop_of_length-le ns {i = i} h)

-- ---- all of it

module _ (s : FilmReturn) (c : Counts) (e : c ≡ record { accepted = s.accepted; tracks = s.tracks; samples = s.samples; bytes = s.bytes }) where
  joined_more : (r : Return) → with_each s.refused (with_counts c (with_met (scales_in s) r)) ≡ with_return (return_of s) r
  unfolding with_return with_counts with_met with_slots return_of
  joined_more r = rw e

  pub joined_in : (r : FilmReturn) (f g h k q : Filed) → Follows r (return_of r) f → Adds (with_met (scales_in s)) f g → Adds (with_counts c) g h → Adds (with_each s.refused) h k → SettlesAll r k q → Joins r s q
  unfolding joined_refusal joined_return
  joined_in r f g h k q w a b d z =
      let t = z (with_return (return_of s) (return_of r)) (rw (← joined_more (return_of r)) (d r _ (b r _ (a r _ w)))) in
      record { refusal = t.refusal; totals = t.totals; rest = t.rest; left = t.left }
