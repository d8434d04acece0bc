-- The fifth rule as a sentence on the samples' flags.
-- Assumes nothing.
use Prim.Native.Nat.{ℕ, zero, suc, ◌+◌, ◌-◌, ◌≤◌, ◌<◌}
use mathlib.Core.Path.{◌≡◌, refl, sym, ap, ◌∙◌}
use mathlib.Core.Bool.{Bool, true, false, not}
use mathlib.Core.List.{List, [], ◌∷◌}
use native.Mathlib.Omega.{arith}
use native.Mathlib.Decide.{dec_le}
use borrow.Author.Tests.{ltb-false, le-ltb, not-false}
use lib.Dec.{ltb}
use lib.ListN.{length, get_or, drop, length-drop}
use lib.Seq.{get_or-drop}
use Rattle.lists.proofs.Booleans.{or_left, or_right, or_neither}
use Rattle.quay_rules.specs.Rules.{until_sync, groups, any_above, starts_sync, lacks_syncs}
use Rattle.quay_rules.specs.Sentences.{Sync, Spaced, SpacedExactly}

not_both : (b : Bool) → b ≡ true → b ≡ false → ⊥
not_both b p q = let z : ◌≡◌ {A = ℕ} 0 1 = cc in omega arith

-- ---- the next sync sample

until-sync : (bs : List Bool) → until_sync bs < length bs → Sync bs (until_sync bs)
until-sync [] h = absurd (omega arith)
until-sync (true ∷ bs) h = refl
until-sync (false ∷ bs) h = until-sync bs (omega arith)

none_until : (bs : List Bool) (j : ℕ) → j < until_sync bs → get_or bs j false ≡ false
none_until [] j h = absurd (omega arith)
none_until (true ∷ bs) j h = absurd (omega arith)
none_until (false ∷ bs) zero h = refl
none_until (false ∷ bs) (suc j) h = none_until bs j (omega arith)

until_most : (bs : List Bool) → until_sync bs ≤ length bs
until_most [] = omega arith
until_most (true ∷ bs) = omega arith
until_most (false ∷ bs) = omega (arith, until_most bs)

-- ---- each group, by its sync sample

group_of : (m : ℕ) (bs : List Bool) (i : ℕ) → Sync bs i → any_above m (groups bs) ≡ false → suc (until_sync (drop (suc i) bs)) ≤ m
group_of m [] i s e = absurd (not_both false s refl)
group_of m (true ∷ bs) zero s e = ltb-false m (suc (until_sync bs)) (or_left (ltb m (suc (until_sync bs))) _ e)
group_of m (false ∷ bs) zero s e = absurd (not_both false s refl)
group_of m (true ∷ bs) (suc i) s e = group_of m bs i s (or_right (ltb m (suc (until_sync bs))) _ e)
group_of m (false ∷ bs) (suc i) s e = group_of m bs i s e

all_groups : (m : ℕ) (bs : List Bool) → ((i : ℕ) → Sync bs i → suc (until_sync (drop (suc i) bs)) ≤ m) → any_above m (groups bs) ≡ false
all_groups m [] f = refl
all_groups m (true ∷ bs) f =
    or_neither (ltb m (suc (until_sync bs))) _ (le-ltb m (suc (until_sync bs)) (f 0 refl)) (all_groups m bs (λ i s. f (suc i) s))
all_groups m (false ∷ bs) f = all_groups m bs (λ i s. f (suc i) s)

-- ---- the sentence

starts_first : (bs : List Bool) → starts_sync bs ≡ get_or bs 0 false
starts_first [] = refl
starts_first (b ∷ bs) = refl

after : (bs : List Bool) (i k : ℕ) → get_or (drop (suc i) bs) k false ≡ get_or bs (suc i + k) false
after bs i k = get_or-drop (suc i) bs k false

kept_spaced : (bs : List Bool) → lacks_syncs bs ≡ false → Spaced bs
unfolding lacks_syncs
kept_spaced bs e = record {
  starts = sym (starts_first bs) ∙ not-false (starts_sync bs) (or_left (not (starts_sync bs)) _ e);
  next = λ i s h.
      let u = until_sync (drop (suc i) bs) in
      let l = group_of 250 bs i s (or_right (not (starts_sync bs)) _ e) in
      let n = length-drop (suc i) bs in
      (suc i + u, (omega arith, (omega arith, sym (after bs i u) ∙ until-sync (drop (suc i) bs) (omega arith))));
}

spaced_kept : (bs : List Bool) → Spaced bs → lacks_syncs bs ≡ false
unfolding lacks_syncs
spaced_kept bs w =
    or_neither (not (starts_sync bs)) _ (ap not (starts_first bs ∙ w.starts)) (all_groups 250 bs (λ i s. short i s))
  where
    short : (i : ℕ) → Sync bs i → suc (until_sync (drop (suc i) bs)) ≤ 250
    short i s = elim (dec_le (suc (until_sync (drop (suc i) bs))) 250) [
      | yes l ↦ l
      | no l ↦
          let m = until_most (drop (suc i) bs) in
          let n = length-drop (suc i) bs in
          let x = w.next i s (omega arith) in
          let k = x.0 - suc i in
          let q : suc i + k ≡ x.0 = omega (arith, x.1.0) in
          absurd (not_both (get_or bs x.0 false) x.1.1.1 (ap (λ (j : ℕ). get_or bs j false) (sym q) ∙ sym (after bs i k) ∙ none_until (drop (suc i) bs) k (omega (arith, x.1.0, x.1.1.0))))
    ]

pub spaced_exactly : (bs : List Bool) → SpacedExactly bs
spaced_exactly bs = record { spaced = kept_spaced bs; kept = spaced_kept bs }
