-- The two laws of a slip's definition, for both readers. `slip_read`: the writing of numbers that keep the rules is read as them. `slip_only`: bytes that are
-- accepted are the writing of the numbers they are read as. The idea: pieces have no fault exactly if each is so written and keeps its rule, and cutting the
-- bytes of numbers gives the numbers back (`Cuts` of leb128).
-- Assumes nothing.
use mathlib.Core.Path.{◌≡◌, refl, ap, ap₂, sym, subst, ◌∙◌}
use mathlib.Core.Bool.{Bool, true, false, cond, not, ◌&&◌}
use mathlib.Core.List.{List, [], ◌∷◌, ◌++◌}
use Prim.Native.Nat.{ℕ, suc, ◌+◌, ◌*◌, ◌<◌, ◌≤◌, ◌^◌}
use native.Mathlib.Omega.{arith}
use native.Mathlib.Decide.{dec_lt}
use lib.Dec.{ltb, leb, eqb}
use lib.ListN.{length, drop}
use borrow.Author.Tests.{ltb-true, leb-true, eqb-true, lt-ltb, le-leb, eq-eqb, ne_eqb, not-true}
use Rattle.leb128.specs.Numbers.{groups, groups_in, writes, Below, value, cut, same, written, all_written, values, unended, cut_short}
use Rattle.lists.proofs.Booleans.{and_both}
use Rattle.leb128.proofs.Cuts.{cut_writes, same_true, joined, joined_cut, written_writes}
use Rattle.leb128.proofs.Pieces.{written_ended}
use Rattle.slip_head.specs.Bytes.{after_form, any_wide, form_for, form_of, slip_bytes, Rules}
use Rattle.slip_head.specs.declared.Head.{Head}
use Rattle.slip_head.proofs.Writes.{slip_form}
use Rattle.slip_head.proofs.Forms.{below_narrow, narrow_below, widen, rules_at, all_below, but_count}
use Rattle.slip_numbers.specs.Rules.{allowed}
use Rattle.slip.specs.Slip.{wanted, Fault, none, at, fault_from, wide_fault, rest_fault, slip_fault, Outcome, accepted, malformed, head_of, outcome_of, slip_in, bound_of, IsSlip}

-- numbers that a slip may have from the i-th on, and as many as are wanted
unfoldable keep_all : ℕ → ℕ → ℕ → List ℕ → Bool
keep_all i prev want [] = eqb i want
keep_all i prev want (n ∷ ns) = not (eqb i want) && (allowed i prev n && keep_all (suc i) n (wanted i want n) ns)

-- ---- pieces without a fault

none_keeps : (k bound i prev want place : ℕ) (ps : List (List ℕ)) → fault_from k bound i prev want place ps ≡ none → (all_written bound ps ≡ true) × (keep_all i prev want (values ps) ≡ true)
unfolding fault_from all_written values keep_all
none_keeps k bound i prev want place [] e = go (eqb i want) refl e
  where
    go : (f : Bool) → eqb i want ≡ f → cond f none (at place) ≡ none → (true ≡ true) × (eqb i want ≡ true)
    go true f e' = (refl, f)
    go false f e' = absurd (let z : ◌≡◌ {A = ℕ} 0 1 = cc in omega arith)
none_keeps k bound i prev want place (p ∷ ps) e = go (eqb i want) refl e (none_keeps k bound (suc i) (value p) (wanted i want (value p)) (place + length p) ps)
  where
    next : Fault
    next = fault_from k bound (suc i) (value p) (wanted i want (value p)) (place + length p) ps

    Rest : Type 0
    Rest = next ≡ none → (all_written bound ps ≡ true) × (keep_all (suc i) (value p) (wanted i want (value p)) (values ps) ≡ true)

    Goal : Type 0
    Goal = ((written bound p && all_written bound ps) ≡ true) × ((not (eqb i want) && (allowed i prev (value p) && keep_all (suc i) (value p) (wanted i want (value p)) (values ps))) ≡ true)

    right : (g : Bool) → (written bound p && allowed i prev (value p)) ≡ g → eqb i want ≡ false → cond g next (at place) ≡ none → Rest → Goal
    right true g f e' ih = let u = and_both (written bound p) (allowed i prev (value p)) g in let r = ih e' in rw (u.0, u.1, f) r
    right false g f e' ih = absurd (let z : ◌≡◌ {A = ℕ} 0 1 = cc in omega arith)

    ended : (g : Bool) → eqb i want ≡ false → cond g (at (place + length p)) (cond (written bound p && allowed i prev (value p)) next (at place)) ≡ none → Rest → Goal
    ended true f e' ih = absurd (let z : ◌≡◌ {A = ℕ} 0 1 = cc in omega arith)
    ended false f e' ih = right (written bound p && allowed i prev (value p)) refl f e' ih

    go : (g : Bool) → eqb i want ≡ g → cond g (at place) (cond (cut_short k p) (at (place + length p)) (cond (written bound p && allowed i prev (value p)) next (at place))) ≡ none → Rest → Goal
    go true f e' ih = absurd (let z : ◌≡◌ {A = ℕ} 0 1 = cc in omega arith)
    go false f e' ih = ended (cut_short k p) f e' ih

keeps_none : (k bound i prev want place : ℕ) (ps : List (List ℕ)) → bound ≤ 2 ^ 64 → all_written bound ps ≡ true → keep_all i prev want (values ps) ≡ true → fault_from k bound i prev want place ps ≡ none
unfolding fault_from all_written values keep_all
keeps_none k bound i prev want place [] w a e = rw e
keeps_none k bound i prev want place (p ∷ ps) w a e =
    let x = and_both (written bound p) (all_written bound ps) a in
    let y = and_both (not (eqb i want)) _ e in
    let z = and_both (allowed i prev (value p)) _ y.1 in
    rw (not-true (eqb i want) y.0, written_ended k bound p w x.0, x.0, z.0) (keeps_none k bound (suc i) (value p) (wanted i want (value p)) (place + length p) ps w x.1 z.1)

-- ---- the rules

-- after the head there is no rule but that all numbers are there
pairs_keep : (i prev want : ℕ) (ns : List ℕ) → 6 ≤ i → i + length ns ≡ want → keep_all i prev want ns ≡ true
unfolding keep_all allowed wanted
pairs_keep i prev want [] l e = eq-eqb i want (omega arith)
pairs_keep i prev want (n ∷ ns) l e =
    rw (ne_eqb i want (λ z. omega arith), le-leb 6 i l, ne_eqb i 5 (λ z. omega arith)) (pairs_keep (suc i) n want ns (omega arith) (omega arith))

keep_pairs : (i prev want : ℕ) (ns : List ℕ) → 6 ≤ i → keep_all i prev want ns ≡ true → i + length ns ≡ want
unfolding keep_all wanted
keep_pairs i prev want [] l e = omega (arith, eqb-true i want e)
keep_pairs i prev want (n ∷ ns) l e =
    let y = and_both (not (eqb i want)) _ e in
    let z = and_both (allowed i prev n) _ y.1 in
    let w = rw (ne_eqb i 5 (λ q. omega arith)) at z.1 in
    omega (arith, keep_pairs (suc i) n want ns (omega arith) w)

-- six numbers at least
keep_long : (i prev : ℕ) (ns : List ℕ) → i ≤ 5 → keep_all i prev 6 ns ≡ true → 6 ≤ i + length ns
unfolding keep_all wanted
keep_long i prev [] l e = absurd (omega (arith, eqb-true i 6 e))
keep_long i prev (n ∷ ns) l e = elim (dec_lt i 5) [
  | yes h ↦
      let y = and_both (not (eqb i 6)) _ e in
      let z = and_both (allowed i prev n) _ y.1 in
      let w = rw (ne_eqb i 5 (λ q. omega arith)) at z.1 in
      omega (arith, keep_long (suc i) n ns (omega arith) w)
  | no h ↦ omega arith
]

rules_keep : (bound prev : ℕ) (h : Head) (pairs : List ℕ) → Rules bound h pairs → keep_all 1 prev 6 (after_form h pairs) ≡ true
unfolding keep_all allowed wanted
rules_keep bound prev h pairs r =
    rw (lt-ltb 0 h.id r.some_id, lt-ltb 0 h.scale r.some_scale, lt-ltb h.a h.b r.order, lt-ltb 0 h.pairs r.some_pairs, le-leb h.pairs 1048576 r.few_pairs)
    (pairs_keep 6 h.pairs (6 + 2 * h.pairs) pairs (omega arith) (omega (arith, r.all_pairs)))

keep_rules : (bound prev : ℕ) (h : Head) (pairs : List ℕ) → keep_all 1 prev 6 (after_form h pairs) ≡ true → Below bound (after_form h pairs) → Rules bound h pairs
unfolding keep_all allowed wanted
keep_rules bound prev h pairs e l =
    let t₁ = and_both (ltb 0 h.id) _ e in
    let t₂ = and_both (ltb 0 h.scale) _ t₁.1 in
    let t₄ = and_both (ltb h.a h.b) _ t₂.1 in
    let t₅ = and_both (ltb 0 h.pairs && leb h.pairs 1048576) _ t₄.1 in
    let t₆ = and_both (ltb 0 h.pairs) (leb h.pairs 1048576) t₅.0 in
    record {
      some_id = ltb-true 0 h.id t₁.0;
      some_scale = ltb-true 0 h.scale t₂.0;
      order = ltb-true h.a h.b t₄.0;
      some_pairs = ltb-true 0 h.pairs t₆.0;
      few_pairs = leb-true h.pairs 1048576 t₆.1;
      all_pairs = omega (arith, keep_pairs 6 h.pairs (6 + 2 * h.pairs) pairs (omega arith) t₅.1);
      below = but_count bound h pairs l;
    }

-- ---- past the form

-- numbers that keep the rules have no fault, whatever the form before them
pub rules_none : (k bound prev place : ℕ) (h : Head) (pairs : List ℕ) → bound ≤ 2 ^ 64 → 1048576 < bound → Rules bound h pairs
    → (fault_from k bound 1 prev 6 place (cut (writes (after_form h pairs))) ≡ none) × (values (cut (writes (after_form h pairs))) ≡ after_form h pairs)
rules_none k bound prev place h pairs w l r =
    let c = cut_writes bound (after_form h pairs) w (all_below bound h pairs l r) in
    (keeps_none k bound 1 prev 6 place (cut (writes (after_form h pairs))) w c.0 (rw c.1 (rules_keep bound prev h pairs r)), c.1)

-- the form, by its one byte
pub fault_one : (any : Bool) (ps : List (List ℕ)) → slip_fault any ((1 ∷ []) ∷ ps) ≡ fault_from 4 (2 ^ 32) 1 1 6 1 ps
unfolding slip_fault rest_fault cut_short unended written value same groups groups_in
fault_one any ps = refl

pub fault_two : (ps : List (List ℕ)) → slip_fault true ((2 ∷ []) ∷ ps) ≡ wide_fault (values ps) (fault_from 9 (2 ^ 64) 1 2 6 1 ps)
unfolding slip_fault rest_fault cut_short unended written value same groups groups_in
fault_two ps = refl

-- ---- the laws

-- what bytes are, by their form and the numbers after it
by_pieces : (any : Bool) (form : ℕ) (bs ns : List ℕ) → bs ≡ writes (form ∷ ns) → cut (writes (form ∷ ns)) ≡ (form ∷ []) ∷ cut (writes ns) → value (form ∷ []) ≡ form → values (cut (writes ns)) ≡ ns
    → slip_fault any ((form ∷ []) ∷ cut (writes ns)) ≡ none → slip_in any bs ≡ accepted (head_of (form ∷ ns)) (drop 6 (form ∷ ns))
unfolding slip_in outcome_of values
by_pieces any form bs ns e c f v z =
    ap (λ (x : List ℕ). outcome_of (slip_fault any (cut x)) (values (cut x))) e
    ∙ ap (λ (x : List (List ℕ)). outcome_of (slip_fault any x) (values x)) c
    ∙ ap (λ (x : Fault). outcome_of x (values ((form ∷ []) ∷ cut (writes ns)))) z
    ∙ ap₂ (λ (x : ℕ) (xs : List ℕ). accepted (head_of (x ∷ xs)) (drop 6 (x ∷ xs))) f v

-- a slip written reads back as the same numbers
pub slip_read : (any : Bool) (bs : List ℕ) (h : Head) (pairs : List ℕ) → IsSlip any bs h pairs → slip_in any bs ≡ accepted h pairs
unfolding writes groups groups_in cut value wide_fault
slip_read any bs h pairs s = go (any_wide ns) refl
  where
    ns : List ℕ
    ns = after_form h pairs

    wide : (known : Bool) → IsSlip known bs h pairs → any_wide ns ≡ true → slip_in known bs ≡ accepted h pairs
    wide false t f =
        let b = below_narrow ns (all_below (2 ^ 32) h pairs (omega arith) t.rules) in
        absurd (let z : ◌≡◌ {A = ℕ} 0 1 = cc in omega arith)
    wide true t f =
        let r = rules_none 9 (2 ^ 64) 2 1 h pairs (omega arith) (omega arith) t.rules in
        let z : slip_fault true ((2 ∷ []) ∷ cut (writes ns)) ≡ none = fault_two (cut (writes ns)) ∙ ap (wide_fault (values (cut (writes ns)))) r.0 ∙ rw (r.1, f) in
        by_pieces true 2 bs ns (t.bytes ∙ slip_form h pairs true f) refl refl r.1 z

    go : (f : Bool) → any_wide ns ≡ f → slip_in any bs ≡ accepted h pairs
    go true f = wide any s f
    go false f =
        let b = narrow_below ns f in
        let r = rules_none 4 (2 ^ 32) 1 1 h pairs (omega arith) (omega arith) (rules_at (bound_of any) (2 ^ 32) h pairs s.rules (but_count (2 ^ 32) h pairs b)) in
        by_pieces any 1 bs ns (s.bytes ∙ slip_form h pairs false f) refl refl r.1 (fault_one any (cut (writes ns)) ∙ r.0)

-- what bytes are said to be, they are
abbrev Says : Bool → List ℕ → Outcome → Type 0
Says any bs (accepted h pairs) = IsSlip any bs h pairs
Says any bs (malformed p) = Unit {0}

-- numbers after the form that they want are a slip
module _ (any : Bool) (bs : List ℕ) (h : Head) (pairs : List ℕ) where
  one_slip : (form prev : ℕ) (g : Head) (ps : List ℕ) → bs ≡ writes (form ∷ after_form g ps) → form ≡ form_of (after_form g ps) → Below (bound_of any) (after_form g ps)
      → keep_all 1 prev 6 (after_form g ps) ≡ true → accepted g ps ≡ accepted h pairs → IsSlip any bs h pairs
  unfolding slip_bytes
  one_slip form prev g ps w f l k e = subst (Says any bs) e (record { bytes = w ∙ ap (λ (x : ℕ). writes (x ∷ after_form g ps)) f; rules = keep_rules (bound_of any) prev g ps k l })

  by_numbers : (form prev : ℕ) (ns : List ℕ) → 5 ≤ length ns → bs ≡ writes (form ∷ ns) → form ≡ form_of ns → Below (bound_of any) ns → keep_all 1 prev 6 ns ≡ true
      → accepted (head_of (form ∷ ns)) (drop 6 (form ∷ ns)) ≡ accepted h pairs → IsSlip any bs h pairs
  by_numbers form prev [] n w f l k e = absurd (omega arith)
  by_numbers form prev (x₀ ∷ []) n w f l k e = absurd (omega arith)
  by_numbers form prev (x₀ ∷ x₁ ∷ []) n w f l k e = absurd (omega arith)
  by_numbers form prev (x₀ ∷ x₁ ∷ x₂ ∷ []) n w f l k e = absurd (omega arith)
  by_numbers form prev (x₀ ∷ x₁ ∷ x₂ ∷ x₃ ∷ []) n w f l k e = absurd (omega arith)
  by_numbers form prev (id ∷ scale ∷ a ∷ b ∷ count ∷ ps) n w f l k e = one_slip form prev (record { id = id; scale = scale; a = a; b = b; pairs = count }) ps w f l k e

  -- pieces without a fault past the form
  by_fault : (p : List ℕ) (ps : List (List ℕ)) → cut bs ≡ p ∷ ps → written (2 ^ 32) p ≡ true → (wide : Bool) → value p ≡ form_for wide → (k bound prev place : ℕ) → bound ≤ bound_of any
      → (Below bound (values ps) → any_wide (values ps) ≡ wide) → fault_from k bound 1 prev 6 place ps ≡ none
      → accepted (head_of (value p ∷ values ps)) (drop 6 (value p ∷ values ps)) ≡ accepted h pairs → IsSlip any bs h pairs
  unfolding written joined writes form_of
  by_fault p ps c r wide v k bound prev place l f z e =
      let n = none_keeps k bound 1 prev 6 place ps z in
      let w = written_writes bound ps n.0 in
      let u = and_both (ltb (value p) (2 ^ 32)) (same p (groups (value p))) r in
      let b : bs ≡ groups (value p) ++ writes (values ps) = sym (joined_cut bs) ∙ ap joined c ∙ ap₂ (λ (x y : List ℕ). x ++ y) (same_true p (groups (value p)) u.1) w.0 in
      by_numbers (value p) prev (values ps) (omega (arith, keep_long 1 prev (values ps) (omega arith) n.1)) b (v ∙ ap form_for (sym (f w.1))) (widen bound (bound_of any) (values ps) l w.1) n.1 e

  narrow_bound : (b : Bool) → 2 ^ 32 ≤ bound_of b
  narrow_bound true = omega arith
  narrow_bound false = omega arith

  -- a slip accepted is the only writing of its numbers
  pub slip_only : slip_in any bs ≡ accepted h pairs → IsSlip any bs h pairs
  unfolding slip_in outcome_of slip_fault rest_fault wide_fault values
  slip_only e = go (cut bs) refl e
    where
      Is : List ℕ → List (List ℕ) → Fault → Type 0
      Is p ps f = outcome_of f (values (p ∷ ps)) ≡ accepted h pairs

      one : (p : List ℕ) (ps : List (List ℕ)) → cut bs ≡ p ∷ ps → written (2 ^ 32) p ≡ true → value p ≡ 1 → (f : Fault) → fault_from 4 (2 ^ 32) 1 1 6 (length p) ps ≡ f → Is p ps f → IsSlip any bs h pairs
      one p ps c r v none f e' = by_fault p ps c r false v 4 (2 ^ 32) 1 (length p) (narrow_bound any) (below_narrow (values ps)) f e'
      one p ps c r v (at q) f e' = absurd (let z : ◌≡◌ {A = ℕ} 0 1 = cc in omega arith)

      two : (p : List ℕ) (ps : List (List ℕ)) → cut bs ≡ p ∷ ps → written (2 ^ 32) p ≡ true → value p ≡ 2 → any ≡ true → (f : Fault) → fault_from 9 (2 ^ 64) 1 2 6 (length p) ps ≡ f
          → (g : Bool) → any_wide (values ps) ≡ g → Is p ps (wide_fault (values ps) f) → IsSlip any bs h pairs
      two p ps c r v y none f true g e' =
          let bound : 2 ^ 64 ≤ bound_of any = rw y (omega arith) in
          by_fault p ps c r true v 9 (2 ^ 64) 2 (length p) bound (λ b. g) f (rw g at e')
      two p ps c r v y none f false g e' = absurd (let w = rw g at e' in let z : ◌≡◌ {A = ℕ} 0 1 = cc in omega arith)
      two p ps c r v y (at q) f g₁ g e' = absurd (let z : ◌≡◌ {A = ℕ} 0 1 = cc in omega arith)

      second : (p : List ℕ) (ps : List (List ℕ)) → cut bs ≡ p ∷ ps → written (2 ^ 32) p ≡ true → (f : Bool) → (any && eqb (value p) 2) ≡ f
          → Is p ps (cond f (wide_fault (values ps) (fault_from 9 (2 ^ 64) 1 2 6 (length p) ps)) (at 0)) → IsSlip any bs h pairs
      second p ps c r true f e' =
          let u = and_both any (eqb (value p) 2) f in
          two p ps c r (eqb-true (value p) 2 u.1) u.0 (fault_from 9 (2 ^ 64) 1 2 6 (length p) ps) refl (any_wide (values ps)) refl e'
      second p ps c r false f e' = absurd (let z : ◌≡◌ {A = ℕ} 0 1 = cc in omega arith)

      first : (p : List ℕ) (ps : List (List ℕ)) → cut bs ≡ p ∷ ps → written (2 ^ 32) p ≡ true → (f : Bool) → eqb (value p) 1 ≡ f
          → Is p ps (cond f (fault_from 4 (2 ^ 32) 1 1 6 (length p) ps) (cond (any && eqb (value p) 2) (wide_fault (values ps) (fault_from 9 (2 ^ 64) 1 2 6 (length p) ps)) (at 0))) → IsSlip any bs h pairs
      first p ps c r true f e' = one p ps c r (eqb-true (value p) 1 f) (fault_from 4 (2 ^ 32) 1 1 6 (length p) ps) refl e'
      first p ps c r false f e' = second p ps c r (any && eqb (value p) 2) refl e'

      right : (p : List ℕ) (ps : List (List ℕ)) → cut bs ≡ p ∷ ps → (f : Bool) → written (2 ^ 32) p ≡ f → Is p ps (cond f (rest_fault any (value p) (length p) ps) (at 0)) → IsSlip any bs h pairs
      right p ps c true f e' = first p ps c f (eqb (value p) 1) refl e'
      right p ps c false f e' = absurd (let z : ◌≡◌ {A = ℕ} 0 1 = cc in omega arith)

      ended : (p : List ℕ) (ps : List (List ℕ)) → cut bs ≡ p ∷ ps → (f : Bool)
          → Is p ps (cond f (at (length p)) (cond (written (2 ^ 32) p) (rest_fault any (value p) (length p) ps) (at 0))) → IsSlip any bs h pairs
      ended p ps c true e' = absurd (let z : ◌≡◌ {A = ℕ} 0 1 = cc in omega arith)
      ended p ps c false e' = right p ps c (written (2 ^ 32) p) refl e'

      go : (l : List (List ℕ)) → cut bs ≡ l → outcome_of (slip_fault any l) (values l) ≡ accepted h pairs → IsSlip any bs h pairs
      go [] c e' = absurd (let z : ◌≡◌ {A = ℕ} 0 1 = cc in omega arith)
      go (p ∷ ps) c e' = ended p ps c (cut_short 4 p) e'
