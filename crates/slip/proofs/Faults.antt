-- Stepping through a slip number by number stops where the first fault of its pieces is: a run of numbers leads from one place to the next without a fault, or
-- stops at it. Over the width.
-- Assumes nothing.
use mathlib.Core.Path.{◌≡◌, refl, ap, sym, subst, ◌∙◌}
use mathlib.Core.Logic.{⊎_elim}
use mathlib.Core.Bool.{Bool, true, false, cond, ◌&&◌}
use mathlib.Core.List.{List, [], ◌∷◌}
use Prim.Native.Nat.{ℕ, zero, suc, ◌+◌, ◌*◌, ◌<◌, ◌≤◌, ◌^◌}
use native.Mathlib.Omega.{arith}
use lib.Dec.{eqb, lit<, lit≤}
use lib.ListN.{length, get_or, drop, length-drop}
use borrow.Author.Tests.{eqb-true, eqb-false, eq-eqb, ne_eqb}
use Rattle.leb128.specs.Numbers.{writes, value, cut, written, values, cut_short}
use Rattle.leb128.specs.Reading.{NumberRead, found, limit, read_at}
use Rattle.std.specs.Prelude.{Ok, Err}
use Rattle.leb128.specs.declared.number.NumberFault.TheVariants.{Broken, Short}
use Rattle.leb128.proofs.Pieces.{cut_none, IsNumber, piece_good, piece_broken, piece_short}
use Rattle.slip_head.specs.Bytes.{after_form}
use Rattle.slip_head.proofs.Forms.{below_narrow, widen, rules_at, all_below, but_count}
use Rattle.slip_numbers.specs.Rules.{allowed}
use Rattle.slip.specs.Slip.{wanted, Fault, at, fault_from, wide_fault, rest_fault, slip_fault}
use Rattle.number_values.specs.Values.{values_from}
use Rattle.slip_numbers.specs.Steps.{NumberRun, all, stopped, prepend, ruled, run}
use Rattle.slip_scan.specs.Steps.{SlipScan, slip_at, malformed_at, after_pairs, after_head, rest_in, widened, wide_in, by_form, scan_in}
use Rattle.slip_numbers.proofs.Runs.{run_ran}
use Rattle.slip.proofs.Slips.{rules_none}
use Rattle.slip.proofs.Rests.{rest_only, place_same}

-- ---- one piece

module _ (k bound i prev want place : ℕ) (n : i ≡ want → ⊥) where
  fault_next : (p : List ℕ) (ps : List (List ℕ)) (m : ℕ) → IsNumber k bound p m → allowed i prev m ≡ true
      → fault_from k bound i prev want place (p ∷ ps) ≡ fault_from k bound (suc i) m (wanted i want m) (place + length p) ps
  unfolding fault_from
  fault_next p ps m is o = rw (ne_eqb i want n, is.ended, is.right, is.count, o)

  fault_rule : (p : List ℕ) (ps : List (List ℕ)) (m : ℕ) → IsNumber k bound p m → allowed i prev m ≡ false → fault_from k bound i prev want place (p ∷ ps) ≡ at place
  unfolding fault_from
  fault_rule p ps m is o = rw (ne_eqb i want n, is.ended, is.right, is.count, o)

  fault_broken : (p : List ℕ) (ps : List (List ℕ)) → cut_short k p ≡ false → written bound p ≡ false → fault_from k bound i prev want place (p ∷ ps) ≡ at place
  unfolding fault_from
  fault_broken p ps e w = rw (ne_eqb i want n, e, w)

  fault_short : (p : List ℕ) (ps : List (List ℕ)) → cut_short k p ≡ true → fault_from k bound i prev want place (p ∷ ps) ≡ at (place + length p)
  unfolding fault_from
  fault_short p ps e = rw (ne_eqb i want n, e)

  fault_end : fault_from k bound i prev want place [] ≡ at place
  unfolding fault_from
  fault_end = rw (ne_eqb i want n)

-- the number before has a say in b's rule alone
allowed_any : (i prev other n : ℕ) → (i ≡ 4 → ⊥) → allowed i prev n ≡ allowed i other n
unfolding allowed
allowed_any i prev other n h = rw (ne_eqb i 4 h)

fault_any : (k bound i prev other want place : ℕ) (ps : List (List ℕ)) → (i ≡ 4 → ⊥) → fault_from k bound i prev want place ps ≡ fault_from k bound i other want place ps
unfolding fault_from
fault_any k bound i prev other want place [] h = refl
fault_any k bound i prev other want place (p ∷ ps) h = rw (allowed_any i prev other (value p) h)

-- ---- the number at a place

module _ (k top : ℕ) (pos : 0 < top) (t : top ≤ 128) (nine : k ≤ 9) (w : limit k top ≤ 2 ^ 64) (bs : List ℕ) (are : (x : ℕ) → get_or bs x 0 < 256) where
  -- the fault of the bytes from a place on
  abbrev fault_at : ℕ → ℕ → ℕ → ℕ → Fault
  fault_at i prev want place = fault_from k (limit k top) i prev want place (cut (drop place bs))

  module _ (i prev want place : ℕ) (n : i ≡ want → ⊥) where
    at_good : (m next : ℕ) → read_at k top bs place ≡ found m next → allowed i prev m ≡ true → (fault_at i prev want place ≡ fault_at (suc i) m (wanted i want m) next) × (next ≤ length bs)
    at_good m next e o =
        let g = piece_good k top pos t nine w bs are place m next e in (
          ap (fault_from k (limit k top) i prev want place) g.1
              ∙ fault_next k (limit k top) i prev want place n g.0 (cut (drop next bs)) m g.2 o
              ∙ ap (λ (x : ℕ). fault_from k (limit k top) (suc i) m (wanted i want m) x (cut (drop next bs))) (sym g.3),
          g.4,
        )

    at_rule : (m next : ℕ) → read_at k top bs place ≡ found m next → allowed i prev m ≡ false → fault_at i prev want place ≡ at place
    at_rule m next e o =
        let g = piece_good k top pos t nine w bs are place m next e in
        ap (fault_from k (limit k top) i prev want place) g.1 ∙ fault_rule k (limit k top) i prev want place n g.0 (cut (drop next bs)) m g.2 o

    at_broken : (q : ℕ) → read_at k top bs place ≡ Err (Broken q) → fault_at i prev want place ≡ at q
    at_broken q e =
        let g = piece_broken k top pos t nine w bs are place q e in
        ap (fault_from k (limit k top) i prev want place) g.2 ∙ fault_broken k (limit k top) i prev want place n g.0 g.1 g.3 g.4 ∙ ap at (sym g.5)

    at_short : (q : ℕ) → read_at k top bs place ≡ Err (Short q) → place ≤ length bs → fault_at i prev want place ≡ at q
    at_short q e l =
        let g = piece_short k top pos t nine w bs are place q e l in
        ⊎_elim (λ c. ap (fault_from k (limit k top) i prev want place) c.0 ∙ fault_end k (limit k top) i prev want place n ∙ ap at (c.1 ∙ sym g.0))
        (λ c. ap (fault_from k (limit k top) i prev want place) c.2 ∙ fault_short k (limit k top) i prev want place n c.0 c.1 c.3 ∙ ap at (c.4 ∙ sym g.0)) g.1

  -- ---- a run of numbers past the form

  -- what is wanted, and the number before, past some numbers
  abbrev want_after : ℕ → ℕ → List ℕ → ℕ
  want_after i want [] = want
  want_after i want (n ∷ ns) = want_after (i + 1) (wanted i want n) ns

  abbrev prev_after : ℕ → List ℕ → ℕ
  prev_after prev [] = prev
  prev_after prev (n ∷ ns) = prev_after n ns

  -- the fault lies past a run of all its numbers, or is where the run stopped
  abbrev Leads : ℕ → ℕ → ℕ → ℕ → ℕ → NumberRun → Type 0
  Leads c i prev want place (all ns end) = (fault_at i prev want place ≡ fault_at (i + c) (prev_after prev ns) (want_after i want ns) end) × (end ≤ length bs)
  Leads c i prev want place (stopped p) = fault_at i prev want place ≡ at p

  -- one number more before a run
  leads_next : (c i prev want place m next : ℕ) (u : NumberRun) → fault_at i prev want place ≡ fault_at (i + 1) m (wanted i want m) next → Leads c (i + 1) m (wanted i want m) next u
      → Leads (suc c) i prev want place (prepend m u)
  unfolding prepend
  leads_next c i prev want place m next (all ns end) e r =
      let z : i + 1 + c ≡ i + suc c = omega arith in
      (e ∙ r.0 ∙ ap (λ (x : ℕ). fault_at x (prev_after m ns) (want_after (i + 1) (wanted i want m) ns) end) z, r.1)
  leads_next c i prev want place m next (stopped p) e r = e ∙ r

  -- as many numbers are wanted, and of the head no more than it has before its count is read
  leads : (c i prev want place : ℕ) → i + c ≤ want → (i ≤ 5 → i + c ≤ 6) → place ≤ length bs → Leads c i prev want place (run k top bs c i prev place)
  unfolding run ruled wanted
  leads zero i prev want place h g l = let z : i ≡ i + 0 = omega arith in (ap (λ (x : ℕ). fault_at x prev want place) z, l)
  leads (suc c) i prev want place h g l = go (read_at k top bs place) refl (λ m next. leads c (i + 1) m (wanted i want m) next)
    where
      IH : Type 0
      IH = (m next : ℕ) → i + 1 + c ≤ wanted i want m → (i + 1 ≤ 5 → i + 1 + c ≤ 6) → next ≤ length bs
          → Leads c (i + 1) m (wanted i want m) next (run k top bs c (i + 1) m next)

      n : i ≡ want → ⊥
      n e = omega arith

      enough : (m : ℕ) (f : Bool) → eqb i 5 ≡ f → i + 1 + c ≤ cond f (6 + 2 * m) want
      enough m true f = omega (arith, eqb-true i 5 f, g (omega (arith, eqb-true i 5 f)))
      enough m false f = omega arith

      few : i + 1 ≤ 5 → i + 1 + c ≤ 6
      few q = omega (arith, g (omega arith))

      by_rule : (m next : ℕ) → read_at k top bs place ≡ found m next → IH → (f : Bool) → allowed i prev m ≡ f
          → Leads (suc c) i prev want place (cond f (prepend m (run k top bs c (i + 1) m next)) (stopped place))
      by_rule m next e ih true f =
          let a = at_good i prev want place n m next e f in
          let z : suc i ≡ i + 1 = omega arith in
          leads_next c i prev want place m next (run k top bs c (i + 1) m next) (a.0 ∙ ap (λ (x : ℕ). fault_at x m (wanted i want m) next) z) (ih m next (enough m (eqb i 5) refl) few a.1)
      by_rule m next e ih false f = at_rule i prev want place n m next e f

      go : (r : NumberRead) → read_at k top bs place ≡ r → IH → Leads (suc c) i prev want place (ruled (allowed i prev) place (λ m next. run k top bs c (i + 1) m next) r)
      go (Ok got) e ih = by_rule got.value got.next e ih (allowed i prev got.value) refl
      go (Err (Broken q)) e ih = at_broken i prev want place n q e
      go (Err (Short q)) e ih = at_short i prev want place n q e l

  -- a run by what it is
  leads_all : (c i prev want place : ℕ) (ns : List ℕ) (end : ℕ) → i + c ≤ want → (i ≤ 5 → i + c ≤ 6) → place ≤ length bs → run k top bs c i prev place ≡ all ns end
      → (fault_at i prev want place ≡ fault_at (i + c) (prev_after prev ns) (want_after i want ns) end) × (end ≤ length bs)
  leads_all c i prev want place ns end h g l e = subst (Leads c i prev want place) e (leads c i prev want place h g l)

  leads_stopped : (c i prev want place p : ℕ) → i + c ≤ want → (i ≤ 5 → i + c ≤ 6) → place ≤ length bs → run k top bs c i prev place ≡ stopped p → fault_at i prev want place ≡ at p
  leads_stopped c i prev want place p h g l e = subst (Leads c i prev want place) e (leads c i prev want place h g l)

  -- ---- past the last number

  surplus : (want prev place : ℕ) → place ≤ length bs → (place ≡ length bs → ⊥) → fault_at want prev want place ≡ at place
  unfolding fault_from
  surplus want prev place l h = go (cut (drop place bs)) refl
    where
      go : (ps : List (List ℕ)) → cut (drop place bs) ≡ ps → fault_from k (limit k top) want prev want place ps ≡ at place
      go [] e = absurd (h (omega (arith, ap length (cut_none (drop place bs) e), length-drop place bs)))
      go (p ∷ ps) e = rw (eq-eqb want want refl)

  -- ---- what follows the form

  want_pairs : (i want : ℕ) (ns : List ℕ) → 6 ≤ i → want_after i want ns ≡ want
  unfolding wanted
  want_pairs i want [] h = refl
  want_pairs i want (n ∷ ns) h = rw (ne_eqb i 5 (λ z. omega arith)) (want_pairs (i + 1) want ns (omega arith))

  want_head : (ns : List ℕ) → length ns ≡ 5 → want_after 1 6 ns ≡ 6 + 2 * get_or ns 4 0
  unfolding wanted
  want_head [] e = absurd (omega arith)
  want_head (x₀ ∷ []) e = absurd (omega arith)
  want_head (x₀ ∷ x₁ ∷ []) e = absurd (omega arith)
  want_head (x₀ ∷ x₁ ∷ x₂ ∷ []) e = absurd (omega arith)
  want_head (x₀ ∷ x₁ ∷ x₂ ∷ x₃ ∷ []) e = absurd (omega arith)
  want_head (x₀ ∷ x₁ ∷ x₂ ∷ x₃ ∷ x₄ ∷ []) e = refl
  want_head (x₀ ∷ x₁ ∷ x₂ ∷ x₃ ∷ x₄ ∷ x₅ ∷ ns) e = absurd (omega arith)

  pub rest-fault : (prev from p : ℕ) → from ≤ length bs → rest_in k top bs from ≡ malformed_at p → fault_at 1 prev 6 from ≡ at p
  unfolding rest_in after_head after_pairs
  rest-fault prev from p l e = fault_any k (limit k top) 1 prev 0 6 from (cut (drop from bs)) (λ z. omega arith) ∙ go₁ (run k top bs 5 1 0 from) refl e
    where
      go₃ : (ns ps : List ℕ) (place end : ℕ) → place ≤ length bs → run k top bs (2 * get_or ns 4 0) 6 0 place ≡ all ps end → (f : Bool) → eqb end (length bs) ≡ f
          → cond f (slip_at (record { id = get_or ns 0 0; scale = get_or ns 1 0; a = get_or ns 2 0; b = get_or ns 3 0; pairs = get_or ns 4 0 }) place) (malformed_at end) ≡ malformed_at p
          → fault_at 6 0 (6 + 2 * get_or ns 4 0) place ≡ at p
      go₃ ns ps place end h r true f e' = absurd (let z : ◌≡◌ {A = ℕ} 0 1 = cc in omega arith)
      go₃ ns ps place end h r false f e' =
          let want = 6 + 2 * get_or ns 4 0 in
          let q = place_same end p e' in
          let w = leads_all (2 * get_or ns 4 0) 6 0 want place ps end (omega arith) (λ z. absurd (omega arith)) h r in
          w.0 ∙ ap (λ (x : ℕ). fault_at want (prev_after 0 ps) x end) (want_pairs 6 want ps (omega arith)) ∙ surplus want (prev_after 0 ps) end w.1 (eqb-false end (length bs) f) ∙ ap at q

      go₂ : (ns : List ℕ) (place : ℕ) → place ≤ length bs → (u : NumberRun) → run k top bs (2 * get_or ns 4 0) 6 0 place ≡ u → after_pairs bs ns place u ≡ malformed_at p
          → fault_at 6 0 (6 + 2 * get_or ns 4 0) place ≡ at p
      go₂ ns place h (all ps end) r e' = go₃ ns ps place end h r (eqb end (length bs)) refl e'
      go₂ ns place h (stopped x) r e' =
          let q = place_same x p e' in
          leads_stopped (2 * get_or ns 4 0) 6 0 (6 + 2 * get_or ns 4 0) place x (omega arith) (λ z. absurd (omega arith)) h r ∙ ap at q

      go₁ : (u : NumberRun) → run k top bs 5 1 0 from ≡ u → after_head k top bs u ≡ malformed_at p → fault_at 1 0 6 from ≡ at p
      go₁ (all ns place) r e' =
          let w = leads_all 5 1 0 6 from ns place (omega arith) (λ z. omega arith) l r in
          let c = (run_ran k top bs 5 1 0 from ns place pos t nine are r).count in
          w.0
          ∙ ap (λ (x : ℕ). fault_at 6 (prev_after 0 ns) x place) (want_head ns c)
          ∙ fault_any k (limit k top) 6 (prev_after 0 ns) 0 (6 + 2 * get_or ns 4 0) place (cut (drop place bs)) (λ z. omega arith)
          ∙ go₂ ns place w.1 (run k top bs (2 * get_or ns 4 0) 6 0 place) refl e'
      go₁ (stopped x) r e' =
          let q = place_same x p e' in
          leads_stopped 5 1 0 6 from x (omega arith) (λ z. omega arith) l r ∙ ap at q

-- ---- the form, and what follows it

module _ (any : Bool) (bs : List ℕ) (are : (x : ℕ) → get_or bs x 0 < 256) where
  -- a good form: the fault is past it
  form_good : (m next : ℕ) → read_at 4 16 bs 0 ≡ found m next → (slip_fault any (cut bs) ≡ rest_fault any m next (cut (drop next bs))) × (next ≤ length bs)
  unfolding slip_fault limit
  form_good m next q =
      let g = piece_good 4 16 (lit< tt) (lit≤ tt) (lit≤ tt) (omega arith) bs are 0 m next q in
      let e : length g.0 ≡ next = omega (arith, g.3) in
      (ap (slip_fault any) g.1 ∙ rw (g.2.ended, g.2.right, g.2.count, e), g.4)

  form_broken : (q : ℕ) → read_at 4 16 bs 0 ≡ Err (Broken q) → slip_fault any (cut bs) ≡ at q
  unfolding slip_fault limit
  form_broken q e =
      let g = piece_broken 4 16 (lit< tt) (lit≤ tt) (lit≤ tt) (omega arith) bs are 0 q e in
      ap (slip_fault any) g.2 ∙ rw (g.3, g.4) (ap at (sym g.5))

  form_short : (q : ℕ) → read_at 4 16 bs 0 ≡ Err (Short q) → slip_fault any (cut bs) ≡ at q
  unfolding slip_fault limit
  form_short q e =
      let g = piece_short 4 16 (lit< tt) (lit≤ tt) (lit≤ tt) (omega arith) bs are 0 q e (omega arith) in
      ⊎_elim (λ c. ap (slip_fault any) c.0 ∙ ap at (c.1 ∙ sym g.0)) (λ c. let z : length c.0 ≡ q = omega (arith, c.4, g.0) in ap (slip_fault any) c.2 ∙ rw c.3 (ap at z)) g.1

  -- past form 2
  wide-fault : (next p : ℕ) → next ≤ length bs → wide_in bs next ≡ malformed_at p → wide_fault (values (cut (drop next bs))) (fault_from 9 (2 ^ 64) 1 2 6 next (cut (drop next bs))) ≡ at p
  unfolding wide_in widened wide_fault limit
  wide-fault next p l e = go (rest_in 4 16 bs next) refl e
    where
      go : (u : SlipScan) → rest_in 4 16 bs next ≡ u → widened u (rest_in 9 2 bs next) ≡ malformed_at p → wide_fault (values (cut (drop next bs))) (fault_from 9 (2 ^ 64) 1 2 6 next (cut (drop next bs))) ≡ at p
      go (Ok s) f e' =
          let h = s.head in
          let place = s.pairs_at in
          let z = place_same 0 p e' in
          let r = rest_only 4 16 4 16 (lit≤ tt) (lit< tt) (lit≤ tt) bs (λ x n y w. w) next h place are f in
          let ps = values_from 4 16 bs (2 * h.pairs) place in
          let c : cut (drop next bs) ≡ cut (writes (after_form h ps)) = ap cut r.bytes in
          let b = all_below (2 ^ 32) h ps (omega arith) r.rules in
          let wide = rules_at (2 ^ 32) (2 ^ 64) h ps r.rules (but_count (2 ^ 64) h ps (widen (2 ^ 32) (2 ^ 64) (after_form h ps) (omega arith) b)) in
          let n = rules_none 9 (2 ^ 64) 2 next h ps (omega arith) (omega arith) wide in
          rw c (rw (n.0, n.1, below_narrow (after_form h ps) b) (ap at z))
      go (Err m) f e' = ap (wide_fault (values (cut (drop next bs)))) (rest-fault 9 2 (lit< tt) (lit≤ tt) (lit≤ tt) (omega arith) bs are 2 next p l e')

  pub found_fault : (p : ℕ) → scan_in any bs ≡ malformed_at p → slip_fault any (cut bs) ≡ at p
  unfolding scan_in by_form rest_fault limit
  found_fault p e = go (read_at 4 16 bs 0) refl e
    where
      second : (m next : ℕ) → next ≤ length bs → (f : Bool) → cond f (wide_in bs next) (malformed_at 0) ≡ malformed_at p
          → cond f (wide_fault (values (cut (drop next bs))) (fault_from 9 (2 ^ 64) 1 2 6 next (cut (drop next bs)))) (at 0) ≡ at p
      second m next l true e' = wide-fault next p l e'
      second m next l false e' = let z = place_same 0 p e' in ap at z

      first : (m next : ℕ) → next ≤ length bs → (f : Bool) → cond f (rest_in 4 16 bs next) (cond (any && eqb m 2) (wide_in bs next) (malformed_at 0)) ≡ malformed_at p
          → cond f (fault_from 4 (2 ^ 32) 1 1 6 next (cut (drop next bs))) (cond (any && eqb m 2) (wide_fault (values (cut (drop next bs))) (fault_from 9 (2 ^ 64) 1 2 6 next (cut (drop next bs)))) (at 0)) ≡ at p
      first m next l true e' = rest-fault 4 16 (lit< tt) (lit≤ tt) (lit≤ tt) (omega arith) bs are 1 next p l e'
      first m next l false e' = second m next l (any && eqb m 2) e'

      go : (r : NumberRead) → read_at 4 16 bs 0 ≡ r → by_form any bs r ≡ malformed_at p → slip_fault any (cut bs) ≡ at p
      go (Ok got) q e' = let g = form_good got.value got.next q in g.0 ∙ first got.value got.next g.1 (eqb got.value 1) e'
      go (Err (Broken x)) q e' = form_broken x q ∙ ap at (place_same x p e')
      go (Err (Short x)) q e' = form_short x q ∙ ap at (place_same x p e')
