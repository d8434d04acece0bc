-- What follows the form, as the code steps through it: the five numbers of the head and the pairs, to the end, are the writing of numbers that keep the rules
-- (`rest_only`). Over the width.
-- Assumes nothing.
use mathlib.Core.Path.{◌≡◌, refl, ap, sym, subst, ◌∙◌}
use mathlib.Core.Bool.{Bool, true, false, cond}
use mathlib.Core.List.{List, [], ◌∷◌, ◌++◌, append_assoc, append-nil}
use Prim.Native.Nat.{ℕ, ◌*◌, ◌<◌, ◌≤◌}
use native.Mathlib.Omega.{arith}
use lib.Dec.{ltb, leb, eqb}
use lib.ListN.{length, get_or, drop, drop_of_length-le}
use borrow.Author.Tests.{ltb-true, leb-true, eqb-true}
use Rattle.lists.proofs.Booleans.{and_both}
use Rattle.leb128.specs.Numbers.{writes, Below}
use Rattle.leb128.specs.Reading.{limit, read_at, found}
use Rattle.std.specs.Prelude.{Ok, Err}
use Rattle.slip_head.specs.Bytes.{after_form, Rules}
use Rattle.slip_head.specs.declared.Head.{Head}
use Rattle.slip_numbers.specs.Rules.{allowed}
use Rattle.number_values.specs.Values.{values_from}
use Rattle.slip_numbers.specs.Steps.{NumberRun, all, stopped, run}
use Rattle.slip_scan.specs.Steps.{SlipScan, slip_at, malformed_at, after_pairs, after_head, rest_in}
use Rattle.slip_numbers.specs.declared.Malformed.{Malformed}
use Rattle.slip_numbers.proofs.Runs.{Allowed, Ran, run_ran, run_values, pairs_below}
use Rattle.slip_scan.proofs.Rest.{head, head_of, five}

-- bytes that are no slip, by the place of the first fault
pub place_same : (x p : ℕ) → malformed_at x ≡ malformed_at p → x ≡ p
place_same x p e =
    let same : ◌≡◌ {A = Malformed} (record { place = x }) (record { place = p }) = cc in
    ap (λ (m : Malformed). m.place) same

-- numbers that are allowed by their place keep the rules of document 01
allowed_rules : (bound : ℕ) (h : Head) (pairs : List ℕ) → Allowed bound 1 0 (head h) → length pairs ≡ 2 * h.pairs → Below bound pairs → Rules bound h pairs
unfolding allowed
allowed_rules bound h pairs i n l =
    let s = i.2 in
    let x = s.2 in
    let y = x.2 in
    let z = y.2 in
    let t = and_both (ltb 0 h.pairs) (leb h.pairs 1048576) z.1 in
    record {
      some_id = ltb-true 0 h.id i.1;
      some_scale = ltb-true 0 h.scale s.1;
      order = ltb-true h.a h.b y.1;
      some_pairs = ltb-true 0 h.pairs t.0;
      few_pairs = leb-true h.pairs 1048576 t.1;
      all_pairs = n;
      below = (i.0, (s.0, (x.0, (y.0, l))));
    }

-- what follows the form, from a place to the end
pub record IsRest (k top : ℕ) (bs : List ℕ) (from : ℕ) (h : Head) (pairs : List ℕ) : Type 0 where
  pub bytes : drop from bs ≡ writes (after_form h pairs)
  pub rules : Rules (limit k top) h pairs

head_first : (h : Head) (pairs : List ℕ) → writes (after_form h pairs) ≡ writes (head h) ++ (writes pairs ++ [])
unfolding writes
head_first h pairs = simp (append_assoc, append-nil)

-- that what is found is the rest of a slip, whose pairs are had by other limits
abbrev Says : ℕ → ℕ → ℕ → ℕ → List ℕ → ℕ → SlipScan → Type 0
Says k top k' top' bs from (Ok s) = IsRest k top bs from s.head (values_from k' top' bs (2 * s.head.pairs) s.pairs_at)
Says k top k' top' bs from (Err m) = Unit {0}

-- a head and pairs that were read to the end
both_ran : (k top : ℕ) (bs ns ps : List ℕ) (from at end : ℕ) → Ran k top bs 5 1 0 from ns at → Ran k top bs (2 * get_or ns 4 0) 6 0 at ps end → end ≡ length bs → IsRest k top bs from (head_of ns) ps
both_ran k top bs ns ps from at end r₁ r₂ e =
    record {
      bytes = r₁.bytes ∙ ap (λ (x : List ℕ). writes ns ++ x) (r₂.bytes ∙ ap (λ (x : List ℕ). writes ps ++ x) none) ∙ ap (λ (x : List ℕ). writes x ++ (writes ps ++ [])) whole ∙ sym (head_first (head_of ns) ps);
      rules = allowed_rules (limit k top) (head_of ns) ps (subst (Allowed (limit k top) 1 0) whole r₁.are) r₂.count (pairs_below (limit k top) ps 6 0 r₂.are);
    }
  where
    whole : ns ≡ head (head_of ns)
    whole = five ns r₁.count

    none : drop end bs ≡ []
    none = let h : length bs ≤ end = omega arith in drop_of_length-le bs h

module _ (k top k' top' : ℕ) (t : top ≤ 128) where
  pub rest_only : 0 < top → k ≤ 9 → (bs : List ℕ) → ((at n next : ℕ) → read_at k top bs at ≡ found n next → read_at k' top' bs at ≡ found n next)
      → (from : ℕ) (h : Head) (at : ℕ) → ((x : ℕ) → get_or bs x 0 < 256) → rest_in k top bs from ≡ slip_at h at → IsRest k top bs from h (values_from k' top' bs (2 * h.pairs) at)
  unfolding rest_in after_head after_pairs
  rest_only p nine bs wider from h at are e = go₁ (run k top bs 5 1 0 from) refl e
    where
      Goal : Type 0
      Goal = IsRest k top bs from h (values_from k' top' bs (2 * h.pairs) at)

      go₃ : (ns ps : List ℕ) (at' end : ℕ) → Ran k top bs 5 1 0 from ns at' → run k top bs (2 * get_or ns 4 0) 6 0 at' ≡ all ps end → (f : Bool) → eqb end (length bs) ≡ f → cond f (slip_at (head_of ns) at') (malformed_at end) ≡ slip_at h at → Goal
      go₃ ns ps at' end r₁ r true f e' =
          let v : ps ≡ values_from k' top' bs (2 * get_or ns 4 0) at' = sym (run_values k top k' top' bs wider (2 * get_or ns 4 0) 6 0 at' ps end r) in
          subst (Says k top k' top' bs from) e'
          (subst (IsRest k top bs from (head_of ns)) v (both_ran k top bs ns ps from at' end r₁ (run_ran k top bs (2 * get_or ns 4 0) 6 0 at' ps end p t nine are r) (eqb-true end (length bs) f)))
      go₃ ns ps at' end r₁ r false f e' = absurd (let z : ◌≡◌ {A = ℕ} 0 1 = cc in omega arith)

      go₂ : (ns : List ℕ) (at' : ℕ) → Ran k top bs 5 1 0 from ns at' → (u : NumberRun) → run k top bs (2 * get_or ns 4 0) 6 0 at' ≡ u → after_pairs bs ns at' u ≡ slip_at h at → Goal
      go₂ ns at' r₁ (all ps end) f e' = go₃ ns ps at' end r₁ f (eqb end (length bs)) refl e'
      go₂ ns at' r₁ (stopped x) f e' = absurd (let z : ◌≡◌ {A = ℕ} 0 1 = cc in omega arith)

      go₁ : (u : NumberRun) → run k top bs 5 1 0 from ≡ u → after_head k top bs u ≡ slip_at h at → Goal
      go₁ (all ns at') f e' = go₂ ns at' (run_ran k top bs 5 1 0 from ns at' p t nine are f) (run k top bs (2 * get_or ns 4 0) 6 0 at') refl e'
      go₁ (stopped x) f e' = absurd (let z : ◌≡◌ {A = ℕ} 0 1 = cc in omega arith)
