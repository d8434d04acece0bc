-- Laws of runs: the numbers of a slip as the code steps through them. A run over what was written gives the numbers back, and a run that has all its
-- numbers read what was written, and no other bytes; both by induction over the numbers.
-- Assumes nothing.
use mathlib.Core.Path.{◌≡◌, refl, ap, sym, subst, subst₂, ◌∙◌}
use mathlib.Core.Bool.{Bool, true, false, cond}
use mathlib.Core.List.{List, [], ◌∷◌, ◌++◌, append_assoc}
use Prim.Native.Nat.{ℕ, zero, suc, ◌+◌, ◌-◌, ◌<◌, ◌≤◌}
use native.Mathlib.Omega.{arith}
use native.Mathlib.Nat.{add-zero}
use lib.ListN.{length, get_or, drop, length-append}
use borrow.Author.Tests.{le-leb}
use lib.Seq.{drop-drop, get_or-drop}
use Rattle.leb128.specs.Numbers.{groups, writes, Below}
use Rattle.leb128.specs.Reading.{NumberRead, found, place_of, limit, read_at}
use Rattle.number_values.specs.Values.{value_of, next_of, values_from}
use Rattle.slip_numbers.specs.Rules.{allowed}
use Rattle.slip_numbers.specs.Steps.{NumberRun, all, stopped, prepend, ruled, run, fault_at, checked_of}
use Rattle.std.specs.Prelude.{Ok, Err}
use Rattle.leb128.specs.declared.number.NumberFault.{NumberFault}
use Rattle.slip_numbers.specs.declared.Malformed.{Malformed}
use Rattle.leb128.proofs.Groups.{Written, number_written}
use Rattle.leb128.proofs.Readings.{read_good}

-- numbers that a slip may have from the i-th on, after prev, each below the bound
abbrev pub Allowed : ℕ → ℕ → ℕ → List ℕ → Type 0
Allowed bound i prev [] = Unit {0}
Allowed bound i prev (n ∷ ns) = (n < bound) × (allowed i prev n ≡ true) × Allowed bound (i + 1) n ns

-- one turn of a run, by what was read
module _ (k top : ℕ) (bs : List ℕ) (c i prev at : ℕ) (r : NumberRead) (read : r ≡ read_at k top bs at) where
  run_by : (u : NumberRead) → r ≡ u → run k top bs (suc c) i prev at ≡ ruled (allowed i prev) at (λ n next. run k top bs c (i + 1) n next) u
  unfolding run
  run_by u q = ap (ruled (allowed i prev) at (λ n next. run k top bs c (i + 1) n next)) (sym read ∙ q)

  pub run_good : (n next : ℕ) → r ≡ found n next → allowed i prev n ≡ true → run k top bs (suc c) i prev at ≡ prepend n (run k top bs c (i + 1) n next)
  unfolding ruled
  run_good n next q o = run_by (found n next) q ∙ rw o

  pub run_fault : (n next : ℕ) → r ≡ found n next → allowed i prev n ≡ false → run k top bs (suc c) i prev at ≡ stopped at
  unfolding ruled
  run_fault n next q o = run_by (found n next) q ∙ rw o

  pub run_none : (fault : NumberFault) → r ≡ Err fault → run k top bs (suc c) i prev at ≡ stopped (place_of fault)
  unfolding ruled
  run_none fault q = run_by (Err fault) q

-- what a run of all its numbers says: they are allowed, as many as asked, and written one after the other from the place to the end
pub record Ran (k top : ℕ) (bs : List ℕ) (c i prev at : ℕ) (ns : List ℕ) (end : ℕ) : Type 0 where
  pub are : Allowed (limit k top) i prev ns
  pub count : length ns ≡ c
  pub past : end ≡ at + length (writes ns)
  pub bytes : drop at bs ≡ writes ns ++ drop end bs

no_ran : (k top : ℕ) (bs : List ℕ) (i prev at : ℕ) (ns : List ℕ) (end : ℕ) → all [] at ≡ all ns end → Ran k top bs 0 i prev at ns end
unfolding writes
no_ran k top bs i prev at ns end e =
    let p : [] ≡ ns = cc in
    let q : at ≡ end = cc in
    subst₂ (λ (xs : List ℕ) (x : ℕ). Ran k top bs 0 i prev at xs x) p q (record { are = tt; count = refl; past = sym (add-zero at); bytes = refl })

more_ran : (k top : ℕ) (bs : List ℕ) (c i prev at n next : ℕ) (ms : List ℕ) (end : ℕ) → Written k top 9 (drop at bs) n (next - at) → at ≤ next → allowed i prev n ≡ true → Ran k top bs c (i + 1) n next ms end → Ran k top bs (suc c) i prev at (n ∷ ms) end
unfolding writes groups
more_ran k top bs c i prev at n next ms end w h o r =
    record {
      are = (w.below, o, r.are);
      count = ap suc r.count;
      past = omega (arith, r.past, w.count, length-append (groups n) (writes ms));
      bytes = w.bytes ∙ ap (λ (l : List ℕ). groups n ++ l) (drop-drop (next - at) at bs ∙ ap (λ (x : ℕ). drop x bs) sum ∙ r.bytes) ∙ sym (append_assoc (groups n) (writes ms) (drop end bs));
    }
  where
    sum : at + (next - at) ≡ next
    sum = omega arith

pub run_ran : (k top : ℕ) (bs : List ℕ) (c i prev at : ℕ) (ns : List ℕ) (end : ℕ) → 0 < top → top ≤ 128 → k ≤ 9 → ((x : ℕ) → get_or bs x 0 < 256) → run k top bs c i prev at ≡ all ns end → Ran k top bs c i prev at ns end
unfolding run ruled prepend
run_ran k top bs zero i prev at ns end p t w are e = no_ran k top bs i prev at ns end e
run_ran k top bs (suc c) i prev at ns end p t w are e = go (read_at k top bs at) refl e (λ n next ms fin. run_ran k top bs c (i + 1) n next ms fin p t w are)
  where
    IH : Type 0
    IH = (n next : ℕ) (ms : List ℕ) (fin : ℕ) → run k top bs c (i + 1) n next ≡ all ms fin → Ran k top bs c (i + 1) n next ms fin

    tail : (n next : ℕ) → read_at k top bs at ≡ found n next → allowed i prev n ≡ true → (u : NumberRun) → run k top bs c (i + 1) n next ≡ u → prepend n u ≡ all ns end → IH → Ran k top bs (suc c) i prev at ns end
    tail n next q o (all ms fin) f e' ih =
        let g = read_good top bs at k n next q in
        let len : g.0 ≡ next - at = omega (arith, g.2) in
        let wr = number_written k top 9 (drop at bs) n g.0 p t w (λ x. rw (get_or-drop at bs x 0) (are (at + x))) g.1 in
        let p' : n ∷ ms ≡ ns = cc in
        let q' : fin ≡ end = cc in
        subst₂ (λ (xs : List ℕ) (x : ℕ). Ran k top bs (suc c) i prev at xs x) p' q'
        (more_ran k top bs c i prev at n next ms fin (subst (λ (x : ℕ). Written k top 9 (drop at bs) n x) len wr) (omega (arith, g.2)) o (ih n next ms fin f))
    tail n next q o (stopped x) f e' ih = absurd (let z : ◌≡◌ {A = ℕ} 0 1 = cc in omega arith)

    test : (n next : ℕ) → read_at k top bs at ≡ found n next → (f : Bool) → allowed i prev n ≡ f → cond f (prepend n (run k top bs c (i + 1) n next)) (stopped at) ≡ all ns end → IH → Ran k top bs (suc c) i prev at ns end
    test n next q true o e' ih = tail n next q o (run k top bs c (i + 1) n next) refl e' ih
    test n next q false o e' ih = absurd (let z : ◌≡◌ {A = ℕ} 0 1 = cc in omega arith)

    go : (r : NumberRead) → read_at k top bs at ≡ r → ruled (allowed i prev) at (λ n next. run k top bs c (i + 1) n next) r ≡ all ns end → IH → Ran k top bs (suc c) i prev at ns end
    go (Ok got) q e' ih = test got.value got.next q (allowed i prev got.value) refl e' ih
    go (Err fault) q e' ih = absurd (let z : ◌≡◌ {A = ℕ} 0 1 = cc in omega arith)

-- numbers that are allowed are below the bound
pub pairs_below : (bound : ℕ) (ns : List ℕ) (i prev : ℕ) → Allowed bound i prev ns → Below bound ns
pairs_below bound [] i prev a = tt
pairs_below bound (n ∷ ns) i prev a = (a.0, pairs_below bound ns (i + 1) n a.2)

-- ---- one turn of the loop that checks

checked_prepend : (n : ℕ) (r : NumberRun) → checked_of (prepend n r) ≡ checked_of r
unfolding checked_of prepend
checked_prepend n (all ns end) = refl
checked_prepend n (stopped p) = refl

pub check_none : (k top : ℕ) (bs : List ℕ) (left i prev at : ℕ) → left ≡ 0 → checked_of (run k top bs left i prev at) ≡ Ok at
unfolding checked_of run
check_none k top bs left i prev at e = rw e

module _ (k top : ℕ) (bs : List ℕ) (left i prev at : ℕ) (h : 0 < left) (r : NumberRead) (read : r ≡ read_at k top bs at) where
  turn : (u : NumberRun) → run k top bs (suc (left - 1)) i prev at ≡ u → checked_of (run k top bs left i prev at) ≡ checked_of u
  turn u e = let s : left ≡ suc (left - 1) = omega arith in ap (λ (x : ℕ). checked_of (run k top bs x i prev at)) s ∙ ap checked_of e

  pub check_good : (n next : ℕ) → r ≡ found n next → allowed i prev n ≡ true → checked_of (run k top bs left i prev at) ≡ checked_of (run k top bs (left - 1) (i + 1) n next)
  check_good n next q o = turn (prepend n (run k top bs (left - 1) (i + 1) n next)) (run_good k top bs (left - 1) i prev at r read n next q o) ∙ checked_prepend n (run k top bs (left - 1) (i + 1) n next)

  pub check_fault : (n next : ℕ) → r ≡ found n next → allowed i prev n ≡ false → checked_of (run k top bs left i prev at) ≡ fault_at at
  unfolding checked_of
  check_fault n next q o = turn (stopped at) (run_fault k top bs (left - 1) i prev at r read n next q o)

  pub check_absent : (fault : NumberFault) → r ≡ Err fault → checked_of (run k top bs left i prev at) ≡ fault_at (place_of fault)
  unfolding checked_of
  check_absent fault q = turn (stopped (place_of fault)) (run_none k top bs (left - 1) i prev at r read fault q)

-- a number of a pair has no rule of its own
pub allowed_past : (i prev n : ℕ) → 6 ≤ i → allowed i prev n ≡ true
unfolding allowed
allowed_past i prev n h = rw (le-leb 6 i h)

-- ---- the values of a run

-- the values of a run that has all its numbers are those, also as they are read by other limits, if these take each good number as it is
module _ (k top k' top' : ℕ) (bs : List ℕ) (wider : (at n next : ℕ) → read_at k top bs at ≡ found n next → read_at k' top' bs at ≡ found n next) where
  pub run_values : (c i prev at : ℕ) (ns : List ℕ) (end : ℕ) → run k top bs c i prev at ≡ all ns end → values_from k' top' bs c at ≡ ns
  unfolding run ruled prepend values_from
  run_values zero i prev at ns end e = let p : [] ≡ ns = cc in p
  run_values (suc c) i prev at ns end e = go (read_at k top bs at) refl e (λ n next ms fin. run_values c (i + 1) n next ms fin)
    where
      IH : Type 0
      IH = (n next : ℕ) (ms : List ℕ) (fin : ℕ) → run k top bs c (i + 1) n next ≡ all ms fin → values_from k' top' bs c next ≡ ms

      tail : (n next : ℕ) (u : NumberRun) → run k top bs c (i + 1) n next ≡ u → prepend n u ≡ all ns end → IH → n ∷ values_from k' top' bs c next ≡ ns
      tail n next (all ms fin) f e' ih = let p : n ∷ ms ≡ ns = cc in ap (λ (l : List ℕ). n ∷ l) (ih n next ms fin f) ∙ p
      tail n next (stopped x) f e' ih = absurd (let z : ◌≡◌ {A = ℕ} 0 1 = cc in omega arith)

      test : (n next : ℕ) (f : Bool) → cond f (prepend n (run k top bs c (i + 1) n next)) (stopped at) ≡ all ns end → IH → n ∷ values_from k' top' bs c next ≡ ns
      test n next true e' ih = tail n next (run k top bs c (i + 1) n next) refl e' ih
      test n next false e' ih = absurd (let z : ◌≡◌ {A = ℕ} 0 1 = cc in omega arith)

      go : (r : NumberRead) → read_at k top bs at ≡ r → ruled (allowed i prev) at (λ n next. run k top bs c (i + 1) n next) r ≡ all ns end → IH
          → value_of (read_at k' top' bs at) ∷ values_from k' top' bs c (next_of at (read_at k' top' bs at)) ≡ ns
      go (Ok got) q e' ih = rw (wider at got.value got.next q) (test got.value got.next (allowed i prev got.value) e' ih)
      go (Err fault) q e' ih = absurd (let z : ◌≡◌ {A = ℕ} 0 1 = cc in omega arith)

-- ---- what a check that was answered says

pub checked_all : (r : NumberRun) (at : ℕ) → Ok at ≡ checked_of r → (ns : List ℕ) × (r ≡ all ns at)
unfolding checked_of
checked_all (all ns end) at e = let p : end ≡ at = cc in (ns, ap (all ns) p)
checked_all (stopped p) at e = absurd (let z : ◌≡◌ {A = ℕ} 0 1 = cc in omega arith)

pub checked_stopped : (r : NumberRun) (p : ℕ) → fault_at p ≡ checked_of r → r ≡ stopped p
unfolding checked_of
checked_stopped (all ns end) p e = absurd (let z : ◌≡◌ {A = ℕ} 0 1 = cc in omega arith)
checked_stopped (stopped x) p e =
    let same : ◌≡◌ {A = Malformed} (record { place = p }) (record { place = x }) = cc in
    ap stopped (sym (ap (λ (m : Malformed). m.place) same))
