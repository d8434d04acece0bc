-- The part of refusal 9 that speaks of stsc: what `deals_agree` computes is that none of the paper's clauses holds.
-- Assumes nothing.
use Prim.Native.Nat.{ℕ, ◌+◌, ◌≤◌, ◌<◌}
use mathlib.Core.Path.{◌≡◌, refl, ap, ◌∙◌}
use mathlib.Core.Bool.{Bool, true, false, cond, not, ◌&&◌, ◌||◌}
use mathlib.Core.List.{List, [], ◌∷◌}
use native.Mathlib.Omega.{arith}
use lib.Dec.{ltb, leb, eqb}
use borrow.Author.Tests.{lt-ltb, le-ltb, le-leb, lt-leb, eq-eqb, ne_eqb, ltb-false, leb-true, leb-false, eqb-true, eqb-false, not-false}
use Rattle.lists.proofs.Booleans.{or_both, or_neither, and_false, and_true, cond_both, cond_unless, opposite}
use Rattle.chunks.specs.Chunks.{Deal, deals, first_of, any, starts_elsewhere, not_rising, passes, without_chunks, with_chunks, deals_none, wrong_description_id, deals_contradict}
use Rattle.chunks.specs.Computed.{right_entry, dealing, deals_agree}

-- ---- an entry

-- what a right entry says
pub record Right (first next per id descriptions : ℕ) : Type 0 where
  pub some : first < next
  pub full : 0 < per
  pub named : 0 < id
  pub known : id ≤ descriptions

pub is_right : (first next per id descriptions : ℕ) → right_entry first next per id descriptions ≡ true → Right first next per id descriptions
is_right first next per id descriptions e =
    let a = cond_unless (leb next first) (cond (eqb per 0) false (cond (eqb id 0) false (leb id descriptions))) e in
    let b = cond_unless (eqb per 0) (cond (eqb id 0) false (leb id descriptions)) a.1 in
    let c = cond_unless (eqb id 0) (leb id descriptions) b.1 in
    let p = eqb-false per 0 b.0 in
    let q = eqb-false id 0 c.0 in
    record { some = leb-false next first a.0; full = omega arith; named = omega arith; known = leb-true id descriptions c.1 }

right_is : {first next per id descriptions : ℕ} → Right first next per id descriptions → right_entry first next per id descriptions ≡ true
right_is {first} {next} {per} {id} {descriptions} r =
    let p : per ≡ 0 → ⊥ = λ e. omega (arith, r.full) in
    let q : id ≡ 0 → ⊥ = λ e. omega (arith, r.named) in
    rw (lt-leb next first r.some, ne_eqb per 0 p, ne_eqb id 0 q, le-leb id descriptions r.known)

-- ---- entries that are right contradict nothing

module _ (chunks descriptions : ℕ) where
  pub dealing_cons : (e : Deal) (es : List Deal) → dealing chunks descriptions (e ∷ es) ≡ true →
      Right e.first (first_of chunks es) e.per e.id descriptions × (dealing chunks descriptions es ≡ true)
  dealing_cons e es q =
      let t = cond_both (right_entry e.first (first_of chunks es) e.per e.id descriptions) (dealing chunks descriptions es) q in
      (is_right e.first (first_of chunks es) e.per e.id descriptions t.0, t.1)

  first_within : (es : List Deal) → dealing chunks descriptions es ≡ true → first_of chunks es ≤ chunks + 1
  first_within [] q = omega arith
  first_within (e ∷ es) q = let t = dealing_cons e es q in omega (arith, t.0.some, first_within es t.1)

  rising_of : (es : List Deal) → dealing chunks descriptions es ≡ true → not_rising es ≡ false
  rising_of [] q = refl
  rising_of (e ∷ []) q = refl
  rising_of (e ∷ (f ∷ es)) q =
      let t = dealing_cons e (f ∷ es) q in
      rw (lt-leb f.first e.first t.0.some) (rising_of (f ∷ es) t.1)

  passes_none : (es : List Deal) → dealing chunks descriptions es ≡ true → any (passes chunks) es ≡ false
  passes_none [] q = refl
  passes_none (e ∷ es) q =
      let t = dealing_cons e es q in
      let h : e.first ≤ chunks = omega (arith, t.0.some, first_within es t.1) in
      rw (le-ltb chunks e.first h) (passes_none es t.1)

  deals_some : (es : List Deal) → dealing chunks descriptions es ≡ true → any deals_none es ≡ false
  deals_some [] q = refl
  deals_some (e ∷ es) q =
      let t = dealing_cons e es q in
      let p : e.per ≡ 0 → ⊥ = λ z. omega (arith, t.0.full) in
      rw (ne_eqb e.per 0 p) (deals_some es t.1)

  wrong_id_none : (es : List Deal) → dealing chunks descriptions es ≡ true → any (wrong_description_id descriptions) es ≡ false
  wrong_id_none [] q = refl
  wrong_id_none (e ∷ es) q =
      let t = dealing_cons e es q in
      let p : e.id ≡ 0 → ⊥ = λ z. omega (arith, t.0.named) in
      rw (ne_eqb e.id 0 p, le-ltb descriptions e.id t.0.known) (wrong_id_none es t.1)

  without_of : (es : List Deal) → first_of chunks es ≡ 1 → dealing chunks descriptions es ≡ true → without_chunks chunks es ≡ false
  without_of [] f q = and_false (eqb chunks 0)
  without_of (e ∷ es) f q =
      let t = dealing_cons e es q in
      let p : chunks ≡ 0 → ⊥ = λ z. omega (arith, f, t.0.some, first_within es t.1) in
      rw (ne_eqb chunks 0 p)

  with_of : (es : List Deal) → first_of chunks es ≡ 1 → dealing chunks descriptions es ≡ true → with_chunks chunks es ≡ false
  with_of [] f q = let h : chunks ≤ 0 = omega (arith, f) in rw (le-ltb 0 chunks h)
  with_of (e ∷ es) f q =
      ap (λ (b : Bool). ltb 0 chunks && b) (rw (eq-eqb e.first 1 f) (or_neither (not_rising (e ∷ es)) (any (passes chunks) (e ∷ es)) (rising_of (e ∷ es) q) (passes_none (e ∷ es) q)))
      ∙ and_false (ltb 0 chunks)

  -- ---- entries that contradict nothing are right

  dealing_if : (e : Deal) (es : List Deal) → not_rising (e ∷ es) ≡ false → any (passes chunks) (e ∷ es) ≡ false → any deals_none (e ∷ es) ≡ false →
      any (wrong_description_id descriptions) (e ∷ es) ≡ false → dealing chunks descriptions (e ∷ es) ≡ true
  dealing_if e [] r p d i =
      let a = or_both (ltb chunks e.first) false p in
      let b = or_both (eqb e.per 0) false d in
      let c = or_both (eqb e.id 0 || ltb descriptions e.id) false i in
      let u = or_both (eqb e.id 0) (ltb descriptions e.id) c.0 in
      let x = eqb-false e.per 0 b.0 in
      let y = eqb-false e.id 0 u.0 in
      let k : Right e.first (chunks + 1) e.per e.id descriptions = record {
        some = omega (arith, ltb-false chunks e.first a.0);
        full = omega arith;
        named = omega arith;
        known = ltb-false descriptions e.id u.1;
      } in
      rw (right_is k)
  dealing_if e (f ∷ es) r p d i =
      let o = or_both (leb f.first e.first) (not_rising (f ∷ es)) r in
      let a = or_both (ltb chunks e.first) (any (passes chunks) (f ∷ es)) p in
      let b = or_both (eqb e.per 0) (any deals_none (f ∷ es)) d in
      let c = or_both (eqb e.id 0 || ltb descriptions e.id) (any (wrong_description_id descriptions) (f ∷ es)) i in
      let u = or_both (eqb e.id 0) (ltb descriptions e.id) c.0 in
      let x = eqb-false e.per 0 b.0 in
      let y = eqb-false e.id 0 u.0 in
      let k : Right e.first f.first e.per e.id descriptions = record {
        some = leb-false f.first e.first o.0;
        full = omega arith;
        named = omega arith;
        known = ltb-false descriptions e.id u.1;
      } in
      rw (right_is k) (dealing_if f es o.1 a.1 b.1 c.1)

  right_if : (es : List Deal) → without_chunks chunks es ≡ false → with_chunks chunks es ≡ false → any deals_none es ≡ false → any (wrong_description_id descriptions) es ≡ false →
      (first_of chunks es ≡ 1) × (dealing chunks descriptions es ≡ true)
  right_if [] w v d i = (omega (arith, ltb-false 0 chunks (and_true (ltb 0 chunks) v)), refl)
  right_if (e ∷ es) w v d i =
      let z = eqb-false chunks 0 (and_true (eqb chunks 0) w) in
      let h : 0 < chunks = omega arith in
      let n : starts_elsewhere (e ∷ es) || (not_rising (e ∷ es) || any (passes chunks) (e ∷ es)) ≡ false = rw (lt-ltb 0 chunks h) at v in
      let a = or_both (starts_elsewhere (e ∷ es)) (not_rising (e ∷ es) || any (passes chunks) (e ∷ es)) n in
      let b = or_both (not_rising (e ∷ es)) (any (passes chunks) (e ∷ es)) a.1 in
      (eqb-true e.first 1 (not-false (eqb e.first 1) a.0), dealing_if e es b.0 b.1 d i)

-- what agreement says
pub agreed : (s : List ℕ) (chunks descriptions : ℕ) → deals_agree s chunks descriptions ≡ true → (first_of chunks (deals s) ≡ 1) × (dealing chunks descriptions (deals s) ≡ true)
unfolding deals_agree
agreed s chunks descriptions e =
    let t = cond_both (eqb (first_of chunks (deals s)) 1) (dealing chunks descriptions (deals s)) e in
    (eqb-true (first_of chunks (deals s)) 1 t.0, t.1)

-- the test is that no clause holds
pub agree_clauses : (s : List ℕ) (chunks descriptions : ℕ) → deals_agree s chunks descriptions ≡ not (deals_contradict s chunks descriptions)
unfolding deals_contradict deals_agree
agree_clauses s chunks descriptions =
    let es = deals s in
    opposite (deals_agree s chunks descriptions) (deals_contradict s chunks descriptions)
    (λ e.
    let t = agreed s chunks descriptions e in
    or_neither (without_chunks chunks es) (with_chunks chunks es || (any deals_none es || any (wrong_description_id descriptions) es)) (without_of chunks descriptions es t.0 t.1)
    (or_neither (with_chunks chunks es) (any deals_none es || any (wrong_description_id descriptions) es) (with_of chunks descriptions es t.0 t.1)
    (or_neither (any deals_none es) (any (wrong_description_id descriptions) es) (deals_some chunks descriptions es t.1) (wrong_id_none chunks descriptions es t.1))))
    (λ e.
    let a = or_both (without_chunks chunks es) (with_chunks chunks es || (any deals_none es || any (wrong_description_id descriptions) es)) e in
    let b = or_both (with_chunks chunks es) (any deals_none es || any (wrong_description_id descriptions) es) a.1 in
    let c = or_both (any deals_none es) (any (wrong_description_id descriptions) es) b.1 in
    let t = right_if chunks descriptions es a.0 b.0 c.0 c.1 in
    rw (eq-eqb (first_of chunks es) 1 t.0) t.1)
