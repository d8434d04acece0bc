-- "No shorter table with the same expansion exists", of stsc: by how often what is dealt changes from chunk to chunk.
-- Assumes nothing.
use Prim.Native.Nat.{ℕ, zero, suc, ◌+◌, ◌-◌, ◌≤◌, ◌<◌}
use mathlib.Core.Path.{◌≡◌, refl, sym, ap, ◌∙◌}
use mathlib.Core.List.{List, [], ◌∷◌, ◌++◌, map}
use mathlib.Core.Bool.{Bool, true, false, cond, ◌&&◌}
use native.Mathlib.Omega.{arith}
use lib.ListN.{length, replicate}
use lib.Dec.{eqb}
use borrow.Author.Tests.{eqb-true, eq-eqb}
use Rattle.lists.proofs.Booleans.{and_left, and_right}
use Rattle.chunks.specs.Chunks.{Deal, first_of, dealt}
use Rattle.compact_laws.proofs.Deals.{alike, unlike, closed_deals}

by : (b : Bool) (n : ℕ) → (n ≤ cond b n (suc n)) × (cond b n (suc n) ≤ suc n)
by true n = (omega arith, omega arith)
by false n = (omega arith, omega arith)

-- ---- changes in a list, once over the element, with a test of equality

module _ {A : Type 0} (same : A → A → Bool) (itself : (x : A) → same x x ≡ true) where
  abbrev pub turns_from : A → List A → ℕ
  turns_from v [] = 0
  turns_from v (x ∷ xs) = cond (same v x) (turns_from x xs) (suc (turns_from x xs))

  abbrev pub turns : List A → ℕ
  turns [] = 0
  turns (x ∷ xs) = suc (turns_from x xs)

  any_start : (v x : A) (l : List A) → turns_from v l ≤ suc (turns_from x l)
  any_start v x [] = omega arith
  any_start v x (y ∷ l) = omega (arith, (by (same v y) (turns_from y l)).1, (by (same x y) (turns_from y l)).0)

  pub run_same : (n : ℕ) (v : A) (l : List A) → turns_from v (replicate n v ++ l) ≡ turns_from v l
  run_same zero v l = refl
  run_same (suc n) v l = rw (itself v) (run_same n v l)

  run_turns : (n : ℕ) (v x : A) (l : List A) → turns_from v (replicate n x ++ l) ≤ suc (turns_from x l)
  run_turns zero v x l = any_start v x l
  run_turns (suc n) v x l = omega (arith, (by (same v x) (turns_from x (replicate n x ++ l))).1, run_same n x l)

  pub run_first : (n : ℕ) (v x : A) (l : List A) → 0 < n → turns_from v (replicate n x ++ l) ≡ cond (same v x) (turns_from x l) (suc (turns_from x l))
  run_first zero v x l h = absurd (omega arith)
  run_first (suc n) v x l h = rw (run_same n x l) refl

  -- a run before a list makes one change more at most
  pub turns_run : (n : ℕ) (x : A) (l : List A) → turns (replicate n x ++ l) ≤ suc (turns_from x l)
  turns_run zero x [] = omega arith
  turns_run zero x (y ∷ l) = omega (arith, (by (same x y) (turns_from y l)).0)
  turns_run (suc n) x l = omega (arith, run_same n x l)

  pub some_turns : (n : ℕ) (x : A) (l : List A) → 0 < n → turns (replicate n x ++ l) ≡ suc (turns_from x l)
  some_turns zero x l h = absurd (omega arith)
  some_turns (suc n) x l h = ap suc (run_same n x l)

-- ---- what a chunk is dealt

pub record Kind : Type 0 where
  pub per : ℕ
  pub id : ℕ

abbrev kind : Deal → Kind
kind e = record { per = e.per; id = e.id }

abbrev same : Kind → Kind → Bool
same a b = eqb a.per b.per && eqb a.id b.id

itself : (a : Kind) → same a a ≡ true
itself a = rw (eq-eqb a.per a.per refl, eq-eqb a.id a.id refl) refl

equal : (a b : Kind) → same a b ≡ true → a ≡ b
equal a b h =
    let p = eqb-true a.per b.per (and_left _ _ h) in
    let q = eqb-true a.id b.id (and_right (eqb a.per b.per) _ h) in
    λ i. record { per = p i; id = q i }

module _ (chunks : ℕ) where
  abbrev pub kinds : List Deal → List Kind
  kinds [] = []
  kinds (e ∷ es) = replicate (first_of chunks es - e.first) (kind e) ++ kinds es

  map_run : (f : Kind → ℕ) (n : ℕ) (k : Kind) (l : List Kind) → map f (replicate n k ++ l) ≡ replicate n (f k) ++ map f l
  map_run f zero k l = refl
  map_run f (suc n) k l = ap (λ x. f k ∷ x) (map_run f n k l)

  pers : (es : List Deal) → map (λ k. k.per) (kinds es) ≡ dealt (λ e. e.per) chunks es
  pers [] = refl
  pers (e ∷ es) = map_run (λ k. k.per) (first_of chunks es - e.first) (kind e) (kinds es) ∙ ap (λ l. replicate (first_of chunks es - e.first) e.per ++ l) (pers es)

  ids : (es : List Deal) → map (λ k. k.id) (kinds es) ≡ dealt (λ e. e.id) chunks es
  ids [] = refl
  ids (e ∷ es) = map_run (λ k. k.id) (first_of chunks es - e.first) (kind e) (kinds es) ∙ ap (λ l. replicate (first_of chunks es - e.first) e.id ++ l) (ids es)

  -- both halves decide
  halves : (xs ys : List Kind) → map (λ k. k.per) xs ≡ map (λ k. k.per) ys → map (λ k. k.id) xs ≡ map (λ k. k.id) ys → xs ≡ ys
  halves [] [] p q = refl
  halves [] (y ∷ ys) p q = absurd (let z : ◌≡◌ {A = ℕ} 0 (suc (length (map (λ k. k.per) ys))) = ap length p in omega arith)
  halves (x ∷ xs) [] p q = absurd (let z : ◌≡◌ {A = ℕ} (suc (length (map (λ k. k.per) xs))) 0 = ap length p in omega arith)
  halves (x ∷ xs) (y ∷ ys) p q =
      let a : x.per ≡ y.per = ap (head 0) p in
      let b : x.id ≡ y.id = ap (head 0) q in
      let k : x ≡ y = λ i. record { per = a i; id = b i } in
      ap (λ z. z ∷ xs) k ∙ ap (λ z. y ∷ z) (halves xs ys (ap tail p) (ap tail q))
    where
      head : ℕ → List ℕ → ℕ
      head d [] = d
      head d (x ∷ l) = x

      tail : List ℕ → List ℕ
      tail [] = []
      tail (x ∷ l) = l

  pub kinds_same : (es qs : List Deal) → dealt (λ e. e.per) chunks qs ≡ dealt (λ e. e.per) chunks es → dealt (λ e. e.id) chunks qs ≡ dealt (λ e. e.id) chunks es → kinds qs ≡ kinds es
  kinds_same es qs p q = halves (kinds qs) (kinds es) (pers qs ∙ p ∙ sym (pers es)) (ids qs ∙ q ∙ sym (ids es))

  from_few : (v : Kind) (es : List Deal) → turns_from same itself v (kinds es) ≤ length es
  from_few v [] = omega arith
  from_few v (e ∷ es) = omega (arith, run_turns_of v e es, from_few (kind e) es)
    where
      run_turns_of : (v : Kind) (e : Deal) (es : List Deal) → turns_from same itself v (kinds (e ∷ es)) ≤ suc (turns_from same itself (kind e) (kinds es))
      run_turns_of v e es = run_turns same itself (first_of chunks es - e.first) v (kind e) (kinds es)

  few : (es : List Deal) → turns same itself (kinds es) ≤ length es
  few [] = omega arith
  few (e ∷ es) = omega (arith, turns_run same itself (first_of chunks es - e.first) (kind e) (kinds es), from_few (kind e) es)

  -- each entry holds for a chunk
  abbrev pub Strict : List Deal → Type 0
  Strict [] = Unit {0}
  Strict (e ∷ es) = (e.first < first_of chunks es) × Strict es

  unlike_turns : (e : Deal) (es : List Deal) → Strict es → length (unlike e es) ≡ turns_from same itself (kind e) (kinds es)
  unlike_turns e [] h = refl
  unlike_turns e (x ∷ xs) h =
      go (alike e x) refl (unlike_turns e xs h.1) (unlike_turns x xs h.1)
      ∙ sym (run_first same itself (first_of chunks xs - x.first) (kind e) (kind x) (kinds xs) (omega (arith, h.0)))
    where
      go : (b : Bool) → alike e x ≡ b → length (unlike e xs) ≡ turns_from same itself (kind e) (kinds xs) → length (unlike x xs) ≡ turns_from same itself (kind x) (kinds xs)
          → length (cond b (unlike e xs) (x ∷ unlike x xs)) ≡ cond b (turns_from same itself (kind x) (kinds xs)) (suc (turns_from same itself (kind x) (kinds xs)))
      go true q f g = f ∙ ap (λ k. turns_from same itself k (kinds xs)) (equal (kind e) (kind x) q)
      go false q f g = ap suc g

  pub deals_fewest : (es qs : List Deal) → Strict es → dealt (λ e. e.per) chunks qs ≡ dealt (λ e. e.per) chunks es → dealt (λ e. e.id) chunks qs ≡ dealt (λ e. e.id) chunks es
      → length (closed_deals es) ≤ length qs
  deals_fewest [] qs h p q = omega arith
  deals_fewest (e ∷ es) qs h p q =
      let k = ap (turns same itself) (kinds_same (e ∷ es) qs p q) in
      let n = first_turns e es h.0 in
      omega (arith, few qs, k, n, unlike_turns e es h.1)
    where
      first_turns : (e : Deal) (es : List Deal) → e.first < first_of chunks es → turns same itself (kinds (e ∷ es)) ≡ suc (turns_from same itself (kind e) (kinds es))
      first_turns e es h = some_turns same itself (first_of chunks es - e.first) (kind e) (kinds es) (omega (arith, h))
