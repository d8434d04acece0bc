-- Numbers of at most four groups, group by group, as `quick_at` reads them; and that a good one is the same by the two widths.
-- Assumes nothing.
use mathlib.Core.Path.{◌≡◌, refl, ap, sym, ◌∙◌}
use mathlib.Core.Bool.{Bool, true, false, cond}
use mathlib.Core.List.{List}
use Prim.Native.Nat.{ℕ, ◌+◌, ◌-◌, ◌*◌, ◌<◌, ◌≤◌}
use native.Mathlib.Omega.{arith}
use lib.Dec.{leb, lit<, lit≤}
use lib.ListN.{length, get_or}
use borrow.Author.Tests.{le-leb, lt-leb, ne_eqb, eq-eqb}
use Rattle.leb128.specs.Reading.{NumberRead, found, limit, read_at, more_of, top_of}
use Rattle.std.specs.Prelude.{Option, Some, None, Ok, Err}
use Rattle.leb128.specs.declared.number.NumberFault.TheVariants.{Broken}
use Rattle.leb128.proofs.Readings.{after_read, read_step, read_one, read_last, read_last_broken, read_wider, width}
use Rattle.leb128.specs.declared.number.Number.{Number}
use Rattle.quick_numbers.specs.Quick.{quickly, quick_of}

-- a number that is had
abbrev pub had : ℕ → ℕ → Option Number
had n next = Some (record { value = n; next = next })

after_some : (b at m next : ℕ) → (m ≡ 0 → ⊥) → after_read b at (found m next) ≡ found (b - 128 + 128 * m) next
unfolding after_read
after_some b at m next n = rw (ne_eqb m 0 n)

after_none : (b at m next : ℕ) → m ≡ 0 → after_read b at (found m next) ≡ Err (Broken at)
unfolding after_read
after_none b at m next z = rw (eq-eqb m 0 z)

after_broken : (b at p : ℕ) → after_read b at (Err (Broken p)) ≡ Err (Broken at)
unfolding after_read
after_broken b at p = refl

-- fewer than four bytes
pub quick_few : (bs : List ℕ) (at : ℕ) → length bs < at + 4 → quick_of bs at ≡ None
unfolding quick_of
quick_few bs at h = rw (lt-leb (at + 4) (length bs) h)

module _ (bs : List ℕ) (at : ℕ) (four : at + 4 ≤ length bs) where
  by : (r : NumberRead) → read_at 3 128 bs at ≡ r → quick_of bs at ≡ quickly r
  unfolding quick_of
  by r e = rw (le-leb (at + 4) (length bs) four) (ap quickly e)

  pub quick_one : (b₀ : ℕ) → b₀ ≡ get_or bs at 0 → b₀ < 128 → quick_of bs at ≡ had b₀ (at + 1)
  unfolding quickly
  quick_one b₀ e₀ h₀ = by (found b₀ (at + 1)) (read_one 128 bs at b₀ 3 (omega arith) (sym e₀) (λ z. omega arith) h₀) ∙ ap (had b₀) (omega arith)

  module _ (b₀ b₁ : ℕ) (e₀ : b₀ ≡ get_or bs at 0) (h₀ : 128 ≤ b₀) (e₁ : b₁ ≡ get_or bs (at + 1) 0) where
    first : (r : NumberRead) → read_at 2 128 bs (at + 1) ≡ r → read_at 3 128 bs at ≡ after_read b₀ at r
    first r e = read_step 128 bs at b₀ 2 (omega arith) (sym e₀) h₀ ∙ ap (after_read b₀ at) e

    pub quick_two : b₁ < 128 → (b₁ ≡ 0 → ⊥) → quick_of bs at ≡ had (b₀ - 128 + 128 * b₁) (at + 2)
    unfolding quickly
    quick_two h₁ n =
        by (found (b₀ - 128 + 128 * b₁) (at + 1 + 1)) (first (found b₁ (at + 1 + 1)) (read_one 128 bs (at + 1) b₁ 2 (omega arith) (sym e₁) (λ z. omega arith) h₁) ∙ after_some b₀ at b₁ (at + 1 + 1) n)
        ∙ ap (had _) (omega arith)

    pub quick_two_padded : b₁ ≡ 0 → quick_of bs at ≡ None
    unfolding quickly
    quick_two_padded z =
        by (Err (Broken at)) (first (found b₁ (at + 1 + 1)) (read_one 128 bs (at + 1) b₁ 2 (omega arith) (sym e₁) (λ y. omega arith) (omega arith)) ∙ after_none b₀ at b₁ (at + 1 + 1) z)

    module _ (b₂ : ℕ) (h₁ : 128 ≤ b₁) (e₂ : b₂ ≡ get_or bs (at + 2) 0) where
      at₂ : at + 1 + 1 ≡ at + 2
      at₂ = omega arith

      second : (r : NumberRead) → read_at 1 128 bs (at + 2) ≡ r → read_at 3 128 bs at ≡ after_read b₀ at (after_read b₁ (at + 1) r)
      second r e = first (after_read b₁ (at + 1) r) (read_step 128 bs (at + 1) b₁ 1 (omega arith) (sym e₁) h₁ ∙ ap (λ (x : ℕ). after_read b₁ (at + 1) (read_at 1 128 bs x)) at₂ ∙ ap (after_read b₁ (at + 1)) e)

      pub quick_three : b₂ < 128 → (b₂ ≡ 0 → ⊥) → quick_of bs at ≡ had (b₀ - 128 + 128 * (b₁ - 128 + 128 * b₂)) (at + 3)
      unfolding quickly
      quick_three h₂ n =
          by (found (b₀ - 128 + 128 * (b₁ - 128 + 128 * b₂)) (at + 2 + 1))
          (second (found b₂ (at + 2 + 1)) (read_one 128 bs (at + 2) b₂ 1 (omega arith) (sym e₂) (λ z. omega arith) h₂)
          ∙ ap (after_read b₀ at) (after_some b₁ (at + 1) b₂ (at + 2 + 1) n)
          ∙ after_some b₀ at (b₁ - 128 + 128 * b₂) (at + 2 + 1) (λ z. n (omega arith)))
          ∙ ap (had _) (omega arith)

      pub quick_three_padded : b₂ ≡ 0 → quick_of bs at ≡ None
      unfolding quickly
      quick_three_padded z =
          by (Err (Broken at))
          (second (found b₂ (at + 2 + 1)) (read_one 128 bs (at + 2) b₂ 1 (omega arith) (sym e₂) (λ y. omega arith) (omega arith))
          ∙ ap (after_read b₀ at) (after_none b₁ (at + 1) b₂ (at + 2 + 1) z)
          ∙ after_broken b₀ at (at + 1))

      module _ (b₃ : ℕ) (h₂ : 128 ≤ b₂) (e₃ : b₃ ≡ get_or bs (at + 3) 0) where
        at₃ : at + 2 + 1 ≡ at + 3
        at₃ = omega arith

        third : (r : NumberRead) → read_at 0 128 bs (at + 3) ≡ r → read_at 3 128 bs at ≡ after_read b₀ at (after_read b₁ (at + 1) (after_read b₂ (at + 2) r))
        third r e = second (after_read b₂ (at + 2) r) (read_step 128 bs (at + 2) b₂ 0 (omega arith) (sym e₂) h₂ ∙ ap (λ (x : ℕ). after_read b₂ (at + 2) (read_at 0 128 bs x)) at₃ ∙ ap (after_read b₂ (at + 2)) e)

        pub quick_four : b₃ < 128 → (b₃ ≡ 0 → ⊥) → quick_of bs at ≡ had (b₀ - 128 + 128 * (b₁ - 128 + 128 * (b₂ - 128 + 128 * b₃))) (at + 4)
        unfolding quickly
        quick_four h₃ n =
            by (found (b₀ - 128 + 128 * (b₁ - 128 + 128 * (b₂ - 128 + 128 * b₃))) (at + 3 + 1))
            (third (found b₃ (at + 3 + 1)) (read_last 128 bs (at + 3) b₃ 0 (omega arith) (sym e₃) refl h₃)
            ∙ ap (λ (r : NumberRead). after_read b₀ at (after_read b₁ (at + 1) r)) (after_some b₂ (at + 2) b₃ (at + 3 + 1) n)
            ∙ ap (after_read b₀ at) (after_some b₁ (at + 1) (b₂ - 128 + 128 * b₃) (at + 3 + 1) (λ z. n (omega arith)))
            ∙ after_some b₀ at (b₁ - 128 + 128 * (b₂ - 128 + 128 * b₃)) (at + 3 + 1) (λ z. n (omega arith)))
            ∙ ap (had _) (omega arith)

        pub quick_four_padded : b₃ ≡ 0 → quick_of bs at ≡ None
        unfolding quickly
        quick_four_padded z =
            by (Err (Broken at))
            (third (found b₃ (at + 3 + 1)) (read_last 128 bs (at + 3) b₃ 0 (omega arith) (sym e₃) refl (omega arith))
            ∙ ap (λ (r : NumberRead). after_read b₀ at (after_read b₁ (at + 1) r)) (after_none b₂ (at + 2) b₃ (at + 3 + 1) z)
            ∙ ap (after_read b₀ at) (after_broken b₁ (at + 1) (at + 2))
            ∙ after_broken b₀ at (at + 1))

        pub quick_long : 128 ≤ b₃ → quick_of bs at ≡ None
        unfolding quickly
        quick_long h₃ =
            by (Err (Broken at))
            (third (Err (Broken (at + 3))) (read_last_broken 128 bs (at + 3) b₃ 0 (omega arith) (sym e₃) refl h₃)
            ∙ ap (λ (r : NumberRead). after_read b₀ at (after_read b₁ (at + 1) r)) (after_broken b₂ (at + 2) (at + 3))
            ∙ ap (after_read b₀ at) (after_broken b₁ (at + 1) (at + 2))
            ∙ after_broken b₀ at (at + 1))

-- a number that is had so is the number at the place, by either width
pub quick_is : (wide : Bool) (bs : List ℕ) (at : ℕ) (n : Number) → ((i : ℕ) → get_or bs i 0 < 256) → Some n ≡ quick_of bs at → read_at (more_of wide) (top_of wide) bs at ≡ Ok n
unfolding quick_of quickly limit
quick_is wide bs at n are e = go (leb (at + 4) (length bs)) e (read_at 3 128 bs at) refl
  where
    wider : (m : Number) → read_at 3 128 bs at ≡ Ok m → read_at (more_of wide) (top_of wide) bs at ≡ Ok m
    wider m = read_wider 3 128 (more_of wide) (top_of wide) bs at (lit< tt) (lit≤ tt) (lit≤ tt) (width wide).seven (least wide) (lit≤ tt) are m.value m.next
      where
        least : (w : Bool) → limit 3 128 ≤ limit (more_of w) (top_of w)
        least true = lit≤ tt
        least false = lit≤ tt

    go : (f : Bool) → Some n ≡ cond f (quickly (read_at 3 128 bs at)) None → (r : NumberRead) → read_at 3 128 bs at ≡ r → read_at (more_of wide) (top_of wide) bs at ≡ Ok n
    go false e' r g = absurd cc
    go true e' (Ok m) g =
        let same : Some n ≡ Some m = e' ∙ ap quickly g in
        let q : m ≡ n = cc in
        wider m g ∙ ap (λ (x : Number). Ok x) q
    go true e' (Err fault) g = absurd (let z : Some n ≡ None = e' ∙ ap quickly g in cc)
