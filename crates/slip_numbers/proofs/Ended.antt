-- Bytes that each can stand after those before them, the last one of which ends a number, are as many good numbers as bytes end one.
-- Assumes nothing.
use mathlib.Core.Path.{◌≡◌, refl, ap, sym, subst, ◌∙◌}
use mathlib.Core.Bool.{true, false}
use mathlib.Core.List.{List}
use Prim.Native.Nat.{ℕ, zero, suc, ◌+◌, ◌-◌, ◌*◌, ◌<◌, ◌≤◌}
use native.Mathlib.Omega.{arith}
use native.Mathlib.Decide.{dec_lt}
use native.Mathlib.Numerals.{add-one}
use lib.ListN.{length, get_or}
use borrow.Author.Tests.{lt-ltb, le-ltb, ne_eqb}
use Rattle.leb128.specs.Reading.{found, read_at}
use Rattle.std.specs.Prelude.{Ok, Err}
use Rattle.leb128.proofs.Readings.{after_read, read_last, read_one, read_step}
use Rattle.slip_numbers.specs.Steps.{Checked, run, checked_of}
use Rattle.slip_numbers.specs.Ends.{end_of, ends_in, FineAt, FineIn}
use Rattle.slip_numbers.proofs.Runs.{allowed_past, check_none, check_good}

-- a check that found all numbers
abbrev all_at : ℕ → Checked
all_at end = Ok end

-- what is promised only of a test that holds
pub no_promise : (P : Type 0) → false ≡ true → P
no_promise P h = absurd (let z : ◌≡◌ {A = ℕ} 0 1 = cc in omega arith)

pub end_yes : (b : ℕ) → b < 128 → end_of b ≡ 1
end_yes b h = rw (lt-ltb b 128 h)

pub end_no : (b : ℕ) → 128 ≤ b → end_of b ≡ 0
end_no b h = rw (le-ltb b 128 h)

pub end_one : (b : ℕ) → end_of b ≤ 1
end_one b = elim (dec_lt b 128) [
  | yes h ↦ omega (arith, end_yes b h)
  | no h ↦ omega (arith, end_no b (omega arith))
]

pub ends_none : (bs : List ℕ) (from : ℕ) → ends_in bs from 0 ≡ 0
unfolding ends_in
ends_none bs from = refl

pub ends_more : (bs : List ℕ) (from n : ℕ) → ends_in bs from (n + 1) ≡ ends_in bs from n + end_of (get_or bs (from + n) 0)
unfolding ends_in
ends_more bs from n = rw add-one

pub ends_add : (bs : List ℕ) (from m n : ℕ) → ends_in bs from (m + n) ≡ ends_in bs from m + ends_in bs (from + m) n
unfolding ends_in
ends_add bs from m zero = let z : m + 0 ≡ m = omega arith in rw z (omega arith)
ends_add bs from m (suc n) =
    let s : m + suc n ≡ suc (m + n) = omega arith in
    let x : from + (m + n) ≡ from + m + n = omega arith in
    let e = ends_add bs from m n in
    rw s (rw x (omega (arith, e)))

pub ends_join : (bs : List ℕ) (from at n : ℕ) → from ≤ at → ends_in bs from (at + n - from) ≡ ends_in bs from (at - from) + ends_in bs at n
ends_join bs from at n h =
    let x : at + n - from ≡ at - from + n = omega arith in
    let y : from + (at - from) ≡ at = omega arith in
    rw x (rw y at (ends_add bs from (at - from) n))

pub ends_most : (bs : List ℕ) (from n : ℕ) → ends_in bs from n ≤ n
unfolding ends_in
ends_most bs from zero = omega arith
ends_most bs from (suc n) = omega (arith, ends_most bs from n, end_one (get_or bs (from + n) 0))

-- a byte that can stand there more
pub fine_more : (bs : List ℕ) (from to : ℕ) → FineIn bs from to → FineAt bs to → FineIn bs from (to + 1)
fine_more bs from to f g x h l = elim (dec_lt x to) [
  | yes m ↦ f x h m
  | no m ↦
      let e : to ≡ x = omega arith in
      subst (FineAt bs) e g
]

pub fine_join : (bs : List ℕ) (from mid to : ℕ) → FineIn bs from mid → FineIn bs mid to → FineIn bs from to
fine_join bs from mid to f g x h l = elim (dec_lt x mid) [
  | yes m ↦ f x h m
  | no m ↦ g x (omega arith) l
]

-- a good number of at most k + 1 groups at a place, len bytes of which the last ends it
record Whole (bs : List ℕ) (k at : ℕ) : Type 0 where
  pub n : ℕ
  pub len : ℕ
  pub read : read_at k 16 bs at ≡ found n (at + len)
  pub some : k < 4 → 0 < n
  pub within : at + len ≤ length bs
  pub one : ends_in bs at len ≡ 1

module _ (bs : List ℕ) (from : ℕ) (fine : FineIn bs from (length bs)) (last : get_or bs (length bs - 1) 0 < 128) where
  -- the groups of the number before the place
  abbrev Before : ℕ → ℕ → Type 0
  Before k at = (t : ℕ) → t + k < 4 → 128 ≤ get_or bs (at - (t + 1)) 0

  before_next : (k at : ℕ) → Before (suc k) at → 128 ≤ get_or bs at 0 → Before k (at + 1)
  before_next k at w h zero l = let e : at ≡ at + 1 - 1 = omega arith in subst (λ (x : ℕ). 128 ≤ get_or bs x 0) e h
  before_next k at w h (suc t) l =
      let e : at - (t + 1) ≡ at + 1 - (suc t + 1) = omega arith in
      subst (λ (x : ℕ). 128 ≤ get_or bs x 0) e (w t (omega arith))

  single : (k at : ℕ) → at < length bs → get_or bs at 0 < 128 → read_at k 16 bs at ≡ found (get_or bs at 0) (at + 1) → (k < 4 → 0 < get_or bs at 0) → Whole bs k at
  single k at h b r s =
      let z : at + 0 ≡ at = omega arith in
      let e = ends_more bs at 0 in
      let f : end_of (get_or bs (at + 0) 0) ≡ 1 = rw z (end_yes (get_or bs at 0) b) in
      record { n = get_or bs at 0; len = 1; read = r; some = s; within = omega arith; one = omega (arith, e, f, ends_none bs at) }

  longer : (k at : ℕ) → at < length bs → 128 ≤ get_or bs at 0 → (w : Whole bs k (at + 1)) → k < 4 → Whole bs (suc k) at
  unfolding after_read
  longer k at h b w l =
      let some = w.some l in
      let p : at + 1 + w.len ≡ at + (1 + w.len) = omega arith in
      let z : at + 0 ≡ at = omega arith in
      let e = ends_more bs at 0 in
      let f : end_of (get_or bs (at + 0) 0) ≡ 0 = rw z (end_no (get_or bs at 0) b) in
      record {
        n = get_or bs at 0 - 128 + 128 * w.n;
        len = 1 + w.len;
        read = read_step 16 bs at (get_or bs at 0) k h refl b ∙ ap (after_read (get_or bs at 0) at) w.read ∙ rw (ne_eqb w.n 0 (λ x. omega arith), p);
        some = λ x. omega arith;
        within = omega (arith, w.within);
        one = ends_add bs at 1 w.len ∙ omega (arith, e, f, ends_none bs at, w.one);
      }

  whole : (k at : ℕ) → k ≤ 4 → from ≤ at → at < length bs → Before k at → Whole bs k at
  whole zero at m a h w =
      let f = fine at a h in
      let b : get_or bs at 0 < 16 = f.low (w 0 (omega arith)) (w 1 (omega arith)) (w 2 (omega arith)) (w 3 (omega arith)) in
      single 0 at h (omega arith) (read_last 16 bs at (get_or bs at 0) 0 h refl refl b) (λ x. f.some (w 0 (omega arith)))
  whole (suc k) at m a h w = elim (dec_lt (get_or bs at 0) 128) [
    | yes b ↦ single (suc k) at h b (read_one 16 bs at (get_or bs at 0) (suc k) h refl (λ x. omega arith) b) (λ x. (fine at a h).some (w 0 (omega arith)))
    | no b ↦ longer k at h (omega arith) (whole k (at + 1) (omega arith) (omega arith) (more b) (before_next k at w (omega arith))) (omega arith)
  ]
    where
      more : (get_or bs at 0 < 128 → ⊥) → at + 1 < length bs
      more b = elim (dec_lt (at + 1) (length bs)) [
        | yes l ↦ l
        | no l ↦ let e : length bs - 1 ≡ at = omega arith in absurd (b (rw e at last))
      ]

  -- a number first, and the ends past it
  cut : (at : ℕ) (w : Whole bs 4 at) → ends_in bs at (length bs - at) ≡ suc (ends_in bs (at + w.len) (length bs - (at + w.len)))
  cut at w =
      let l : length bs - at ≡ w.len + (length bs - (at + w.len)) = omega (arith, w.within) in
      rw l (ends_add bs at w.len (length bs - (at + w.len)) ∙ omega (arith, w.one))

  -- the bytes from a place on are as many numbers as bytes end one
  pub all_numbers : (c i prev at : ℕ) → 6 ≤ i → from ≤ at → at ≤ length bs → ends_in bs at (length bs - at) ≡ c → checked_of (run 4 16 bs c i prev at) ≡ Ok (length bs)
  all_numbers zero i prev at s a h e = elim (dec_lt at (length bs)) [
    | yes l ↦ absurd (omega (arith, e, cut at (whole 4 at (omega arith) a l (λ t x. absurd (omega arith)))))
    | no l ↦ let q : at ≡ length bs = omega arith in check_none 4 16 bs 0 i prev at refl ∙ ap (λ (x : ℕ). all_at x) q
  ]
  all_numbers (suc c) i prev at s a h e =
      next (whole 4 at (omega arith) a some (λ t x. absurd (omega arith))) (λ n past. all_numbers c (i + 1) n past (omega arith))
    where
      some : at < length bs
      some = elim (dec_lt at (length bs)) [
        | yes l ↦ l
        | no l ↦ let z : length bs - at ≡ 0 = omega arith in absurd (omega (arith, rw z at e, ends_none bs at))
      ]

      IH : Type 0
      IH = (n past : ℕ) → from ≤ past → past ≤ length bs → ends_in bs past (length bs - past) ≡ c → checked_of (run 4 16 bs c (i + 1) n past) ≡ Ok (length bs)

      next : Whole bs 4 at → IH → checked_of (run 4 16 bs (suc c) i prev at) ≡ Ok (length bs)
      next w ih =
          let pred : suc c - 1 ≡ c = omega arith in
          check_good 4 16 bs (suc c) i prev at (omega arith) (read_at 4 16 bs at) refl w.n (at + w.len) w.read (allowed_past i prev w.n s)
          ∙ (rw pred (ih w.n (at + w.len) (omega arith) w.within (omega (arith, e, cut at w))))
