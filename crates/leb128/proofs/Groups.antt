-- Laws of the groups, over the width. The round trip: what is written is read back. Uniqueness: what is read is the only writing of its number.
-- Assumes nothing.
use mathlib.Core.Path.{◌≡◌, refl, ap, ap₂, subst₂, ◌∙◌}
use mathlib.Core.Bool.{Bool, true, false, cond}
use mathlib.Core.List.{List, [], ◌∷◌, ◌++◌}
use Prim.Native.Nat.{ℕ, zero, suc, ◌+◌, ◌-◌, ◌*◌, ◌/◌, ◌%◌, ◌<◌, ◌≤◌, ◌^◌}
use native.Mathlib.Omega.{arith}
use lib.Dec.{ltb, eqb}
use lib.ListN.{length, drop, get_or}
use borrow.Author.Tests.{ltb-true, ltb-false, eqb-false, lt-ltb, le-ltb, ne_eqb}
use Rattle.leb128.specs.Numbers.{groups_in, groups}
use Rattle.leb128.specs.Reading.{limit, Reading, good, broken, short, after, number}

pub limit32 : limit 4 16 ≡ 2 ^ 32
unfolding limit
limit32 = refl

pub limit64 : limit 9 2 ≡ 2 ^ 64
unfolding limit
limit64 = refl

pub limit_pred : (k top : ℕ) → (k ≡ 0 → ⊥) → limit k top ≡ 128 * limit (k - 1) top
unfolding limit
limit_pred k top ne = let s : k ≡ suc (k - 1) = omega arith in ap (λ (x : ℕ). limit x top) s

-- a number below 128 is its own group
pub groups_one : (j n : ℕ) → n < 128 → groups_in j n ≡ n ∷ []
unfolding groups_in
groups_one zero n h = refl
groups_one (suc j) n h = rw (lt-ltb n 128 h)

groups_more : (j n : ℕ) → 128 ≤ n → groups_in (suc j) n ≡ (128 + n % 128) ∷ groups_in j (n / 128)
unfolding groups_in
groups_more j n h = rw (le-ltb n 128 h)

-- a number has at least one group, and at most k + 1
pub groups_some : (k n : ℕ) → 0 < length (groups_in k n)
unfolding groups_in
groups_some zero n = omega arith
groups_some (suc k) n = go (ltb n 128)
  where
    go : (f : Bool) → 0 < length (cond f (n ∷ []) ((128 + n % 128) ∷ groups_in k (n / 128)))
    go true = omega arith
    go false = omega arith

pub groups_few : (k n : ℕ) → length (groups_in k n) ≤ k + 1
unfolding groups_in
groups_few zero n = omega arith
groups_few (suc k) n = go (ltb n 128) (groups_few k (n / 128))
  where
    go : (f : Bool) → length (groups_in k (n / 128)) ≤ k + 1 → length (cond f (n ∷ []) ((128 + n % 128) ∷ groups_in k (n / 128))) ≤ suc k + 1
    go true h = omega arith
    go false h = omega arith

pub groups_count : (n : ℕ) → (0 < length (groups n)) × (length (groups n) ≤ 10)
unfolding groups
groups_count n = (groups_some 9 n, groups_few 9 n)

-- a number of few groups has as many as its size says
length_turn : (k n : ℕ) → 128 ≤ n → length (groups_in (suc k) n) ≡ suc (length (groups_in k (n / 128)))
length_turn k n h = ap length (groups_more k n h)

length_last : (k n : ℕ) → n < 128 → length (groups_in k n) ≡ 1
length_last k n h = ap length (groups_one k n h)

pub length_one : (n : ℕ) → n < 128 → 1 ≡ length (groups n)
unfolding groups
length_one n h = omega (arith, length_last 9 n h)

pub length_two : (n : ℕ) → 128 ≤ n → n < 16384 → 2 ≡ length (groups n)
unfolding groups
length_two n l h = omega (arith, length_turn 8 n l, length_last 8 (n / 128) (omega arith))

pub length_three : (n : ℕ) → 16384 ≤ n → n < 2097152 → 3 ≡ length (groups n)
unfolding groups
length_three n l h =
    omega (arith, length_turn 8 n (omega arith), length_turn 7 (n / 128) (omega arith), length_last 7 (n / 128 / 128) (omega arith))

pub length_four : (n : ℕ) → 2097152 ≤ n → n < 268435456 → 4 ≡ length (groups n)
unfolding groups
length_four n l h =
    omega (
      arith,
      length_turn 8 n (omega arith),
      length_turn 7 (n / 128) (omega arith),
      length_turn 6 (n / 128 / 128) (omega arith),
      length_last 6 (n / 128 / 128 / 128) (omega arith),
    )

-- one turn of a loop that writes a number: a group with the top bit, and what is left
pub groups_turn : (k n : ℕ) → n < limit k 128 → 128 ≤ n → (j : ℕ) × (n / 128 < limit j 128) × (groups_in k n ≡ (128 + n % 128) ∷ groups_in j (n / 128))
unfolding limit
groups_turn zero n h l = absurd (omega arith)
groups_turn (suc j) n h l = (j, omega arith, groups_more j n l)

-- where a loop that writes a number begins, and where it ends
pub groups_all : (n : ℕ) → n < 2 ^ 64 → (k : ℕ) × (n < limit k 128) × (groups n ≡ groups_in k n)
unfolding limit groups
groups_all n h = (9, omega arith, refl)

-- a single group
number_one : (k top n : ℕ) (rest : List ℕ) → top ≤ 128 → n < 128 → n < limit k top → number k top (n ∷ rest) ≡ good n 1
unfolding number limit
number_one zero top n rest t h l = rw (lt-ltb n top l)
number_one (suc k) top n rest t h l = rw (lt-ltb n 128 h)

number_more : (k top b : ℕ) (rest : List ℕ) → 128 ≤ b → number (suc k) top (b ∷ rest) ≡ after b (number k top rest)
unfolding number
number_more k top b rest h = rw (le-ltb b 128 h)

-- a group with the top bit before the groups of a number above 0
after_good : (b m len n : ℕ) → 0 < m → b - 128 + 128 * m ≡ n → after b (good m len) ≡ good n (suc len)
unfolding after
after_good b m len n h e = rw (ne_eqb m 0 (λ z. omega arith), e)

-- what is written is read back, whatever follows it
pub number_groups : (k top j n : ℕ) (rest : List ℕ) → top ≤ 128 → n < limit k top → n < limit j 128 → number k top (groups_in j n ++ rest) ≡ good n (length (groups_in j n))
unfolding limit
number_groups zero top j n rest t h e = rw (groups_one j n (omega arith)) (number_one zero top n rest t (omega arith) h)
number_groups (suc k) top zero n rest t h e = rw (groups_one zero n e) (number_one (suc k) top n rest t e h)
number_groups (suc k) top (suc j) n rest t h e = go (ltb n 128) refl (number_groups k top j (n / 128) rest t (omega arith) (omega arith))
  where
    go : (b : Bool) → ltb n 128 ≡ b → number k top (groups_in j (n / 128) ++ rest) ≡ good (n / 128) (length (groups_in j (n / 128))) → number (suc k) top (groups_in (suc j) n ++ rest) ≡ good n (length (groups_in (suc j) n))
    go true b ih = rw (groups_one (suc j) n (ltb-true n 128 b)) (number_one (suc k) top n rest t (ltb-true n 128 b) h)
    go false b ih =
        let le : 128 ≤ n = ltb-false n 128 b in
        rw (groups_more j n le, number_more k top (128 + n % 128) (groups_in j (n / 128) ++ rest) (omega arith), ih) (after_good _ _ _ _ (omega arith) (omega arith))

-- what a good reading says: the bytes begin with the groups of a number below the limit, and the count is theirs
pub record Written (k top j : ℕ) (bs : List ℕ) (n len : ℕ) : Type 0 where
  pub below : n < limit k top
  pub count : len ≡ length (groups_in j n)
  pub bytes : bs ≡ groups_in j n ++ drop len bs

one_written : (k top j b : ℕ) (bs : List ℕ) (n len : ℕ) → b < 128 → b < limit k top → good b 1 ≡ good n len → Written k top j (b ∷ bs) n len
one_written k top j b bs n len h l e =
    let p : b ≡ n = cc in
    let q : 1 ≡ len = cc in
    subst₂ (λ (x y : ℕ). Written k top j (b ∷ bs) x y) p q
    (record { below = l; count = rw (groups_one j b h); bytes = rw (groups_one j b h) })

-- the rest of a number, and the group before it
more_written : (k top j b : ℕ) (bs : List ℕ) (m len : ℕ) → 128 ≤ b → b < 256 → 0 < m → Written k top j bs m len → Written (suc k) top (suc j) (b ∷ bs) (b - 128 + 128 * m) (suc len)
unfolding limit
more_written k top j b bs m len h l p w =
    record { below = omega (arith, w.below); count = rw same (ap suc w.count); bytes = rw same (ap (λ (l : List ℕ). b ∷ l) w.bytes) }
  where
    x : ℕ
    x = b - 128 + 128 * m

    low : 128 + x % 128 ≡ b
    low = omega arith

    high : x / 128 ≡ m
    high = omega arith

    same : groups_in (suc j) (b - 128 + 128 * m) ≡ b ∷ groups_in j m
    same = groups_more j x (omega arith) ∙ ap₂ (λ (c : ℕ) (y : ℕ). c ∷ groups_in j y) low high

pub limit_pos : (k top : ℕ) → 0 < top → 0 < limit k top
unfolding limit
limit_pos zero top h = h
limit_pos (suc k) top h = omega (arith, limit_pos k top h)

-- what is read is the only writing of its number
pub number_written : (k top j : ℕ) (bs : List ℕ) (n len : ℕ) → 0 < top → top ≤ 128 → k ≤ j → ((i : ℕ) → get_or bs i 0 < 256) → number k top bs ≡ good n len → Written k top j bs n len
unfolding limit number after
number_written k top j [] n len p t kj are e = absurd (let z : ◌≡◌ {A = ℕ} 0 1 = cc in omega arith)
number_written zero top j (b ∷ bs) n len p t kj are e = go (ltb b top) refl e
  where
    go : (f : Bool) → ltb b top ≡ f → cond f (good b 1) broken ≡ good n len → Written zero top j (b ∷ bs) n len
    go true f e' = one_written zero top j b bs n len (omega (arith, ltb-true b top f)) (ltb-true b top f) e'
    go false f e' = absurd (let z : ◌≡◌ {A = ℕ} 0 1 = cc in omega arith)
number_written (suc k) top zero (b ∷ bs) n len p t kj are e = absurd (omega arith)
number_written (suc k) top (suc j) (b ∷ bs) n len p t kj are e = go (ltb b 128) refl e (λ m l. number_written k top j bs m l p t (omega arith) (λ i. are (suc i)))
  where
    rest : (m l : ℕ) → 128 ≤ b → Written k top j bs m l → (f : Bool) → eqb m 0 ≡ f → cond f broken (good (b - 128 + 128 * m) (suc l)) ≡ good n len → Written (suc k) top (suc j) (b ∷ bs) n len
    rest m l h w true f e' = absurd (let z : ◌≡◌ {A = ℕ} 0 1 = cc in omega arith)
    rest m l h w false f e' =
        let n' : b - 128 + 128 * m ≡ n = cc in
        let len' : suc l ≡ len = cc in
        subst₂ (λ (x y : ℕ). Written (suc k) top (suc j) (b ∷ bs) x y) n' len'
        (more_written k top j b bs m l h (are 0) (let ne : (m ≡ 0 → ⊥) = eqb-false m 0 f in omega arith) w)

    more : 128 ≤ b → (r : Reading) → number k top bs ≡ r → after b r ≡ good n len → ((m l : ℕ) → number k top bs ≡ good m l → Written k top j bs m l) → Written (suc k) top (suc j) (b ∷ bs) n len
    more h (good m l) f e' ih = rest m l h (ih m l f) (eqb m 0) refl e'
    more h broken f e' ih = absurd (let z : ◌≡◌ {A = ℕ} 0 1 = cc in omega arith)
    more h short f e' ih = absurd (let z : ◌≡◌ {A = ℕ} 0 1 = cc in omega arith)

    go : (f : Bool) → ltb b 128 ≡ f → cond f (good b 1) (after b (number k top bs)) ≡ good n len → ((m l : ℕ) → number k top bs ≡ good m l → Written k top j bs m l) → Written (suc k) top (suc j) (b ∷ bs) n len
    go true f e' ih = one_written (suc k) top (suc j) b bs n len (ltb-true b 128 f) (omega (arith, limit_pos k top p, ltb-true b 128 f)) e'
    go false f e' ih = more (ltb-false b 128 f) (number k top bs) refl e' ih
