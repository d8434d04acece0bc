-- For any table of rows in the order of judging, the first over the whole and all its tracks is the earlier of the whole's own and of
-- each track's own, and rows that follow others are judged where none of those holds: by induction over the rows, then over the tracks.
-- Assumes nothing.
use Prim.Native.Nat.{ℕ, zero, suc, ◌≤◌, ◌<◌}
use mathlib.Core.Path.{◌≡◌, refl, sym, ap, ◌∙◌}
use mathlib.Core.Logic.{◌⊎◌, inl, inr, ⊎_elim}
use mathlib.Core.List.{List, [], ◌∷◌, ◌++◌}
use mathlib.Core.Bool.{Bool, true, false, cond, ◌||◌}
use lib.Dec.{ltb, leb, eqb-suc-zero}
use borrow.Author.Tests.{ltb-true, ne_eqb, le-leb, lt-leb}
use native.Mathlib.Omega.{arith}
use native.Mathlib.Decide.{dec_le}
use Rattle.lists.proofs.Booleans.{and_left, and_right}
use Rattle.structure.specs.Rows.{Row, some, first, first_judged, of_whole, or_else, rank, ranks_rise}
use Rattle.structure.specs.ByTracks.{of_track, earlier_of, of_tracks}

-- ---- the one of two numbers that is judged earlier, neither being 0

abbrev by_rank : ℕ → ℕ → ℕ
by_rank a b = cond (leb (rank a) (rank b)) a b

pub rank_pos : (k n : ℕ) → n < rank k → 0 < k
unfolding rank
rank_pos zero n h = absurd (omega arith)
rank_pos (suc k) n h = omega arith

rank_first : (a b : ℕ) → rank a ≤ rank b → by_rank a b ≡ a
rank_first a b h = rw (le-leb (rank a) (rank b) h)

rank_second : (a b : ℕ) → rank b < rank a → by_rank a b ≡ b
rank_second a b h = rw (lt-leb (rank a) (rank b) h)

by_rank_pos : (a b : ℕ) → 0 < a → 0 < b → 0 < by_rank a b
by_rank_pos a b h g = elim (dec_le (rank a) (rank b)) [
  | yes l ↦ rw (rank_first a b l) h
  | no l ↦ rw (rank_second a b (omega arith)) g
]

by_rank_assoc : (a b c : ℕ) → by_rank (by_rank a b) c ≡ by_rank a (by_rank b c)
by_rank_assoc a b c = elim (dec_le (rank a) (rank b)) [
  | yes l ↦ elim (dec_le (rank b) (rank c)) [
    | yes k ↦ rw (le-leb (rank a) (rank b) l, le-leb (rank b) (rank c) k, le-leb (rank a) (rank b) l) (rank_first a c (omega arith))
    | no k ↦ rw (le-leb (rank a) (rank b) l, lt-leb (rank b) (rank c) (omega arith))
  ]
  | no l ↦ elim (dec_le (rank b) (rank c)) [
    | yes k ↦ let m : rank b < rank a = omega arith in rw (lt-leb (rank a) (rank b) m, le-leb (rank b) (rank c) k, lt-leb (rank a) (rank b) m)
    | no k ↦
        let m : rank b < rank a = omega arith in
        let n : rank c < rank b = omega arith in
        rw (lt-leb (rank a) (rank b) m, lt-leb (rank b) (rank c) n) (sym (rank_second a c (omega arith)))
  ]
]

-- ---- the same where 0 is none

pub earlier_none : (a : ℕ) → earlier_of a 0 ≡ a
unfolding earlier_of
earlier_none zero = refl
earlier_none (suc a) = rw (eqb-suc-zero a)

pub earlier_zero : (x b : ℕ) → x ≡ 0 → earlier_of x b ≡ b
unfolding earlier_of
earlier_zero x b e = rw e

earlier_pos : (a b : ℕ) → 0 < a → 0 < b → earlier_of a b ≡ by_rank a b
unfolding earlier_of
earlier_pos a b h g = rw (ne_eqb a 0 (λ e. omega arith), ne_eqb b 0 (λ e. omega arith))

pub earlier_assoc : (a b c : ℕ) → earlier_of (earlier_of a b) c ≡ earlier_of a (earlier_of b c)
unfolding earlier_of
earlier_assoc zero b c = refl
earlier_assoc (suc a) zero c = ap (λ x. earlier_of x c) (earlier_none (suc a))
earlier_assoc (suc a) (suc b) zero = earlier_none (earlier_of (suc a) (suc b)) ∙ ap (earlier_of (suc a)) (sym (earlier_none (suc b)))
earlier_assoc (suc a) (suc b) (suc c) =
    let x = earlier_pos (suc a) (suc b) (omega arith) (omega arith) in
    let y = earlier_pos (suc b) (suc c) (omega arith) (omega arith) in
    let p = earlier_pos (by_rank (suc a) (suc b)) (suc c) (by_rank_pos (suc a) (suc b) (omega arith) (omega arith)) (omega arith) in
    let q = earlier_pos (suc a) (by_rank (suc b) (suc c)) (omega arith) (by_rank_pos (suc b) (suc c) (omega arith) (omega arith)) in
    ap (λ z. earlier_of z (suc c)) x ∙ p ∙ by_rank_assoc (suc a) (suc b) (suc c) ∙ sym q ∙ ap (earlier_of (suc a)) (sym y)

-- ---- the first row

-- x is none, or judged after the place n
abbrev Above : ℕ → ℕ → Type 0
Above n x = (x ≡ 0) ⊎ (n < rank x)

first_above : (f : Row → Bool) (n : ℕ) (rs : List Row) → ranks_rise n rs ≡ true → Above n (first f rs)
unfolding first ranks_rise
first_above f n [] h = inl refl
first_above f n (r ∷ rs) h =
    let k : n < rank r.number = ltb-true n (rank r.number) (and_left _ _ h) in
    let ih = first_above f (rank r.number) rs (and_right (ltb n (rank r.number)) _ h) in
    go (f r) k ih
  where
    go : (b : Bool) → n < rank r.number → Above (rank r.number) (first f rs) → Above n (cond b r.number (first f rs))
    go true k a = inr k
    go false k a = ⊎_elim (λ e. inl e) (λ l. inr (omega arith)) a

step : (a b : Bool) (k x y z : ℕ) → 0 < k → Above (rank k) x → Above (rank k) y → z ≡ earlier_of x y
    → cond (a || b) k z ≡ earlier_of (cond a k x) (cond b k y)
step true true k x y z h f g e = sym (earlier_pos k k h h ∙ rank_first k k (omega arith))
step true false k x y z h f g e =
    ⊎_elim (λ q. sym (ap (earlier_of k) q ∙ earlier_none k)) (λ l. sym (earlier_pos k y h (rank_pos y (rank k) l) ∙ rank_first k y (omega arith))) g
step false true k x y z h f g e =
    ⊎_elim (λ q. sym (earlier_zero x k q)) (λ l. sym (earlier_pos x k (rank_pos x (rank k) l) h ∙ rank_second x k l)) f
step false false k x y z h f g e = e

pub first_or : (f g : Row → Bool) (n : ℕ) (rs : List Row) → ranks_rise n rs ≡ true
    → first (λ r. f r || g r) rs ≡ earlier_of (first f rs) (first g rs)
unfolding first ranks_rise earlier_of
first_or f g n [] h = refl
first_or f g n (r ∷ rs) h =
    let k = ltb-true n (rank r.number) (and_left _ _ h) in
    let i = and_right (ltb n (rank r.number)) _ h in
    step (f r) (g r) r.number (first f rs) (first g rs) _ (rank_pos r.number n k) (first_above f (rank r.number) rs i)
    (first_above g (rank r.number) rs i) (first_or f g (rank r.number) rs i)

-- ---- the law

none_first : (rs : List Row) → first (λ r. false) rs ≡ 0
unfolding first
none_first [] = refl
none_first (r ∷ rs) = none_first rs

tracks_first : (n : ℕ) (rs : List Row) (ts : List (List ℕ)) → ranks_rise n rs ≡ true → first (λ r. some r.track ts) rs ≡ of_tracks rs ts
unfolding some of_tracks
tracks_first n rs [] h = none_first rs
tracks_first n rs (t ∷ ts) h =
    first_or (λ r. r.track t) (λ r. some r.track ts) n rs h ∙ ap (earlier_of (of_track rs t)) (tracks_first n rs ts h)

pub by_tracks : (n : ℕ) (rs : List Row) (m : List ℕ) (ts : List (List ℕ)) → ranks_rise n rs ≡ true
    → first_judged rs m ts ≡ earlier_of (of_whole rs m) (of_tracks rs ts)
by_tracks n rs m ts h =
    first_or (λ r. r.whole m) (λ r. some r.track ts) n rs h ∙ ap (earlier_of (of_whole rs m)) (tracks_first n rs ts h)

-- ---- rows that follow others

append_step : (c : Bool) (k x y z : ℕ) → 0 < k → z ≡ or_else x y → cond c k z ≡ or_else (cond c k x) y
unfolding or_else
append_step true k x y z h e = rw (ne_eqb k 0 (λ q. omega arith))
append_step false k x y z h e = e

pub first_append : (f : Row → Bool) (n : ℕ) (a b : List Row) → ranks_rise n a ≡ true → first f (a ++ b) ≡ or_else (first f a) (first f b)
unfolding first ranks_rise or_else
first_append f n [] b h = refl
first_append f n (r ∷ a) b h =
    let k = ltb-true n (rank r.number) (and_left _ _ h) in
    append_step (f r) r.number (first f a) (first f b) (first f (a ++ b)) (rank_pos r.number n k)
    (first_append f (rank r.number) a b (and_right (ltb n (rank r.number)) _ h))

-- a second table that is judged on the same movie
pub judged_append : (n : ℕ) (a b : List Row) (m : List ℕ) (ts : List (List ℕ)) → ranks_rise n a ≡ true
    → first_judged (a ++ b) m ts ≡ or_else (first_judged a m ts) (first_judged b m ts)
judged_append n a b m ts h = first_append (λ r. r.whole m || some r.track ts) n a b h
