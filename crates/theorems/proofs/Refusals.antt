-- The number that a film is refused with is the first in the order judged. The idea: the rows stand in that order, so that the first row that
-- holds has the least rank.
-- Assumes nothing.
use Prim.Native.Nat.{ℕ, zero, suc, ◌≤◌, ◌<◌}
use mathlib.Core.Path.{◌≡◌, refl, sym, ap, subst, ◌∙◌}
use mathlib.Core.Logic.{◌⊎◌, inl, inr, ⊎_elim}
use mathlib.Core.Bool.{Bool, true, false, cond, ◌||◌}
use mathlib.Core.List.{List, [], ◌∷◌, ◌++◌, map}
use native.Mathlib.Omega.{arith}
use native.Mathlib.Decide.{dec_lt, ℕ_discrete}
use lib.Dec.{ltb, eqb-suc-zero}
use borrow.Author.Tests.{ltb-true, ne_eqb}
use Rattle.lists.proofs.Booleans.{and_left, and_right}
use Rattle.structure.specs.declared.source.Source.{Source}
use Rattle.structure.specs.Source.{strictly, length_of}
use Rattle.structure.specs.Rows.{Row, some, first, or_else, rank, ranks_rise}
use Rattle.structure.specs.Movie.{moov_of, movie_scale, tracks_of}
use Rattle.shape.specs.Refusals.{file_too_long, wrong_atoms, wrong_counts, file_rows}
use Rattle.structure.proofs.Rows.{rank_pos}
use Rattle.shape.proofs.Tracks.{file_rows_rise}
use Rattle.movie.specs.Refusals.{moov_rows, moov_refusal, film_refusal}
use Rattle.movie.proofs.Strict.{none_judged, strict_same}
use Rattle.theorems.specs.Refusals.{OneHolds, rows_of_movie, Applies, FirstApplies, StrictReading}

-- ---- some rows

given : (f : Row → Bool) (rs : List Row) → (first f rs ≡ 0 → ⊥) → OneHolds f rs (first f rs)
unfolding first
given f [] h = h refl
given f (r ∷ rs) h = go (f r) refl h (given f rs)
  where
    go : (b : Bool) → f r ≡ b → (cond b r.number (first f rs) ≡ 0 → ⊥) → ((first f rs ≡ 0 → ⊥) → OneHolds f rs (first f rs))
        → ((f r ≡ true) × (r.number ≡ cond b r.number (first f rs))) ⊎ OneHolds f rs (cond b r.number (first f rs))
    go true e g i = inl (e, refl)
    go false e g i = inr (i g)

above : (f : Row → Bool) (n : ℕ) (rs : List Row) → ranks_rise n rs ≡ true → (k : ℕ) → OneHolds f rs k → n < rank k
unfolding ranks_rise
above f n [] h k o = absurd o
above f n (r ∷ rs) h k o =
    let l = ltb-true n (rank r.number) (and_left _ _ h) in
    ⊎_elim (λ w. subst (λ x. n < rank x) w.1 l)
    (λ w. omega (arith, above f (rank r.number) rs (and_right (ltb n (rank r.number)) _ h) k w)) o

none_earlier : (f : Row → Bool) (n : ℕ) (rs : List Row) → ranks_rise n rs ≡ true → (k : ℕ) → OneHolds f rs k
    → (0 < first f rs) × (rank (first f rs) ≤ rank k)
unfolding first ranks_rise
none_earlier f n [] h k o = absurd o
none_earlier f n (r ∷ rs) h k o =
    let l = ltb-true n (rank r.number) (and_left _ _ h) in
    let i = and_right (ltb n (rank r.number)) _ h in
    go (f r) refl l o (above f (rank r.number) rs i k) (none_earlier f (rank r.number) rs i k)
  where
    go : (b : Bool) → f r ≡ b → n < rank r.number → ((f r ≡ true) × (r.number ≡ k)) ⊎ OneHolds f rs k
        → (OneHolds f rs k → rank r.number < rank k) → (OneHolds f rs k → (0 < first f rs) × (rank (first f rs) ≤ rank k))
        → (0 < cond b r.number (first f rs)) × (rank (cond b r.number (first f rs)) ≤ rank k)
    go true e l o a i = (rank_pos r.number n l, ⊎_elim (λ w. omega (arith, ap rank w.1)) (λ w. omega (arith, a w)) o)
    go false e l o a i = ⊎_elim (λ w. let t = w.0 in let z : ◌≡◌ {A = ℕ} 0 1 = cc in absurd (omega arith)) i o

-- ---- the table

three : (w : Source) (f : Row → Bool) (k : ℕ) → OneHolds f (file_rows w) k → rank k ≤ 6
unfolding file_rows rank
three w f k o = ⊎_elim (λ y. rw (← y.1) (omega arith)) (⊎_elim (λ y. rw (← y.1) (omega arith)) (⊎_elim (λ y. rw (← y.1) (omega arith)) (λ y. absurd y))) o

moov_rows_rise : (w : Source) (scale len : ℕ) → ranks_rise 6 (moov_rows w scale len) ≡ true
unfolding rank ranks_rise moov_rows
moov_rows_rise w scale len = refl

all_rise : (w : Source) (scale len : ℕ) → ranks_rise 0 (file_rows w ++ moov_rows w scale len) ≡ true
unfolding rank ranks_rise file_rows moov_rows
all_rise w scale len = refl

else_cases : (a b : ℕ) → ((a ≡ 0) × (or_else a b ≡ b)) ⊎ ((a ≡ 0 → ⊥) × (or_else a b ≡ a))
unfolding or_else
else_cases zero b = inl (refl, refl)
else_cases (suc a) b = inr (λ e. omega arith, rw (eqb-suc-zero a))

numbered : (w : Source) (scale len : ℕ) → map (λ r. r.number) (file_rows w ++ moov_rows w scale len) ≡ 1 ∷ 2 ∷ 3 ∷ 4 ∷ 5 ∷ 6 ∷ 7 ∷ 8 ∷ 9 ∷ 10 ∷ 11 ∷ 19 ∷ 12 ∷ 13 ∷ []
unfolding file_rows moov_rows
numbered w scale len = refl

pub first_applies : (s : List ℕ) (w : Source) → FirstApplies s w
unfolding film_refusal moov_refusal
first_applies s w =
    let m = moov_of s in
    let f : Row → Bool = λ r. r.whole s in
    let g : Row → Bool = λ r. r.whole m || some r.track (tracks_of m) in
    let rows = rows_of_movie s w in
    let cases = else_cases (first f (file_rows w)) (first g rows) in
    record {
      numbers = numbered w (movie_scale m) (length_of w s);
      order = all_rise w (movie_scale m) (length_of w s);
      applies = λ h.
          ⊎_elim (λ c. subst (Applies s w) (sym c.1) (inr (given g rows (λ z. h (c.1 ∙ z))))) (λ c. subst (Applies s w) (sym c.1) (inl (given f (file_rows w) c.0))) cases;
      earliest = λ n o.
          ⊎_elim (λ v.
          let q = none_earlier f 0 (file_rows w) (file_rows_rise w) n v in
          ⊎_elim (λ c. absurd (omega (arith, c.0, q.0))) (λ c. (omega (arith, c.1, q.0), omega (arith, ap rank c.1, q.1))) cases)
          (λ v.
          let q = none_earlier g 6 rows (moov_rows_rise w (movie_scale m) (length_of w s)) n v in
          let l = above g 6 rows (moov_rows_rise w (movie_scale m) (length_of w s)) n v in
          ⊎_elim (λ c. (omega (arith, c.1, q.0), omega (arith, ap rank c.1, q.1)))
          (λ c. let k = three w f (first f (file_rows w)) (given f (file_rows w) c.0) in (pos c.0 c.1, omega (arith, ap rank c.1, k, l))) cases) o;
    }
  where
    pos : {a b : ℕ} → (a ≡ 0 → ⊥) → b ≡ a → 0 < b
    pos h e = omega arith

-- ---- strict reading

-- without it no row has the number 11 and holds
none_eleven : (w : Source) (scale len : ℕ) (m : List ℕ) (ts : List (List ℕ)) → w.strict ≡ false
    → OneHolds (λ r. r.whole m || some r.track ts) (moov_rows w scale len) 11 → ⊥
unfolding moov_rows
none_eleven w scale len m ts q o =
    ⊎_elim (λ y. omega (arith, y.1))
    (⊎_elim (λ y. omega (arith, y.1))
    (⊎_elim (λ y. omega (arith, y.1))
    (⊎_elim (λ y. omega (arith, y.1))
    (⊎_elim (λ y. omega (arith, y.1))
    (⊎_elim (λ y. omega (arith, y.1))
    (⊎_elim (λ y. omega (arith, y.1))
    (⊎_elim (λ y. let e = y.0 in let d = none_judged w ts q in let z : ◌≡◌ {A = ℕ} 0 1 = cc in omega arith)
    (⊎_elim (λ y. omega (arith, y.1)) (⊎_elim (λ y. omega (arith, y.1)) (⊎_elim (λ y. omega (arith, y.1)) (λ y. y)))))))))))
    o

only_strict : (s : List ℕ) (w : Source) → w.strict ≡ false → film_refusal s w ≡ 11 → ⊥
unfolding rank
only_strict s w q e =
    let m = moov_of s in
    ⊎_elim (λ y. omega (arith, three w (λ r. r.whole s) 11 y)) (none_eleven w (movie_scale m) (length_of w s) m (tracks_of m) q)
    (subst (Applies s w) e ((first_applies s w).applies (λ z. omega (arith, e, z))))

-- any other row that holds by default holds strictly
same_rows : (w : Source) (scale len : ℕ) (g : Row → Bool) (n : ℕ) → (n ≡ 11 → ⊥)
    → OneHolds g (moov_rows w scale len) n → OneHolds g (moov_rows (strictly w) scale len) n
unfolding moov_rows
same_rows w scale len g n h =
    right (right (right (right (right (right (right (λ o. ⊎_elim (λ y. absurd (h (sym y.1))) (λ z. inr z) o)))))))
  where
    right : {A B C : Type 0} → (B → C) → A ⊎ B → A ⊎ C
    right f = ⊎_elim (λ a. inl a) (λ b. inr (f b))

-- those that are judged on the bytes lent are the same
same_file_rows : (s : List ℕ) (w : Source) (n : ℕ) → OneHolds (λ r. r.whole s) (file_rows w) n → OneHolds (λ r. r.whole s) (file_rows (strictly w)) n
unfolding file_too_long wrong_atoms wrong_counts file_rows
same_file_rows s w n o = o

rank_low : (k : ℕ) → k < 11 → rank k < rank 11
unfolding rank
rank_low k l = let n : k ≡ 19 → ⊥ = λ z. omega arith in rw (ne_eqb k 19 n) (omega arith)

judged_before : (s : List ℕ) (w : Source) (k : ℕ) → 0 < k → k < 11 → film_refusal s w ≡ k → film_refusal s (strictly w) ≡ k
unfolding length_of
judged_before s w k p l e =
    let m = moov_of s in
    let n : k ≡ 11 → ⊥ = λ z. omega arith in
    let a : Applies s w k = subst (Applies s w) e ((first_applies s w).applies (λ z. omega (arith, e, z))) in
    let b : Applies s (strictly w) k = ⊎_elim (λ y. inl (same_file_rows s w k y)) (λ y. inr (same_rows w (movie_scale m) (length_of w s) _ k n y)) a in
    let c = (first_applies s (strictly w)).earliest k b in
    let o : film_refusal s (strictly w) ≡ 11 → ⊥ = λ z. omega (arith, rank_low k l, ap rank z, c.1) in
    sym (strict_same s w (film_refusal s (strictly w)) o refl) ∙ e

judged_after : (s : List ℕ) (w : Source) → w.strict ≡ false → film_refusal s (strictly w) ≡ 11 → (film_refusal s w ≡ 0) ⊎ (11 < film_refusal s w)
judged_after s w q e = elim (ℕ_discrete (film_refusal s w) 0) [
  | yes z ↦ inl z
  | no z ↦ elim (dec_lt 11 (film_refusal s w)) [
    | yes l ↦ inr l
    | no l ↦ elim (ℕ_discrete (film_refusal s w) 11) [
      | yes t ↦ absurd (only_strict s w q t)
      | no t ↦ absurd (omega (arith, e, judged_before s w (film_refusal s w) (omega (arith, z)) (omega (arith, l, t)) refl))
    ]
  ]
]

pub strict_reading : (s : List ℕ) (w : Source) → StrictReading s w
strict_reading s w = record { only = only_strict s w; others = strict_same s w; before = judged_before s w; after = judged_after s w }
