-- Strict reading and the default differ in refusal 11 alone: row after row, and without strict reading row 11 holds of no track.
-- Assumes nothing.
use Prim.Native.Nat.{ℕ}
use mathlib.Core.Path.{◌≡◌, refl, sym, ap, ◌∙◌}
use mathlib.Core.List.{List, [], ◌∷◌}
use mathlib.Core.Bool.{Bool, true, false, cond, not, ◌&&◌, ◌||◌}
use lib.Dec.{eqb}
use native.Mathlib.Omega.{arith}
use Rattle.structure.specs.declared.source.Source.{Source}
use Rattle.structure.specs.Source.{strictly, length_of}
use Rattle.structure.specs.Rows.{some, first, or_else}
use Rattle.structure.specs.Track.{duration_of}
use Rattle.structure.specs.Movie.{moov_of, tracks_of}
use Rattle.shape.specs.Refusals.{file_too_long, wrong_atoms, wrong_counts, file_rows}
use Rattle.shape.specs.MovieRows.{refusal_of}
use Rattle.track.specs.Refusals.{contradicts, total_in, total_too_large, other_duration}
use Rattle.movie.specs.Refusals.{same_ids, id_is_zero, movie_scale_is_zero, scale_is_zero, film_refusal}
use Rattle.movie.specs.TableRows.{table_rows, tables_refusal}
use Rattle.movie.proofs.Tables.{film_is}

-- a row that both have, before others
past : (b : Bool) (n x y k : ℕ) → (x ≡ k → y ≡ k) → cond b n x ≡ k → cond b n y ≡ k
past true n x y k h e = e
past false n x y k h e = h e

past_else : (a x y k : ℕ) → (x ≡ k → y ≡ k) → or_else a x ≡ k → or_else a y ≡ k
unfolding or_else
past_else a x y k h e = go (eqb a 0) e
  where
    go : (b : Bool) → cond b x a ≡ k → cond b y a ≡ k
    go true q = h q
    go false q = q

-- row 11 gives another number than k
not_given : (b : Bool) (x k : ℕ) → (k ≡ 11 → ⊥) → cond b 11 x ≡ k → x ≡ k
not_given true x k n e = absurd (n (sym e))
not_given false x k n e = e

-- by default it holds of no track
not_judged : (w : Source) (t : List ℕ) → w.strict ≡ false → other_duration w t ≡ false
unfolding other_duration
not_judged w t q = ap (λ b. b && not (eqb (duration_of t) (total_in t))) q

pub none_judged : (w : Source) (ts : List (List ℕ)) → w.strict ≡ false → some (other_duration w) ts ≡ false
unfolding some
none_judged w [] q = refl
none_judged w (t ∷ ts) q = rw (not_judged w t q) (none_judged w ts q)

strict_already : (w : Source) → w.strict ≡ true → strictly w ≡ w
strict_already w q = ap (λ b. record { strict = b; alone = w.alone; length = w.length }) (sym q)

module _ (w : Source) (len : ℕ) (m : List ℕ) (k : ℕ) (n : k ≡ 11 → ⊥) where
  tables_same : tables_refusal (strictly w) len m ≡ k → tables_refusal w len m ≡ k
  unfolding tables_refusal table_rows first
  tables_same e = go w.strict refl
    where
      go : (b : Bool) → w.strict ≡ b → tables_refusal w len m ≡ k
      go true q = rw (strict_already w q) at e
      go false q =
          let ts = tracks_of m in
          past (same_ids m || some id_is_zero ts) 7 _ _ k
          (past (movie_scale_is_zero m || some scale_is_zero ts) 8 _ _ k
          (past (some contradicts ts) 9 _ _ k
          (past (some total_too_large ts) 10 _ _ k
          (λ z. rw (none_judged w ts q) (not_given (some (other_duration (strictly w)) ts) _ k n z)))))
          e

-- any other number than 11 is given strictly and by default
pub strict_same : (s : List ℕ) (w : Source) (k : ℕ) → (k ≡ 11 → ⊥) → film_refusal s (strictly w) ≡ k → film_refusal s w ≡ k
unfolding file_too_long wrong_atoms wrong_counts file_rows refusal_of length_of
strict_same s w k n e =
    film_is s w
    ∙ past_else (refusal_of w s) _ _ k (tables_same w (length_of w s) (moov_of s) k n) (sym (film_is s (strictly w)) ∙ e)

-- a film that is accepted strictly is accepted by default
pub strict_less : (s : List ℕ) (w : Source) → film_refusal s (strictly w) ≡ 0 → film_refusal s w ≡ 0
strict_less s w e = strict_same s w 0 (λ z. omega arith) e
