-- The decision over the codes: each code's feature in a track of the right subtype and of another, and that there is no other code.
-- Assumes nothing.
use Rattle.std.specs.Prelude.{Option, None}
use Prim.Native.Nat.{ℕ}
use mathlib.Core.Path.{◌≡◌, refl, sym, ◌∙◌}
use mathlib.Core.Bool.{Bool, true, false, cond}
use mathlib.Core.List.{List}
use lib.Dec.{eqb}
use borrow.Author.Tests.{eq-eqb, ne_eqb}
use Rattle.atoms.specs.Kinds.{vide}
use Rattle.structure.specs.Track.{subtype_of}
use Rattle.track.specs.Track.{Track, track_of}
use Rattle.peaks.specs.Peaks.{peak_of, peak_in, rate_in}
use Rattle.peaks.proofs.Placing.{peak_rate}
use Rattle.features.specs.Features.{avvb, avab, tvsz, vfps, mvbr, mabr, soun, average, picture, frames, peak, only_in, feature_of, peak_only_in, peak_for}

module _ (t : List ℕ) (wanted subtype : ℕ) (f : Option ℕ) (s : subtype ≡ subtype_of t) where
  pub only_yes : subtype ≡ wanted → only_in wanted (track_of t) f ≡ f
  unfolding only_in track_of
  only_yes e = rw (eq-eqb (subtype_of t) wanted (sym s ∙ e))

  pub only_no : (subtype ≡ wanted → ⊥) → only_in wanted (track_of t) f ≡ None
  unfolding only_in track_of
  only_no e = rw (ne_eqb (subtype_of t) wanted (λ z. e (s ∙ z)))

module _ (movie : ℕ) (t : Track) (code : ℕ) where
  pub code_avvb : code ≡ avvb → feature_of movie t code ≡ only_in vide t (average movie t)
  unfolding feature_of
  code_avvb e = rw e

  pub code_avab : code ≡ avab → feature_of movie t code ≡ only_in soun t (average movie t)
  unfolding feature_of
  code_avab e = rw e

  pub code_tvsz : code ≡ tvsz → feature_of movie t code ≡ only_in vide t (picture t)
  unfolding feature_of
  code_tvsz e = rw e

  pub code_vfps : code ≡ vfps → feature_of movie t code ≡ only_in vide t (frames t)
  unfolding feature_of
  code_vfps e = rw e

  -- the rate of a peak of tracks of one subtype
  rate_only : (subtype : ℕ) → rate_in (peak_only_in subtype t) ≡ only_in subtype t (peak t)
  unfolding peak_only_in only_in peak
  rate_only subtype = by (eqb t.subtype subtype)
    where
      by : (b : Bool) → rate_in (cond b (peak_in t.scale t.durations t.sizes) None) ≡ cond b (peak_of t.scale t.durations t.sizes) None
      by true = peak_rate t.scale t.durations t.sizes
      by false = refl

  pub code_mvbr : code ≡ mvbr → feature_of movie t code ≡ rate_in (peak_for t code)
  unfolding feature_of peak_for
  code_mvbr e = rw e (sym (rate_only vide))

  pub code_mabr : code ≡ mabr → feature_of movie t code ≡ rate_in (peak_for t code)
  unfolding feature_of peak_for
  code_mabr e = rw e (sym (rate_only soun))

  pub code_other : (code ≡ avvb → ⊥) → (code ≡ avab → ⊥) → (code ≡ tvsz → ⊥) → (code ≡ vfps → ⊥) → (code ≡ mvbr → ⊥) → (code ≡ mabr → ⊥)
      → feature_of movie t code ≡ None
  unfolding feature_of
  code_other a b c d e f =
      rw (ne_eqb code avvb a, ne_eqb code avab b, ne_eqb code tvsz c, ne_eqb code vfps d, ne_eqb code mvbr e, ne_eqb code mabr f)

-- ---- the peak, by its code

module _ (t : Track) (code : ℕ) where
  pub peak_mvbr : code ≡ mvbr → peak_for t code ≡ peak_only_in vide t
  unfolding peak_for
  peak_mvbr e = rw e

  pub peak_mabr : code ≡ mabr → peak_for t code ≡ peak_only_in soun t
  unfolding peak_for
  peak_mabr e = rw e

  pub peak_other : (code ≡ mvbr → ⊥) → (code ≡ mabr → ⊥) → peak_for t code ≡ None
  unfolding peak_for
  peak_other e f = rw (ne_eqb code mvbr e, ne_eqb code mabr f)
