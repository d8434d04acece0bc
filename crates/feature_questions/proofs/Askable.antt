-- An accepted track has what its features need, and so has the one that is asked where neither the film nor the ID is refused.
-- Assumes nothing.
use Prim.Native.Nat.{ℕ, ◌+◌, ◌*◌, ◌≤◌, ◌<◌, ◌^◌}
use mathlib.Core.Path.{◌≡◌, refl, sym, ap, ◌∙◌}
use mathlib.Core.List.{List}
use native.Mathlib.Omega.{arith}
use borrow.Author.Tests.{not-false}
use mathlib.Core.Logic.{inl, inr}
use lib.ListN.{length}
use Rattle.bigendian.specs.BigEndian.{u32_at}
use Rattle.atoms.specs.Kinds.{stts}
use Rattle.structure.specs.declared.source.Source.{Source}
use Rattle.structure.specs.Source.{length_of}
use Rattle.structure.specs.Track.{scale_of, elst_of, edits_of}
use Rattle.structure.specs.Movie.{moov_of, movie_scale}
use Rattle.shape.proofs.Shaped.{MayEnter}
use Rattle.structure.proofs.Lengths.{table_short}
use Rattle.track.specs.Refusals.{total_in, wrong_edits}
use Rattle.track.proofs.Agreed.{agreed_tables}
use Rattle.movie.proofs.Accepted.{Accepted}
use Rattle.edits.proofs.Turns.{edits_few}
use Rattle.edits.proofs.Sentences.{ok_all}
use Rattle.features.specs.Features.{Computable, Averaged}
use Rattle.questions.specs.Asked.{ask_refusal, track_asked}
use Rattle.questions.proofs.Asking.{sizes_count, asked_track, asked_short}

-- an edit list, where there is one, is as long as its entries
entered_short : (a : List ℕ) → MayEnter 12 a → length a ≤ 16 + 12 * u32_at a 12
entered_short a (inl e) = omega (arith, ap length e)
entered_short a (inr e) = omega arith

-- an accepted track of a movie of that time scale
module _ (w : Source) (scale len : ℕ) (t : List ℕ) (a : Accepted w scale len t) (l : length t < 2 ^ 32) where
  total_fits : total_in t < 4294967296
  total_fits = omega (arith, a.total_fits)

  -- its features can be computed
  pub accepted_computable : Computable t
  unfolding total_in
  accepted_computable =
      let g = agreed_tables t a.agree in
      record {
        short = l;
        timed = record {
          some_scale = omega (arith, a.some_scale);
          total_fits = total_fits;
          few = omega (arith, g.counted, a.shape.few_samples);
          agree = sizes_count t a.shape ∙ sym g.counted;
        };
      }

  -- and its averages
  pub accepted_averaged : Averaged scale t
  unfolding total_in wrong_edits
  accepted_averaged =
      let g = agreed_tables t a.agree in
      record {
        small = record {
          short = omega (arith, table_short stts t);
          few = omega (arith, g.counted, a.shape.few_samples);
          total_fits = total_fits;
        };
        short = l;
        edited = record {
          few = omega (arith, edits_few (elst_of t) (edits_of t) (entered_short (elst_of t) a.shape.elst_size), a.shape.few_edits);
          right = ok_all (scale_of t) scale (total_in t) (elst_of t) (not-false _ a.edits);
        };
      }

module _ (s t : List ℕ) (w : Source) (id : ℕ) (z : ask_refusal s w id ≡ 0) (d : t ≡ track_asked s id) where
  pub asked_computable : Computable t
  asked_computable = accepted_computable w (movie_scale (moov_of s)) (length_of w s) t (asked_track s t w id 0 (sym z) refl d) (asked_short s t w id 0 (sym z) refl d)

  -- m is the body of the moov
  pub asked_averaged : (m : List ℕ) (movie : ℕ) → m ≡ moov_of s → movie ≡ movie_scale m → Averaged movie t
  asked_averaged m movie b q =
      rw (q, b) (accepted_averaged w (movie_scale (moov_of s)) (length_of w s) t (asked_track s t w id 0 (sym z) refl d) (asked_short s t w id 0 (sym z) refl d))
