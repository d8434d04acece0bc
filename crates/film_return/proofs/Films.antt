-- A film added: what the code makes of an accepted one and of a refused one is the return with the whole of it.
-- Assumes nothing.
use Prim.Native.Nat.{ℕ, ◌<◌, ◌^◌}
use mathlib.Core.Path.{◌≡◌, refl, sym, ap, ◌∙◌}
use mathlib.Core.List.{List, map}
use native.Mathlib.Omega.{arith}
use borrow.Author.Tests.{eq-eqb, ne_eqb}
use lib.ListN.{length}
use Rattle.structure.specs.declared.source.Source.{Source}
use Rattle.structure.specs.Movie.{moov_of, tracks_of}
use Rattle.movie.specs.Refusals.{film_refusal}
use Rattle.movie.proofs.Accepted.{accepted}
use Rattle.return_totals.specs.Returns.{Return, with_tracks, with_accepted, with_refused, limit_refusal, limited, return_of}
use Rattle.return_totals.specs.Following.{Follows, Settles, SettlesAll}
use Rattle.return_totals.specs.declared.FilmReturn.{FilmReturn}
use Rattle.return_totals.specs.declared.Filed.{Filed}
use Rattle.film_return.specs.Films.{totals_of, with_film, filed_refusal, filed_return, Files}
use Rattle.film_return.specs.Adding.{AddsTracks}

pub short : (s : List ℕ) (w : Source) (n : ℕ) → n ≡ film_refusal s w → n ≡ 0 → length s < 2 ^ 32
short s w n e z = omega (arith, (accepted s w (sym e ∙ z)).shape.short)

filed : (r : FilmReturn) (s : List ℕ) (w : Source) (g : Filed) → Settles r (with_film s w (return_of r)) g → Files r s w g
unfolding filed_refusal filed_return
filed r s w g z = record { refusal = z.refusal; totals = z.totals; rest = z.rest; left = z.left }

module _ (r : FilmReturn) (s : List ℕ) (w : Source) (n : ℕ) (e : n ≡ film_refusal s w) (f g : Filed) (a : SettlesAll r f g) where
  pub filed_refused : (n ≡ 0 → ⊥) → Follows r (with_refused n (return_of r)) f → Files r s w g
  unfolding with_film
  filed_refused d h = filed r s w g (rw (← e, ne_eqb n 0 d) (a (with_refused n (return_of r)) h))

  pub filed_accepted : n ≡ 0 → (b : Filed) → Follows r (with_accepted (return_of r)) b → AddsTracks b (tracks_of (moov_of s)) f → Files r s w g
  unfolding with_film
  filed_accepted z b h k =
      filed r s w g (rw (← e, eq-eqb n 0 z) (a (with_tracks (map totals_of (tracks_of (moov_of s))) (with_accepted (return_of r))) (k r (with_accepted (return_of r)) h)))
