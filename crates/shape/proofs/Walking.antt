-- The walk over a moov: what it keeps of the tracks' refusals and of their traks.
-- Assumes nothing.
use Prim.Native.Nat.{ℕ, ◌≤◌, ◌<◌}
use mathlib.Core.Path.{◌≡◌, refl, sym, ap, ◌∙◌}
use mathlib.Core.List.{List, ◌∷◌}
use mathlib.Core.Bool.{Bool}
use native.Mathlib.Omega.{arith}
use native.Mathlib.Decide.{dec_le}
use borrow.Author.Tests.{lt-ltb}
use lib.ListN.{length, take, drop}
use lib.Dec.{ltb}
use Rattle.bigendian.specs.BigEndian.{u32_at}
use Rattle.atoms.specs.Kinds.{moov, trak}
use Rattle.atoms.specs.Atoms.{body_of, size_in}
use Rattle.structure.specs.Rows.{of_whole}
use Rattle.structure.specs.ByTracks.{earlier_of, of_track, of_tracks}
use Rattle.structure.specs.Movie.{tracks_of}
use Rattle.structure.proofs.Rows.{earlier_zero}
use Rattle.structure.proofs.Places.{tracks_none, tracks_here, tracks_next, found_end, found_here, found_next}
use Rattle.places.specs.Places.{IsTrak}
use Rattle.places.specs.Movies.{AreTraks, no_traks, with_trak}
use Rattle.places.specs.declared.trak.Trak.{Trak}
use Rattle.places.specs.declared.moov.Traks.{Traks}
use Rattle.places.proofs.Movies.{TraksBefore, traks_start, traks_end, traks_next}
use Rattle.shape.specs.MovieRows.{movie_rows, movie_refusal}
use Rattle.shape.specs.Judging.{Walks, Judges}
use Rattle.shape.specs.declared.Walked.{Walked}
use Rattle.refusals.specs.declared.Refusal.{Refusal}
use Rattle.refusals.specs.Refusals.{number, code}
use Rattle.std.specs.Prelude.{Err}
use Rattle.shape.proofs.Tracks.{movie_by_tracks}

-- before the rest t of the body
pub record Walking (wide : Bool) (s body t : List ℕ) (found : ℕ) (r : Traks) : Type 0 where
  pub refusals : earlier_of found (of_tracks (movie_rows wide) (tracks_of t)) ≡ of_tracks (movie_rows wide) (tracks_of body)
  pub traks : TraksBefore s (tracks_of body) (tracks_of t) r

pub walk_start : (wide : Bool) (s body : List ℕ) (r : Traks) → r ≡ no_traks → Walking wide s body body 0 r
walk_start wide s body r e = record { refusals = earlier_zero 0 _ refl; traks = rw e (traks_start s (tracks_of body)) }

module _ (wide : Bool) (s body t : List ℕ) (n : ℕ) (e : n ≡ size_in moov t) (found : ℕ) (r : Traks) (w : Walking wide s body t found r) where
  pub walk_end : (q : Walked) → code q.refusal ≡ found → q.traks ≡ r → n < 8 → Walks wide s body q
  walk_end q f g h = record {
    refusal = f ∙ sym (found_end (movie_rows wide) found t n e h) ∙ w.refusals;
    traks = rw g (traks_end s (tracks_of body) (tracks_of t) r (tracks_none t n e h) w.traks);
  }

  module _ (h : 8 ≤ n) where
    pub walk_next : (new : ℕ) (q : Traks) → (u32_at t 4 ≡ trak → ⊥) → new ≡ found → q ≡ r → Walking wide s body (drop n t) new q
    walk_next new q f g k = record {
      refusals = found_next (movie_rows wide) found t n e new h f g ∙ w.refusals;
      traks = rw (k, ← tracks_next t n e h f) w.traks;
    }

    pub walk_here : (b : List ℕ) (next new : ℕ) (x : Trak) (q : Traks) → u32_at t 4 ≡ trak → b ≡ body_of (take n t) → IsTrak s b x → next ≡ of_track (movie_rows wide) b
        → new ≡ earlier_of found next → q ≡ with_trak r x → Walking wide s body (drop n t) new q
    walk_here b next new x q f g k d i j = record {
      refusals = found_here (movie_rows wide) found t n e b next new h f g d i ∙ w.refusals;
      traks =
          let l : tracks_of t ≡ b ∷ tracks_of (drop n t) = rw g (tracks_here t n e h f) in
          rw j (traks_next s (tracks_of body) (tracks_of (drop n t)) r b x (rw l at w.traks) k);
    }

-- there are more than 16 where the traks say so
pub over_16 : (s : List ℕ) (ts : List (List ℕ)) (r : Traks) → AreTraks s ts r → ltb 16 r.count ≡ ltb 16 (length ts)
over_16 s ts r a = elim (dec_le r.count 16) [
  | yes h ↦ ap (ltb 16) (a.few h)
  | no h ↦ lt-ltb 16 r.count (omega arith) ∙ sym (lt-ltb 16 (length ts) (a.many (omega arith)))
]

-- ---- the refusal and the parts of the movie together

pub judged_by : (wide : Bool) (m b : List ℕ) (own found new : ℕ) → b ≡ m → own ≡ of_whole (movie_rows wide) b → found ≡ of_tracks (movie_rows wide) (tracks_of m) → new ≡ earlier_of own found
    → new ≡ movie_refusal wide m
judged_by wide m b own found new e o f g = g ∙ rw (o, f, e) (sym (movie_by_tracks wide m))

pub judged_refused : (s : List ℕ) (n : ℕ) (e : Refusal) → number e ≡ n → Judges s n (Err e)
judged_refused s n e f = record { refusal = f; movie = λ m q. absurd (cc) }
