-- Each track of a film that is not refused, asked by its own ID, is known and is that very track, since no ID occurs twice.
-- Assumes nothing.
use Prim.Native.Nat.{ℕ, zero, suc, ◌<◌}
use mathlib.Core.Path.{◌≡◌, refl, ap, ◌∙◌}
use mathlib.Core.Bool.{Bool, true, false, cond}
use mathlib.Core.List.{List, [], ◌∷◌, map}
use native.Mathlib.Omega.{arith}
use lib.ListN.{length, get_or}
use lib.Dec.{eqb}
use borrow.Author.Tests.{eq-eqb, eqb-true}
use Rattle.words.specs.Words.{listed}
use Rattle.structure.specs.Rows.{or_else}
use Rattle.structure.specs.declared.source.Source.{Source}
use Rattle.structure.specs.Track.{id_of}
use Rattle.structure.specs.Movie.{moov_of, tracks_of}
use Rattle.lists.proofs.Booleans.{or_left, or_right}
use Rattle.movie.specs.Refusals.{film_refusal}
use Rattle.movie.specs.Tracks.{repeats, with_id, has_track, track_with}
use Rattle.movie.proofs.Accepted.{accepted}
use Rattle.questions.specs.Asked.{ask_refusal, track_asked}

-- a track's own ID is one of the IDs
listed_at : (ts : List (List ℕ)) (i : ℕ) → i < length ts → listed (id_of (get_or ts i [])) (map id_of ts) ≡ true
listed_at [] i h = absurd (omega arith)
listed_at (t ∷ ts) zero h = rw (eq-eqb (id_of t) (id_of t) refl)
listed_at (t ∷ ts) (suc i) h = go (eqb (id_of t) (id_of (get_or ts i []))) (listed_at ts i (omega arith))
  where
    go : (b : Bool) → listed (id_of (get_or ts i [])) (map id_of ts) ≡ true → cond b true (listed (id_of (get_or ts i [])) (map id_of ts)) ≡ true
    go true r = refl
    go false r = r

-- and where none occurs twice, the first track that has it is that one
own_track : (ts : List (List ℕ)) (i : ℕ) → repeats (map id_of ts) ≡ false → i < length ts → with_id (id_of (get_or ts i [])) ts ≡ get_or ts i []
own_track [] i r h = absurd (omega arith)
own_track (t ∷ ts) zero r h = rw (eq-eqb (id_of t) (id_of t) refl)
own_track (t ∷ ts) (suc i) r h =
    let id = id_of (get_or ts i []) in
    let other = or_left (listed (id_of t) (map id_of ts)) (repeats (map id_of ts)) r in
    go (eqb (id_of t) id) refl other (own_track ts i (or_right (listed (id_of t) (map id_of ts)) (repeats (map id_of ts)) r) (omega arith))
  where
    go : (b : Bool) → eqb (id_of t) (id_of (get_or ts i [])) ≡ b → listed (id_of t) (map id_of ts) ≡ false → with_id (id_of (get_or ts i [])) ts ≡ get_or ts i []
        → cond b t (with_id (id_of (get_or ts i [])) ts) ≡ get_or ts i []
    go true q other w =
        let e = ap (λ (x : ℕ). listed x (map id_of ts)) (eqb-true (id_of t) (id_of (get_or ts i [])) q) ∙ listed_at ts i (omega arith) in
        let z : ◌≡◌ {A = ℕ} 0 1 = cc in absurd (omega arith)
    go false q other w = w

module _ (s : List ℕ) (w : Source) (e : film_refusal s w ≡ 0) (i : ℕ) (h : i < length (tracks_of (moov_of s))) where
  pub own_asked : ask_refusal s w (id_of (get_or (tracks_of (moov_of s)) i [])) ≡ 0
  unfolding ask_refusal has_track or_else
  own_asked = rw (e, listed_at (tracks_of (moov_of s)) i h)

  pub own_itself : track_asked s (id_of (get_or (tracks_of (moov_of s)) i [])) ≡ get_or (tracks_of (moov_of s)) i []
  unfolding track_asked track_with
  own_itself = own_track (tracks_of (moov_of s)) i (accepted s w e).movie.other_ids h
