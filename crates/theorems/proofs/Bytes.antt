-- In a file of bytes each atom and each body has bytes, so that the ID and the time scale of a track are numbers of 32 bits; and the track that is asked has the ID.
-- Assumes nothing.
use Prim.Native.Nat.{ℕ, zero, suc, ◌+◌, ◌^◌, ◌<◌}
use mathlib.Core.Path.{◌≡◌, refl}
use mathlib.Core.Bool.{Bool, true, false, cond}
use mathlib.Core.List.{List, [], ◌∷◌, map}
use native.Mathlib.Omega.{arith}
use lib.ListN.{get_or, take, drop}
use lib.Seq.{get_or-drop}
use lib.Dec.{eqb}
use borrow.Author.Tests.{eqb-true}
use Rattle.bigendian.proofs.Laws.{be_at_below}
use Rattle.atoms.specs.Kinds.{file, moov, trak, tkhd, mdia, mdhd}
use Rattle.atoms.specs.Pieces.{pieces_after, pieces}
use Rattle.atoms.specs.Atoms.{kind_of, header_of, body_of, size_in, of_kind, child_in, body_in}
use Rattle.words.specs.Words.{listed}
use Rattle.structure.specs.Track.{mdia_of, id_of, scale_of}
use Rattle.structure.specs.Movie.{moov_of, tracks_of, track_at}
use Rattle.structure.proofs.Callers.{track-at}
use Rattle.movie.specs.Tracks.{with_id, has_track, track_with}
use Rattle.questions.specs.Asked.{track_asked}
use Rattle.theorems.specs.Slips.{Bytes}

take_bytes : (k : ℕ) (s : List ℕ) → Bytes s → Bytes (take k s)
take_bytes zero s h i = omega arith
take_bytes (suc k) [] h i = omega arith
take_bytes (suc k) (x ∷ s) h zero = h 0
take_bytes (suc k) (x ∷ s) h (suc i) = take_bytes k s (λ j. h (suc j)) i

drop_bytes : (k : ℕ) (s : List ℕ) → Bytes s → Bytes (drop k s)
drop_bytes k s h i = omega (arith, get_or-drop k s i 0, h (k + i))

-- ---- an atom, and its body

abbrev All : List (List ℕ) → Type 0
All l = (i : ℕ) → Bytes (get_or l i [])

pieces_bytes : (size : List ℕ → ℕ) (k : ℕ) (s : List ℕ) → Bytes s → All (pieces_after size k s)
unfolding pieces_after
pieces_bytes size k [] h i = λ j. omega arith
pieces_bytes size (suc k) (x ∷ s) h i = pieces_bytes size k s (λ j. h (suc j)) i
pieces_bytes size zero (x ∷ s) h i = go (size (x ∷ s)) i (λ k. pieces_bytes size k s (λ j. h (suc j)))
  where
    go : (z j : ℕ) → ((k : ℕ) → All (pieces_after size k s)) → Bytes (get_or {A = List ℕ} (elim z [ zero ↦ [] | suc k ↦ take (suc k) (x ∷ s) ∷ pieces_after size k s ]) j [])
    go zero j ih = λ n. omega arith
    go (suc k) zero ih = take_bytes (suc k) (x ∷ s) h
    go (suc k) (suc j) ih = ih k j

kind_bytes : (k : ℕ) (l : List (List ℕ)) → All l → All (of_kind k l)
unfolding of_kind
kind_bytes k [] h i = h i
kind_bytes k (a ∷ l) h i = go (eqb (kind_of a) k) i (kind_bytes k l (λ j. h (suc j)))
  where
    go : (f : Bool) (j : ℕ) → All (of_kind k l) → Bytes (get_or (cond f (a ∷ of_kind k l) (of_kind k l)) j [])
    go true zero ih = h 0
    go true (suc j) ih = ih j
    go false j ih = ih j

child_bytes : (p k i : ℕ) (s : List ℕ) → Bytes s → Bytes (child_in p k i s)
child_bytes p k i s h = kind_bytes k (pieces (size_in p) s) (pieces_bytes (size_in p) 0 s h) i

body_bytes : (p k i : ℕ) (s : List ℕ) → Bytes s → Bytes (body_in p k i s)
unfolding body_of
body_bytes p k i s h = drop_bytes (header_of (child_in p k i s)) (child_in p k i s) (child_bytes p k i s h)

-- ---- the track that is asked

with_bytes : (id : ℕ) (ts : List (List ℕ)) → All ts → Bytes (with_id id ts)
with_bytes id [] h = h 0
with_bytes id (t ∷ ts) h = go (eqb (id_of t) id) (with_bytes id ts (λ j. h (suc j)))
  where
    go : (b : Bool) → Bytes (with_id id ts) → Bytes (cond b t (with_id id ts))
    go true r = h 0
    go false r = r

asked_bytes : (s : List ℕ) (id : ℕ) → Bytes s → Bytes (track_asked s id)
unfolding track_asked track_with moov_of track_at
asked_bytes s id h =
    let m = body_bytes file moov 0 s h in
    with_bytes id (tracks_of (moov_of s)) (λ i. rw (track-at (moov_of s) i) (body_bytes moov trak i (moov_of s) m))

pub scale_small : (s : List ℕ) (id : ℕ) → Bytes s → scale_of (track_asked s id) < 2 ^ 32
unfolding scale_of mdia_of
scale_small s id h = be_at_below 4 _ 20 (child_bytes mdia mdhd 0 _ (body_bytes trak mdia 0 (track_asked s id) (asked_bytes s id h)))

with-id : (id : ℕ) (ts : List (List ℕ)) → listed id (map id_of ts) ≡ true → id_of (with_id id ts) ≡ id
with-id id [] h = let y : ◌≡◌ {A = Bool} false true = h in let z : ◌≡◌ {A = ℕ} 0 1 = cc in absurd (omega arith)
with-id id (t ∷ ts) h = go (eqb (id_of t) id) refl (λ q. with-id id ts (rw q at h))
  where
    go : (b : Bool) → eqb (id_of t) id ≡ b → (eqb (id_of t) id ≡ false → id_of (with_id id ts) ≡ id) → id_of (with_id id (t ∷ ts)) ≡ id
    go true q r = rw q (eqb-true (id_of t) id q)
    go false q r = rw q (r q)

pub asked_id : (s : List ℕ) (id : ℕ) → has_track id (moov_of s) ≡ true → id_of (track_asked s id) ≡ id
unfolding track_asked track_with has_track
asked_id s id h = with-id id (tracks_of (moov_of s)) h

pub id_small : (s : List ℕ) (id : ℕ) → Bytes s → has_track id (moov_of s) ≡ true → id < 2 ^ 32
unfolding id_of
id_small s id b h = let l = be_at_below 4 (child_in trak tkhd 0 (track_asked s id)) 20 (child_bytes trak tkhd 0 (track_asked s id) (asked_bytes s id b)) in omega (arith, asked_id s id h, l)
