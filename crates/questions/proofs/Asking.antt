-- The track that is asked: where neither the film nor the ID is refused it is an accepted track of the film, and no longer than the bytes lent.
-- Assumes nothing.
use Prim.Native.Nat.{ℕ, suc, ◌≤◌, ◌<◌, ◌^◌}
use mathlib.Core.Path.{◌≡◌, refl, sym, ap, ◌∙◌}
use mathlib.Core.List.{List, [], ◌∷◌, map}
use mathlib.Core.Bool.{Bool, true, false, cond}
use native.Mathlib.Omega.{arith}
use native.Mathlib.Decide.{ℕ_discrete}
use borrow.Author.Tests.{eq-eqb, ne_eqb}
use lib.ListN.{length, get_or, drop, length-drop, length-replicate}
use lib.Dec.{eqb}
use Rattle.lists.proofs.Booleans.{cond_zero}
use Rattle.std.specs.Prelude.{Result, Ok, Err}
use Rattle.refusals.specs.declared.Refusal.{Refusal}
use Rattle.refusals.specs.Refusals.{number}
use Rattle.refusals.proofs.Numbers.{ok_one}
use Rattle.bigendian.specs.BigEndian.{u32_at}
use Rattle.atoms.specs.Kinds.{stsz}
use Rattle.words.specs.Words.{listed, sizes}
use Rattle.words.proofs.Turns.{length_words, sizes_listed, sizes_common}
use Rattle.structure.specs.declared.source.Source.{Source}
use Rattle.structure.specs.Source.{length_of}
use Rattle.structure.specs.Track.{id_of, table_of, samples_of}
use Rattle.structure.specs.Movie.{moov_of, movie_scale, tracks_of}
use Rattle.structure.specs.Rows.{or_else}
use Rattle.structure.proofs.Callers.{Each, track-at, none_else}
use Rattle.structure.proofs.Lengths.{table_short, track_short}
use Rattle.shape.proofs.Shaped.{Shaped}
use Rattle.track.specs.Refusals.{total_in}
use Rattle.movie.specs.Refusals.{film_refusal}
use Rattle.movie.specs.Tracks.{with_id, has_track, track_with}
use Rattle.movie.proofs.Accepted.{Accepted, AcceptedFile, accepted}
use Rattle.places.specs.Places.{part_in, AreParts, IsTrak}
use Rattle.places.specs.Movies.{AreTraks}
use Rattle.places.specs.declared.trak.Trak.{Trak}
use Rattle.places.specs.declared.moov.Traks.{Traks}
use Rattle.movie.specs.Traks.{FewTraks}
use Rattle.movie.proofs.Traks.{few_traks}
use Rattle.questions.specs.Asked.{ask_refusal, track_asked}
use Rattle.questions.specs.Asking.{StandsAt, Asks}
use Rattle.questions.specs.declared.Asked.{Asked}

-- ---- the refusal, from what the code has of the film's and of the IDs

pub ask_film : (s : List ℕ) (w : Source) (id r : ℕ) → r ≡ film_refusal s w → (r ≡ 0 → ⊥) → r ≡ ask_refusal s w id
unfolding ask_refusal or_else
ask_film s w id r e n = rw (← e, ne_eqb r 0 n)

pub ask_track : (s m : List ℕ) (w : Source) (id r : ℕ) (h : Bool) → r ≡ film_refusal s w → r ≡ 0 → m ≡ moov_of s → h ≡ has_track id m → ask_refusal s w id ≡ cond h 0 14
unfolding ask_refusal or_else
ask_track s m w id r h e z d q = rw (← e, eq-eqb r 0 z, ← d, ← q)

-- ---- the track as the code finds it, of a film that is not refused

pub asks_refused : (s : List ℕ) (w : Source) (id : ℕ) (e : Refusal) → number e ≡ ask_refusal s w id → Asks s w id (Err e)
asks_refused s w id e h = record { refusal = h; movie = λ a q. absurd (cc); trak = λ a q. absurd (cc) }

module _ (s : List ℕ) (w : Source) (id r : ℕ) (e : r ≡ film_refusal s w) (z : r ≡ 0) where
  pub asked_few : (q : Traks) → AreTraks s (tracks_of (moov_of s)) q → FewTraks s (tracks_of (moov_of s)) q
  asked_few q a = few_traks s (tracks_of (moov_of s)) q a (accepted s w (sym e ∙ z)).shape.movie.few_tracks

  module _ (i : ℕ) (g : StandsAt id (tracks_of (moov_of s)) i) where
    pub asked_none : i ≡ length (tracks_of (moov_of s)) → 14 ≡ ask_refusal s w id
    unfolding has_track
    asked_none h = sym (ask_track s (moov_of s) w id r false e z refl (sym (g.none h)))

    pub asked_found : i < length (tracks_of (moov_of s)) → (n : ℕ) → n ≡ movie_scale (moov_of s) → (x : Trak) → IsTrak s (get_or (tracks_of (moov_of s)) i []) x
        → Asks s w id (Ok (record { movie = n; trak = x }))
    unfolding has_track track_asked track_with
    asked_found h n f x k =
        let l = g.found h in
        record { refusal = sym (ask_track s (moov_of s) w id r true e z refl (sym l.0)); movie = λ a q. rw (← ok_one q) f; trak = λ a q. rw (← ok_one q, l.1) k }

-- what a question has of it
module _ (s : List ℕ) (w : Source) (id : ℕ) (r : Result Asked Refusal) (h : Asks s w id r) (a : Asked) (z : r ≡ Ok a) (b : List ℕ) (e : b ≡ part_in s a.trak.body) where
  pub ask_body : b ≡ track_asked s id
  ask_body = e ∙ (h.trak a z).body

  pub ask_parts : AreParts b a.trak.parts
  ask_parts = rw ask_body (h.trak a z).parts

-- ---- the track

-- what holds of each of some tracks holds of the one with the ID, where there is one
with_each : (P : List ℕ → Type 0) (id : ℕ) (ts : List (List ℕ)) → listed id (map id_of ts) ≡ true → Each P ts → P (with_id id ts)
with_each P id [] h e = let y : ◌≡◌ {A = Bool} false true = h in let z : ◌≡◌ {A = ℕ} 0 1 = cc in absurd (omega arith)
with_each P id (t ∷ ts) h e = go (eqb (id_of t) id) refl (λ q. with_each P id ts (rw q at h) (λ i g. e (suc i) (omega arith)))
  where
    go : (b : Bool) → eqb (id_of t) id ≡ b → (eqb (id_of t) id ≡ false → P (with_id id ts)) → P (with_id id (t ∷ ts))
    go true q r = rw q (e 0 (omega arith))
    go false q r = rw q (r q)

pub record AskedTrack (s : List ℕ) (w : Source) (id : ℕ) : Type 0 where
  pub file : AcceptedFile s w
  pub has : has_track id (moov_of s) ≡ true
  pub track : Accepted w (movie_scale (moov_of s)) (length_of w s) (track_asked s id)
  pub short : length (track_asked s id) ≤ length s

pub asked : (s : List ℕ) (w : Source) (id : ℕ) → ask_refusal s w id ≡ 0 → AskedTrack s w id
unfolding ask_refusal track_asked has_track track_with
asked s w id e =
    let n = none_else _ _ e in
    let f = accepted s w n.0 in
    let h = cond_zero _ 14 (omega arith) n.1 in
    record {
      file = f;
      has = h;
      track = with_each (Accepted w (movie_scale (moov_of s)) (length_of w s)) id (tracks_of (moov_of s)) h f.movie.tracks;
      short = with_each (λ t. length t ≤ length s) id (tracks_of (moov_of s)) h (λ i g. rw (track-at (moov_of s) i) (track_short i s));
    }

-- ---- the same, from what the code has

-- as many sizes as the table counts
pub sizes_count : (t : List ℕ) → Shaped t → length (sizes (table_of stsz t)) ≡ samples_of t
sizes_count t h =
    let z = table_of stsz t in
    elim (ℕ_discrete (u32_at z 12) 0) [
      | yes e ↦ omega (arith, ap length (sizes_listed z refl e), length_words (drop 20 z), length-drop 20 z, h.stsz_size e)
      | no e ↦ ap length (sizes_common z refl e) ∙ length-replicate (u32_at z 16) (u32_at z 12)
    ]

module _ (s t : List ℕ) (w : Source) (id r : ℕ) (e : r ≡ ask_refusal s w id) (z : r ≡ 0) (d : t ≡ track_asked s id) where
  pub asked_track : Accepted w (movie_scale (moov_of s)) (length_of w s) t
  asked_track = rw d (asked s w id (sym e ∙ z)).track

  pub asked_low : length_of w s < 2 ^ 63
  asked_low = (asked s w id (sym e ∙ z)).file.shape.low

  pub asked_short : length t < 2 ^ 32
  asked_short = let a = asked s w id (sym e ∙ z) in rw d (omega (arith, a.short, a.file.shape.short))

  pub asked_total : total_in t < 4294967296
  asked_total = omega (arith, asked_track.total_fits)

-- a table of it
pub table_fits : (k : ℕ) (t x : List ℕ) → x ≡ table_of k t → length t < 2 ^ 32 → length x < 2 ^ 32
table_fits k t x e h = rw e (omega (arith, table_short k t))
