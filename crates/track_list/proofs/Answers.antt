-- The answers of the track list, from what the code has of the film's refusal, its moov and its tracks.
-- Assumes nothing.
use Prim.Native.Nat.{ℕ, suc, ◌*◌, ◌≤◌, ◌<◌}
use mathlib.Core.Path.{◌≡◌, refl, sym, ap, ◌∙◌}
use mathlib.Core.List.{List, [], ◌∷◌}
use native.Mathlib.Omega.{arith}
use borrow.Author.Tests.{eq-eqb, ne_eqb, lt-ltb, le-ltb}
use lib.ListN.{length}
use lib.Seq.{sets}
use Rattle.structure.specs.declared.source.Source.{Source}
use Rattle.structure.specs.Source.{length_of}
use Rattle.structure.specs.Movie.{moov_of, movie_scale, tracks_of}
use Rattle.structure.specs.Rows.{or_else}
use Rattle.structure.proofs.Callers.{Each}
use Rattle.track.specs.Refusals.{total_in}
use Rattle.movie.specs.Refusals.{film_refusal}
use Rattle.places.specs.Movies.{AreTraks}
use Rattle.places.specs.declared.moov.Traks.{Traks}
use Rattle.movie.specs.Traks.{FewTraks}
use Rattle.movie.specs.Rooms.{no_room, filled_room, refused_with}
use Rattle.movie.proofs.Accepted.{Accepted, accepted}
use Rattle.movie.proofs.Traks.{few_traks}
use Rattle.movie.proofs.Answers.{puts_err, puts_answer}
use Rattle.track_list.specs.TrackList.{lines_of, track_lines, list_refusal, listed, track_list_numbers, Lists}
use Rattle.track_list.specs.Lines.{TotalsFit}
use Rattle.std.specs.Prelude.{Ok, Err}
use Rattle.refusals.specs.declared.Refusal.{Refusal}
use Rattle.refusals.specs.declared.Refusal.TheVariants.{NoRoom}
use Rattle.refusals.specs.Refusals.{number}
use Rattle.refusals.proofs.Numbers.{number_some}
use Rattle.track_list.proofs.Lines.{lines_length, all_lines}

-- ---- what the code may ask of a film that is not refused

pub listed_few : (s : List ℕ) (w : Source) (r : ℕ) → r ≡ film_refusal s w → r ≡ 0 → (q : Traks) → AreTraks s (tracks_of (moov_of s)) q → FewTraks s (tracks_of (moov_of s)) q
listed_few s w r e z q a = few_traks s (tracks_of (moov_of s)) q a (accepted s w (sym e ∙ z)).movie.shape.few_tracks

fitting_each : (w : Source) (scale len : ℕ) (ts : List (List ℕ)) → Each (Accepted w scale len) ts → TotalsFit ts
fitting_each w scale len [] h = tt
fitting_each w scale len (t ∷ ts) h =
    let f : total_in t ≤ 4294967295 = (h 0 (omega arith)).total_fits in
    (omega arith, fitting_each w scale len ts (λ i g. h (suc i) (omega arith)))

pub fitting : (s m : List ℕ) (w : Source) (r : ℕ) → r ≡ film_refusal s w → r ≡ 0 → m ≡ moov_of s → TotalsFit (tracks_of m)
fitting s m w r e z d = rw d (fitting_each w (movie_scale (moov_of s)) (length_of w s) (tracks_of (moov_of s)) (accepted s w (sym e ∙ z)).movie.tracks)

-- ---- the answers

answered : (s : List ℕ) (w : Source) (room : List ℕ) (e : Refusal) → list_refusal s w room ≡ number e → Lists s w room (Err e) room
unfolding track_list_numbers
answered s w room e h = puts_err track_list_numbers (refused_with 1) (λ x. refl) (listed s) (track_lines s) room (list_refusal s w room) e h

pub refused_list : (s : List ℕ) (w : Source) (room : List ℕ) (e : Refusal) → number e ≡ film_refusal s w → Lists s w room (Err e) room
unfolding list_refusal or_else
refused_list s w room e h = answered s w room e (rw (← h, ne_eqb (number e) 0 (λ z. omega (arith, number_some e))))

module _ (s : List ℕ) (w : Source) (room m : List ℕ) (r n : ℕ) (e : r ≡ film_refusal s w) (z : r ≡ 0) (d : m ≡ moov_of s) (c : n ≡ length (tracks_of m)) where
  lines_are : length (track_lines s) ≡ 8 * n
  unfolding track_lines
  lines_are = rw (c, d) (lines_length (tracks_of (moov_of s)))

  then_room : list_refusal s w room ≡ no_room (track_lines s) room
  unfolding list_refusal or_else
  then_room = rw (← e, eq-eqb r 0 z)

  pub short_list : length room < 8 * n → Lists s w room (Err NoRoom) room
  unfolding no_room
  short_list h = answered s w room NoRoom (then_room ∙ rw (lt-ltb (length room) (length (track_lines s)) (omega (arith, lines_are))))

  pub whole_list : (after : List ℕ) → 8 * n ≤ length room → after ≡ sets room 0 (lines_of (tracks_of m)) → Lists s w room (Ok n) after
  unfolding no_room track_list_numbers filled_room track_lines
  whole_list after h p =
      let k : list_refusal s w room ≡ 0 = then_room ∙ rw (le-ltb (length room) (length (track_lines s)) (omega (arith, lines_are))) in
      let g : n ≡ length (tracks_of (moov_of s)) = rw d at c in
      let q : 8 * length (tracks_of (moov_of s)) ≤ length room = omega arith in
      puts_answer track_list_numbers (refused_with 1) (λ j. refl) (listed s) (track_lines s) room (list_refusal s w room) (Ok n) after k
      (ap Ok g)
      (p ∙ rw d (all_lines (tracks_of (moov_of s)) room q))
