-- The answers of a track's edit list, from what the code has of the refusal, the track and the list's entries.
-- Assumes nothing.
use Prim.Native.Nat.{ℕ, ◌*◌, ◌/◌, ◌≤◌, ◌<◌}
use mathlib.Core.Path.{◌≡◌, refl, ap, ◌∙◌}
use mathlib.Core.List.{List}
use native.Mathlib.Omega.{arith}
use borrow.Author.Tests.{eq-eqb, ne_eqb, lt-ltb, le-ltb}
use lib.ListN.{length, drop}
use lib.Seq.{sets}
use lib.IntN.{ℤ}
use Rattle.edits.specs.Edits.{edits_in}
use Rattle.edits.proofs.Turns.{edits-in}
use Rattle.structure.specs.declared.source.Source.{Source}
use Rattle.structure.specs.Track.{elst_of}
use Rattle.structure.specs.Rows.{or_else}
use Rattle.track.specs.Track.{track_of}
use Rattle.movie.specs.Rooms.{no_room, filled_room, refused_with}
use Rattle.movie.proofs.Answers.{puts_err, puts_answer}
use Rattle.movie.proofs.Refused.{or_err}
use Rattle.questions.specs.Asked.{ask_refusal, track_asked}
use Rattle.movie_times.specs.Entries.{edit_numbers, edits_asked, edits_refusal, edits_count, edits_numbers, StoresEdits}
use Rattle.std.specs.Prelude.{Ok, Err}
use Rattle.refusals.specs.Refusals.{number}
use Rattle.refusals.specs.declared.Refusal.{Refusal}
use Rattle.refusals.specs.declared.Refusal.TheVariants.{NoRoom}
use Rattle.movie_times.proofs.Stored.{numbers_length, edits-count, all_edits}

answered : (s : List ℕ) (w : Source) (id : ℕ) (room : List ℤ) (e : Refusal) → edits_refusal s w id room ≡ number e → StoresEdits s w id room (Err e) room
unfolding edits_numbers
answered s w id room e h =
    puts_err edits_numbers (refused_with 1) (λ k. refl) (edits_count s id) (edit_numbers (edits_asked s id)) room (edits_refusal s w id room) e h

pub refused_edits : (s : List ℕ) (w : Source) (id : ℕ) (room : List ℤ) (e : Refusal) → ask_refusal s w id ≡ number e → StoresEdits s w id room (Err e) room
unfolding edits_refusal
refused_edits s w id room e h = answered s w id room e (or_err (ask_refusal s w id) _ e h)

module _ (s k l part : List ℕ) (w : Source) (id : ℕ) (room : List ℤ) (z : ask_refusal s w id ≡ 0) (d : k ≡ track_asked s id) (o : l ≡ elst_of k)
    (p : part ≡ drop 16 l) where
  same : edits_in part ≡ edits_asked s id
  unfolding edits_asked track_of
  same = rw (p, o, d) (edits-in (elst_of (track_asked s id)))

  count_is : length part / 12 ≡ length (edits_asked s id)
  count_is = rw (← edits-count part) (ap length same)

  numbers_are : length (edit_numbers (edits_asked s id)) ≡ 3 * (length part / 12)
  numbers_are = rw count_is (numbers_length (edits_asked s id))

  then_room : edits_refusal s w id room ≡ no_room (edit_numbers (edits_asked s id)) room
  unfolding edits_refusal or_else
  then_room = rw z

  pub short_edits : length room / 3 < length part / 12 → StoresEdits s w id room (Err NoRoom) room
  unfolding no_room
  short_edits h =
      let q : length room < length (edit_numbers (edits_asked s id)) = rw numbers_are (omega arith) in
      answered s w id room NoRoom (then_room ∙ rw (lt-ltb (length room) (length (edit_numbers (edits_asked s id))) q))

  pub whole_edits : (after : List ℤ) → length part / 12 ≤ length room / 3 → after ≡ sets room 0 (edit_numbers (edits_in part))
      → StoresEdits s w id room (Ok (length part / 12)) after
  unfolding no_room edits_numbers filled_room
  whole_edits after h q =
      let y : 3 * (length part / 12) ≤ length room = omega arith in
      let g : length (edit_numbers (edits_asked s id)) ≤ length room = rw numbers_are y in
      let j : edits_refusal s w id room ≡ 0 = then_room ∙ rw (le-ltb (length room) (length (edit_numbers (edits_asked s id))) g) in
      puts_answer edits_numbers (refused_with 1) (λ i. refl) (edits_count s id) (edit_numbers (edits_asked s id)) room (edits_refusal s w id room) _ after j
      (ap Ok count_is)
      (q ∙ rw same (all_edits (edits_asked s id) room (rw (← count_is) y)))
