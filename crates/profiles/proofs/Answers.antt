-- The answers of the stored profile, from what the code has of the refusal, the profile and its records.
-- Assumes nothing.
use Prim.Native.Nat.{ℕ, ◌*◌, ◌/◌, ◌≤◌, ◌<◌}
use mathlib.Core.Path.{◌≡◌, refl, ap, ◌∙◌}
use mathlib.Core.List.{List}
use native.Mathlib.Omega.{arith}
use native.Mathlib.Nat.{div-lt_iff_lt-mul}
use borrow.Author.Tests.{eq-eqb, ne_eqb, lt-ltb, le-ltb}
use mathlib.Core.Bool.{Bool, true, false, cond}
use lib.Dec.{eqb, lit<}
use lib.ListN.{length}
use lib.Seq.{sets}
use Rattle.structure.specs.declared.source.Source.{Source}
use Rattle.structure.specs.Track.{profile_of}
use Rattle.structure.specs.Movie.{moov_of, movie_profile}
use Rattle.structure.specs.Rows.{or_else}
use Rattle.movie.specs.Rooms.{no_room, filled_room, refused_with}
use Rattle.movie.proofs.Answers.{puts_err, puts_answer}
use Rattle.movie.proofs.Refused.{or_err}
use Rattle.movie.specs.Refusals.{film_refusal}
use Rattle.movie.proofs.Numbered.{film_low}
use Rattle.questions.specs.Asked.{ask_refusal, track_asked}
use Rattle.questions.proofs.Numbered.{ask_low}
use Rattle.profiles.specs.Profiles.{record_numbers, kept_of, profile_asked, profile_numbers, id_refusal, profile_refusal, profile_count, profile_answer_numbers, Profiles}
use Rattle.std.specs.Prelude.{Ok, Err}
use Rattle.refusals.specs.Refusals.{number}
use Rattle.refusals.specs.declared.Refusal.{Refusal}
use Rattle.refusals.specs.declared.Refusal.TheVariants.{NoRoom}
use Rattle.profiles.proofs.Kept.{numbers_length, all_records}

-- ---- which profile

pub own_profile : (s m p : List ℕ) (id : ℕ) → id ≡ 0 → m ≡ moov_of s → p ≡ movie_profile m → p ≡ profile_asked s id
unfolding profile_asked
own_profile s m p id z d e = rw (eq-eqb id 0 z) (e ∙ ap movie_profile d)

pub track_asked_profile : (s t p : List ℕ) (id : ℕ) → (id ≡ 0 → ⊥) → t ≡ track_asked s id → p ≡ profile_of t → p ≡ profile_asked s id
unfolding profile_asked
track_asked_profile s t p id n d e = rw (ne_eqb id 0 n) (e ∙ ap profile_of d)

-- ---- the answers

answered : (s : List ℕ) (w : Source) (id : ℕ) (room : List ℕ) (e : Refusal) → profile_refusal s w id room ≡ number e → Profiles s w id room (Err e) room
unfolding profile_answer_numbers
answered s w id room e h =
    puts_err profile_answer_numbers (refused_with 1) (λ k. refl) (profile_count s id) (profile_numbers s id) room (profile_refusal s w id room) e h

pub refused_profile : (s : List ℕ) (w : Source) (id : ℕ) (room : List ℕ) (e : Refusal) → id_refusal s w id ≡ number e → Profiles s w id room (Err e) room
unfolding profile_refusal
refused_profile s w id room e h = answered s w id room e (or_err (id_refusal s w id) _ e h)

module _ (s : List ℕ) (w : Source) (id : ℕ) (room p : List ℕ) (n : ℕ) (z : id_refusal s w id ≡ 0) (d : p ≡ profile_asked s id) (c : n ≡ length (kept_of p)) where
  numbers_are : length (profile_numbers s id) ≡ 3 * n
  unfolding profile_numbers
  numbers_are = rw (c, d) (numbers_length (kept_of (profile_asked s id)))

  then_room : profile_refusal s w id room ≡ no_room (profile_numbers s id) room
  unfolding profile_refusal or_else
  then_room = rw z

  pub short_profile : length room / 3 < n → Profiles s w id room (Err NoRoom) room
  unfolding no_room
  short_profile h =
      let k = (div-lt_iff_lt-mul {x = length room} {y = n} (lit< tt)).0 h in
      answered s w id room NoRoom (then_room ∙ rw (lt-ltb (length room) (length (profile_numbers s id)) (omega (arith, numbers_are))))

  pub whole_profile : (after : List ℕ) → n ≤ length room / 3 → after ≡ sets room 0 (record_numbers (kept_of p)) → Profiles s w id room (Ok n) after
  unfolding no_room profile_answer_numbers filled_room profile_numbers
  whole_profile after h q =
      let y : 3 * n ≤ length room = omega arith in
      let k : profile_refusal s w id room ≡ 0 = then_room ∙ rw (le-ltb (length room) (length (profile_numbers s id)) (omega (arith, numbers_are))) in
      let g : n ≡ length (kept_of (profile_asked s id)) = rw d at c in
      puts_answer profile_answer_numbers (refused_with 1) (λ j. refl) (profile_count s id) (profile_numbers s id) room (profile_refusal s w id room) (Ok n) after k
      (ap Ok g)
      (q ∙ rw d (all_records (kept_of (profile_asked s id)) room (omega arith)))

-- the refusal before the room is looked at is a number of a refusal
pub id_low : (s : List ℕ) (w : Source) (id : ℕ) → id_refusal s w id ≤ 21
id_low s w id = go (eqb id 0)
  where
    go : (b : Bool) → cond b (film_refusal s w) (ask_refusal s w id) ≤ 21
    go true = film_low s w
    go false = ask_low s w id
