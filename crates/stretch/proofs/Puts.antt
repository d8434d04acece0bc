-- Some pairs in the first places of lent room, or 16.
-- Assumes nothing.
use Prim.Native.Nat.{ℕ, ◌*◌, ◌/◌, ◌≤◌, ◌<◌}
use mathlib.Core.Path.{◌≡◌, refl, sym, ◌∙◌}
use mathlib.Core.Bool.{Bool, true}
use mathlib.Core.List.{List, ◌++◌}
use native.Mathlib.Omega.{arith}
use native.Mathlib.Nat.{zero-add, div-lt_iff_lt-mul}
use borrow.Author.Tests.{lt-ltb, le-ltb, leb-true}
use lib.Dec.{leb, lit<}
use lib.ListN.{length, drop}
use lib.Seq.{sets, sets-eq}
use Rattle.lists.specs.Lists.{sum}
use Rattle.structure.specs.Rows.{or_else}
use Rattle.movie.specs.Rooms.{no_room, filled_room, refused_with}
use Rattle.movie.proofs.Answers.{puts_err, puts_answer}
use Rattle.movie.proofs.Refused.{or_err}
use Rattle.pairs.specs.Pairs.{flat}
use Rattle.pairs.specs.Walks.{lengths_of}
use Rattle.pairs.specs.declared.Pair.{Pair}
use Rattle.pairs.proofs.Filling.{flat_length}
use Rattle.stretch.specs.Stretches.{stretch_numbers}
use Rattle.stretch.specs.Said.{pairs_answer, PutsPairs}
use Rattle.std.specs.Prelude.{Ok, Err}
use Rattle.refusals.specs.Refusals.{number}
use Rattle.refusals.specs.declared.Refusal.{Refusal}
use Rattle.refusals.specs.declared.Refusal.TheVariants.{NoRoom}

-- as the code asks it
pub pairs_have_room : (n places : ℕ) (r : Bool) → r ≡ leb n (places / 2) → r ≡ true → 2 * n ≤ places
pairs_have_room n places r e h = omega (arith, leb-true n (places / 2) (sym e ∙ h))

-- refused before the room is looked at
pub pairs_refused : (e : Refusal) (qs : List Pair) (room : List ℕ) → PutsPairs (number e) qs room (Err e) room
unfolding stretch_numbers
pairs_refused e qs room =
    let h = or_err (number e) (no_room (flat qs) room) e refl in
    puts_err stretch_numbers (refused_with 2) (λ j. refl) (pairs_answer qs) (flat qs) room (or_else (number e) (no_room (flat qs) room)) e h

module _ (qs : List Pair) (room : List ℕ) (n : ℕ) (c : n ≡ length qs) where
  numbers_are : length (flat qs) ≡ 2 * n
  numbers_are = omega (arith, flat_length qs, c)

  pub pairs_no_room : length room / 2 < n → PutsPairs 0 qs room (Err NoRoom) room
  unfolding stretch_numbers or_else no_room
  pairs_no_room h =
      let k = (div-lt_iff_lt-mul {x = length room} {y = n} (lit< tt)).0 h in
      puts_err stretch_numbers (refused_with 2) (λ j. refl) (pairs_answer qs) (flat qs) room _ NoRoom (rw (lt-ltb (length room) (length (flat qs)) (omega (arith, numbers_are))))

  pub pairs_put : (bytes : ℕ) (after : List ℕ) → n ≤ length room / 2 → bytes ≡ sum (lengths_of qs) → after ≡ sets room 0 (flat qs) → PutsPairs 0 qs room (Ok (record { pairs = n; bytes = bytes })) after
  unfolding stretch_numbers or_else no_room filled_room
  pairs_put bytes after h f g =
      let l = flat qs in
      let v : sets room 0 l ≡ l ++ drop (length l) room = rw (zero-add) at (sets-eq l room 0 (omega (arith, numbers_are))) in
      puts_answer stretch_numbers (refused_with 2) (λ j. refl) (pairs_answer qs) l room _ (Ok (record { pairs = n; bytes = bytes })) after
      (rw (le-ltb (length room) (length l) (omega (arith, numbers_are))))
      (rw (c, f))
      (g ∙ v)
