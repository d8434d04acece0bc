-- What a stretch by a handle hands over; and after an opening that answers 0 it is what the question hands over.
-- Assumes nothing.
use Prim.Native.Nat.{ℕ, ◌≤◌, ◌<◌}
use mathlib.Core.Path.{◌≡◌, refl}
use mathlib.Core.List.{List, [], ◌∷◌}
use native.Mathlib.Omega.{arith}
use lib.ListN.{length}
use Rattle.lists.specs.Lists.{sum}
use Rattle.structure.specs.declared.source.Source.{Source}
use Rattle.structure.specs.Rows.{or_else}
use Rattle.movie.specs.Rooms.{no_room, refused_with}
use Rattle.movie.proofs.Answers.{gives}
use Rattle.movie.proofs.Numbered.{else_low, room_low}
use Rattle.pairs.specs.Pairs.{flat}
use Rattle.pairs.specs.Walks.{lengths_of}
use Rattle.stretch.specs.Stretches.{stretch_numbers}
use Rattle.stretch.specs.Said.{pairs_answer}
use Rattle.hand.specs.Places.{Fills}
use Rattle.hand.specs.Times.{media}
use Rattle.hand.proofs.Answered.{judged}
use Rattle.opened.specs.declared.Opened.{Opened}
use Rattle.opened_stretches.specs.Stretches.{by_refusal, by_pairs}
use Rattle.opened_stretches.proofs.Answers.{by_low, by_pairs_same, by_answer_same}
use Rattle.host_opened.specs.Handle.{opened_in}
use Rattle.host_opened.specs.Hands.{HandsOpening}
use Rattle.host_opened.proofs.Handed.{long, opening_opens}
use Rattle.host_opened_stretches.specs.Hands.{of_stretch_by, HandsStretch, SameStretch}

-- the numbers are given or refused
pub by_judged : (s : List ℕ) (h : Opened) (a b : ℕ) (room : List ℕ)
    → of_stretch_by s h a b room
    ≡ judged (or_else (by_refusal s h (media a) (media b)) (no_room (flat (by_pairs s h (media a) (media b))) room)) (length (by_pairs s h (media a) (media b)) ∷ sum (lengths_of (by_pairs s h (media a) (media b))) ∷ [])
unfolding stretch_numbers
by_judged s h a b room =
    let qs = by_pairs s h (media a) (media b) in
    (gives stretch_numbers (refused_with 2) (λ e. refl) (pairs_answer qs) (or_else (by_refusal s h (media a) (media b)) (no_room (flat qs) room)) _ (else_low _ _ (by_low s h (media a) (media b)) (room_low _ room)) refl).numbers

module _ (s handle : List ℕ) (a b : ℕ) (room places : List ℕ) (r : ℕ) (filled after : List ℕ) where
  pub stretch_short : length handle < 19 → r ≡ 16 → filled ≡ room → after ≡ places → HandsStretch s handle a b room places r filled after
  stretch_short h e f d = record { short = λ l. (e, f, d); right = λ l w id o. absurd (omega arith); said = λ l. absurd (omega arith) }

  pub stretch_whole : 19 ≤ length handle → (h : Opened) → h ≡ opened_in handle → Fills (of_stretch_by s h a b room) places (flat (by_pairs s h (media a) (media b))) room r after filled
      → HandsStretch s handle a b room places r filled after
  stretch_whole l h e f =
      let g = rw e at f in
      record {
        short = λ n. absurd (omega arith);
        right = λ n w id o.
            rw (by_answer_same s (opened_in handle) (media a) (media b) w id o room, by_pairs_same s (opened_in handle) (media a) (media b) w id o) at g;
        said = λ n. g;
      }

-- after an opening that answers 0
pub same_stretch : (s : List ℕ) (w : Source) (id : ℕ) (places : List ℕ) (r : ℕ) (after : List ℕ) → HandsOpening s w id places r after → r ≡ 0 → SameStretch s w id after
same_stretch s w id places r after d z a b room ps k filled left h = h.right (long s w id places r after d z) w id (opening_opens s w id places r after d z)
