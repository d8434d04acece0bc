-- A stretch by the handle of a track: exact for the film and track that it was opened in, and of any other what the bytes at the handle's
-- places say.
use Rattle.std.specs.Prelude.{ℕ, ◌≡◌, List, Result, Err}
use Rattle.structure.specs.declared.source.Source.{Source}
use Rattle.structure.specs.Rows.{or_else}
use Rattle.movie.specs.Rooms.{no_room}
use Rattle.movie.specs.Answers.{given}
use Rattle.pairs.specs.Pairs.{flat}
use Rattle.pairs.specs.declared.Pair.{Pair}
use Rattle.edits.specs.declared.MediaTime.{MediaTime}
use Rattle.places.specs.Places.{part_in}
use Rattle.stretch.specs.Stretches.{span_refusal, Stretches}
use Rattle.stretch.specs.Said.{said_refusal, said_pairs, pairs_answer, PutsPairs}
use Rattle.stretch.specs.declared.StretchTotals.{StretchTotals}
use Rattle.refusals.specs.Refusals.{refused}
use Rattle.refusals.specs.declared.Refusal.{Refusal}
use Rattle.refusals.specs.declared.Refusal.TheVariants.{Outside, NoRoom}
use Rattle.opened.specs.Opened.{Opens}
use Rattle.opened.specs.declared.Opened.{Opened}

-- the refusal before the room is looked at, 15 or 0, and the pairs, by the tables at the handle's places, whatever stands there
unfoldable pub by_refusal : List ℕ → Opened → MediaTime → MediaTime → ℕ
by_refusal s h a b =
    said_refusal (part_in s h.tables.stts) (part_in s h.tables.stsc) (part_in s h.tables.stsz) (part_in s h.tables.offsets)
    h.samples h.chunks a b

unfoldable pub by_pairs : List ℕ → Opened → MediaTime → MediaTime → List Pair
by_pairs s h a b =
    said_pairs (part_in s h.tables.stts) (part_in s h.tables.stsc) (part_in s h.tables.stsz) (part_in s h.tables.offsets) h.chunks a b

-- the answer
abbrev pub by_answer : List ℕ → Opened → MediaTime → MediaTime → List ℕ → Result StretchTotals Refusal
by_answer s h a b room = given (or_else (by_refusal s h a b) (no_room (flat (by_pairs s h a b)) room)) (pairs_answer (by_pairs s h a b)) refused

-- the promise of `refusal_by`: the question's own refusal before the room where the handle is of the film lent (`right`); of any other handle `said`
pub record RefusalBy (s : List ℕ) (h : Opened) (a b : MediaTime) (r : ℕ) : Type 0 where
  pub right : (w : Source) (id : ℕ) → Opens s w id h → r ≡ span_refusal s w id a b
  pub said : r ≡ by_refusal s h a b

-- the promise of `stretch_by`: the question's own where the handle is of the film lent (`right`). Of a handle of another film, or of no film, the
-- answer may differ from one correct program to another; this one's is `said`, with its room, and its refusals are 15 and 16
pub record StretchBy (s : List ℕ) (h : Opened) (a b : MediaTime) (room : List ℕ) (r : Result StretchTotals Refusal) (after : List ℕ) : Type 0 where
  pub right : (w : Source) (id : ℕ) → Opens s w id h → Stretches s w id a b room r after
  pub said : PutsPairs (by_refusal s h a b) (by_pairs s h a b) room r after
  pub elsewhere : (e : Refusal) → r ≡ Err e → (e ≡ Outside → ⊥) → e ≡ NoRoom
