-- The stretch by a handle, from what the tables at its places say.
-- Assumes nothing.
use Prim.Native.Nat.{ℕ, ◌≤◌}
use mathlib.Core.Path.{◌≡◌, refl, sym, ◌∙◌}
use mathlib.Core.Bool.{Bool, true, false, cond}
use mathlib.Core.List.{List}
use native.Mathlib.Omega.{arith}
use lib.Dec.{ltb}
use lib.ListN.{length}
use Rattle.structure.specs.Rows.{or_else}
use Rattle.structure.specs.declared.source.Source.{Source}
use Rattle.track.specs.Track.{track_of}
use Rattle.movie.specs.Rooms.{no_room, refused_with}
use Rattle.movie.specs.Answers.{given}
use Rattle.movie.proofs.Answers.{puts}
use Rattle.pairs.specs.Pairs.{flat}
use Rattle.edits.specs.declared.MediaTime.{MediaTime}
use Rattle.places.specs.Places.{part_in}
use Rattle.stretch.specs.Stretches.{span_refusal, first_in, past_in, pairs_in, stretch_pairs, stretch_answer, stretch_numbers, Stretches}
use Rattle.stretch.specs.Said.{is_stretch, said_refusal, said_pairs, pairs_answer, PutsPairs, StretchSaid}
use Rattle.stretch.specs.declared.StretchTotals.{StretchTotals}
use Rattle.std.specs.Prelude.{Result, Ok, Err}
use Rattle.refusals.specs.Refusals.{refused}
use Rattle.refusals.specs.declared.Refusal.{Refusal}
use Rattle.refusals.specs.declared.Refusal.TheVariants.{Outside, NoRoom}
use Rattle.stretch.proofs.Saying.{said_stretches, said_span}
use Rattle.opened.specs.Opened.{Opens}
use Rattle.opened.specs.declared.Opened.{Opened}
use Rattle.opened_stretches.specs.Stretches.{by_refusal, by_pairs, by_answer, RefusalBy, StretchBy}

-- the refusals are 15 and 16
only : (x y : Bool) (answer : Result StretchTotals Refusal) (k : Refusal) → given (or_else (cond x 0 15) (cond y 16 0)) answer refused ≡ Err k → (answer ≡ Err k → ⊥)
    → (k ≡ Outside → ⊥) → k ≡ NoRoom
unfolding or_else
only true true answer k e n h = cc
only true false answer k e n h = absurd (n e)
only false y answer k e n h = let z : k ≡ Outside = cc in absurd (h z)

low : (x y : Bool) → or_else (cond x 0 15) (cond y 16 0) ≤ 21
unfolding or_else
low true true = omega arith
low true false = omega arith
low false y = omega arith

pub by_low : (s : List ℕ) (h : Opened) (a b : MediaTime) → by_refusal s h a b ≤ 21
unfolding by_refusal said_refusal
by_low s h a b = go (is_stretch (part_in s h.tables.stts) (part_in s h.tables.stsc) (part_in s h.tables.stsz) (part_in s h.tables.offsets) h.samples h.chunks a b)
  where
    go : (x : Bool) → cond x 0 15 ≤ 21
    go true = omega arith
    go false = omega arith

-- of the film and track that it was opened in
module _ (s : List ℕ) (h : Opened) (a b : MediaTime) (w : Source) (id : ℕ) (g : Opens s w id h) where
  by_right : (room : List ℕ) (r : Result StretchTotals Refusal) (after : List ℕ) → PutsPairs (by_refusal s h a b) (by_pairs s h a b) room r after → Stretches s w id a b room r after
  unfolding by_refusal by_pairs
  by_right room r after p =
      let t = g.tables in
      said_stretches s w id a b g.asked room r after (rw (t.stts, t.stsc, t.stsz, t.offsets, g.samples, g.chunks) at p)

  pub by_refusal_same : by_refusal s h a b ≡ span_refusal s w id a b
  unfolding by_refusal
  by_refusal_same = let t = g.tables in rw (t.stts, t.stsc, t.stsz, t.offsets, g.samples, g.chunks) (said_span s w id a b g.asked)

  pub by_pairs_same : by_pairs s h a b ≡ stretch_pairs s id a b
  unfolding by_pairs said_pairs stretch_pairs pairs_in first_in past_in track_of
  by_pairs_same = let t = g.tables in rw (t.stts, t.stsc, t.stsz, t.offsets, g.chunks)

  pub by_answer_same : (room : List ℕ) → by_answer s h a b room ≡ stretch_answer s w id a b room
  unfolding stretch_numbers by_refusal said_refusal no_room
  by_answer_same room =
      let qs = by_pairs s h a b in
      (by_right room (by_answer s h a b room) _
      (puts stretch_numbers (refused_with 2) (λ j. refl) (pairs_answer qs) (flat qs) room (or_else (by_refusal s h a b) (no_room (flat qs) room)) _ _ (low _ _) refl refl)).answer

-- from what the code has
module _ (s : List ℕ) (h : Opened) (a b : MediaTime) (d c z o : List ℕ) (ed : d ≡ part_in s h.tables.stts) (ec : c ≡ part_in s h.tables.stsc) (ez : z ≡ part_in s h.tables.stsz)
    (eo : o ≡ part_in s h.tables.offsets) where
  pub by-refusal : (r : ℕ) → r ≡ said_refusal d c z o h.samples h.chunks a b → RefusalBy s h a b r
  unfolding by_refusal
  by-refusal r e =
      let q : r ≡ by_refusal s h a b = e ∙ rw (ed, ec, ez, eo) in
      record { right = λ w id g. q ∙ by_refusal_same s h a b w id g; said = q }

  pub by_stretch : (room : List ℕ) (r : Result StretchTotals Refusal) (after : List ℕ) → StretchSaid d c z o h.samples h.chunks a b room r after → StretchBy s h a b room r after
  unfolding by_refusal by_pairs no_room said_refusal
  by_stretch room r after p =
      let q : PutsPairs (by_refusal s h a b) (by_pairs s h a b) room r after = rw (← ed, ← ec, ← ez, ← eo) p in
      record {
        right = λ w id g. by_right s h a b w id g room r after q;
        said = q;
        elsewhere = λ k e n. only (is_stretch d c z o h.samples h.chunks a b) (ltb (length room) _) _ k (sym p.answer ∙ e) (λ y. let v : ◌≡◌ {A = ℕ} 0 1 = cc in omega arith) n;
      }
