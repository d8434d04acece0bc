-- The answers of a step by the tables, from what the code has of the places.
-- Assumes nothing.
use Prim.Native.Nat.{ℕ, ◌+◌, ◌≤◌, ◌<◌}
use mathlib.Core.Path.{◌≡◌}
use mathlib.Core.Bool.{Bool, true, false, cond}
use mathlib.Core.List.{List}
use Rattle.std.specs.Prelude.{Option, Some, None}
use borrow.Author.Tests.{lt-leb, le-leb}
use lib.Dec.{eqb}
use lib.IntN.{ℤ, pos, ◌+ℤ◌}
use lib.ListN.{length, get_or}
use Rattle.words.specs.Words.{sizes}
use Rattle.positions.specs.Runs.{shift_of}
use Rattle.positions.specs.Syncs.{sync_step}
use Rattle.positions.specs.Moving.{Bytes, readied_moving, may_move, past_moving}
use Rattle.positions.specs.declared.moving.Moving.{Moving}
use Rattle.positions.specs.declared.sync.SyncStep.{SyncStep}
use Rattle.step_moves.specs.declared.Stepped.{Stepped}
use Rattle.step_moves.specs.Moves.{moved, moved_on, stepped_on}

-- ---- the ways out of `moved`

module _ (z y : List ℕ) (m : Moving) where
  pub moved_end : may_move m ≡ false → None ≡ moved_on z y m
  unfolding moved_on
  moved_end e = rw e

  pub moved_to : (size : ℕ) (place : SyncStep) (comp : ℤ) (b : Bool) (next : Moving) → size ≡ get_or (sizes z) m.index 0
      → place ≡ sync_step y m.sync (m.index + 1) → comp ≡ pos m.decode +ℤ shift_of m.shifts → b ≡ cond (eqb (length y) 0) true place.listed
      → next ≡ past_moving size place.at m
      → ◌≡◌ {A = Stepped} (record { sample = record { decode = m.decode; duration = m.times.each; composition = comp; sync = b; description = m.dealt.cursor.description; chunk = m.dealt.chunk; offset = m.dealt.offset; size = size }; past = next }) (moved z y m)
  moved_to size place comp b next f g h i j = rw (j, i, h, g, f)

  pub moved_some : may_move m ≡ true → (v : Stepped) → v ≡ moved z y m → Some v ≡ moved_on z y m
  unfolding moved_on
  moved_some e v f = rw (e, f)

-- whether stss is empty
module _ (y : List ℕ) (b e : Bool) (f : e ≡ eqb (length y) 0) where
  pub sync_none : e ≡ true → e ≡ cond (eqb (length y) 0) true b
  sync_none g = rw (← f, g)

  pub sync_some : e ≡ false → b ≡ cond (eqb (length y) 0) true b
  sync_some g = rw (← f, g)

-- ---- the ways out of `step_in`

-- with the entries read
abbrev pub moved_ready : Bytes → Moving → Option Stepped
moved_ready x m = moved_on x.stsz x.stss (readied_moving x.stts x.ctts x.stsc x.offsets m)

module _ (x : Bytes) (samples : ℕ) (m : Moving) where
  pub stepped_past : samples ≤ m.index → None ≡ stepped_on x samples m
  unfolding stepped_on
  stepped_past h = rw (le-leb samples m.index h)

  pub stepped_by : m.index < samples → moved_ready x m ≡ stepped_on x samples m
  unfolding stepped_on
  stepped_by h = rw (lt-leb samples m.index h)
