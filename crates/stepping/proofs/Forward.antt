-- No place in a table goes back: neither where entries are read, nor past a sample.
-- Assumes nothing.
use Prim.Native.Nat.{ℕ, ◌+◌, ◌≤◌}
use mathlib.Core.List.{List, [], ◌∷◌}
use native.Mathlib.Omega.{arith}
use native.Mathlib.Decide.{ℕ_discrete, dec_lt}
use borrow.Author.Tests.{eq-eqb, ne_eqb, lt-leb, le-leb}
use lib.ListN.{drop}
use Rattle.bigendian.specs.BigEndian.{u32_at}
use Rattle.lists.specs.Lists.{Run}
use Rattle.runs.specs.Runs.{runs_in}
use Rattle.runs.specs.Cursors.{loaded_run, readied_run_in, readied_run}
use Rattle.runs.specs.declared.cursor.RunCursor.{RunCursor}
use Rattle.words.specs.Words.{words_in}
use Rattle.chunks.specs.Chunks.{Deal, deals_in}
use Rattle.chunks.specs.Cursors as cursors
use Rattle.chunks.specs.Cursors.{loaded, readied}
use Rattle.chunks.specs.declared.ChunkCursor.{ChunkCursor}
use Rattle.positions.specs.Dealing.{begun, readied_dealt}
use Rattle.positions.specs.Syncs.{sync_step_in, sync_step}
use Rattle.positions.specs.declared.dealt.Dealt.{Dealt}
use Rattle.positions.specs.declared.moving.Moving.{Moving}
use Rattle.positions.proofs.Dealing.{ready_here, ready_next}
use Rattle.positions.specs.Moving.{Bytes, readied_moving}
use Rattle.step_moves.specs.Moves.{moved_past}
use Rattle.stepping.specs.Stepping.{Forward}

run_forward : (es : List Run) (c : RunCursor) → c.at ≤ (readied_run_in es c).at
run_forward [] c = omega arith
run_forward (e ∷ es) c = elim (ℕ_discrete c.count 0) [
  | yes z ↦ let l : c.at + 8 ≤ (readied_run_in es (loaded_run e c)).at = run_forward es (loaded_run e c) in rw (eq-eqb c.count 0 z) (omega arith)
  | no z ↦ rw (ne_eqb c.count 0 z) (omega arith)
]

cursor_forward : (chunks : ℕ) (es : List Deal) (c : ChunkCursor) → c.at ≤ (cursors.readied_in chunks es c).at
cursor_forward chunks [] c = omega arith
cursor_forward chunks (e ∷ es) c = elim (ℕ_discrete c.remaining 0) [
  | yes z ↦
      let l : c.at + 12 ≤ (cursors.readied_in chunks es (loaded chunks e es c)).at = cursor_forward chunks es (loaded chunks e es c) in
      rw (eq-eqb c.remaining 0 z) (omega arith)
  | no z ↦ rw (ne_eqb c.remaining 0 z) (omega arith)
]

module _ (stsc o : List ℕ) (chunks : ℕ) (d : Dealt) where
  begun_forward : (d.cursor.at ≤ (begun stsc o chunks d).cursor.at) × (d.chunk ≤ (begun stsc o chunks d).chunk)
  unfolding readied
  begun_forward = elim (dec_lt d.chunk chunks) [
    | yes l ↦ rw (lt-leb chunks d.chunk l) (cursor_forward chunks (deals_in (drop d.cursor.at stsc)) d.cursor, omega arith)
    | no l ↦ rw (le-leb chunks d.chunk (omega arith)) (omega arith, omega arith)
  ]

  dealt_forward : (d.cursor.at ≤ (readied_dealt stsc o chunks d).cursor.at) × (d.chunk ≤ (readied_dealt stsc o chunks d).chunk)
  dealt_forward = elim (ℕ_discrete d.rest 0) [
    | yes z ↦ rw (← ready_next stsc o chunks d z) begun_forward
    | no z ↦ rw (← ready_here stsc o chunks d z) (omega arith, omega arith)
  ]

sync_forward : (xs : List ℕ) (at number : ℕ) → at ≤ (sync_step_in xs at number).at
sync_forward [] at number = omega arith
sync_forward (x ∷ xs) at number = elim (ℕ_discrete x number) [
  | yes z ↦ rw (eq-eqb x number z) (omega arith)
  | no z ↦ rw (ne_eqb x number z) (omega arith)
]

pub moved_forward : (x : Bytes) (m : Moving) → Forward m (moved_past x.stsz x.stss (readied_moving x.stts x.ctts x.stsc x.offsets m))
unfolding readied_run sync_step
moved_forward x m =
    let d = dealt_forward x.stsc x.offsets (u32_at x.offsets 12) m.dealt in
    record {
      stts = run_forward (runs_in (drop m.times.at x.stts)) m.times;
      ctts = run_forward (runs_in (drop m.shifts.at x.ctts)) m.shifts;
      stsc = d.0;
      offsets = d.1;
      stss = sync_forward (words_in (drop m.sync x.stss)) m.sync (m.index + 1);
    }
