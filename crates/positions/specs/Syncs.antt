-- A place in stss: before the numbers that are above those of the samples passed.
use Rattle.std.specs.Prelude.{ℕ, suc, ◌+◌, ◌*◌, ◌<◌, ◌≡◌, true, false, cond, List, [], ◌∷◌, drop, ltb, eqb}
use Rattle.words.specs.Words.{words_in, syncs, strictly_rising, listed}
use Rattle.positions.specs.declared.sync.SyncStep.{SyncStep}

-- of n samples the first k are passed: the numbers from a place on are above k and rise, and those above k are listed from there on
pub record SyncAt (s : List ℕ) (n k at : ℕ) : Type 0 where
  pub rising : strictly_rising n k (words_in (drop at s)) ≡ true
  pub same : (j : ℕ) → k < j → listed j (words_in (drop at s)) ≡ listed j (syncs s)

-- ---- as the code has it. This need not be believed: `sync_sought` and `sync_moves` of `proofs/Syncs.antt` are what callers go by

-- how many numbers come before the first one above k
abbrev pub not_above : ℕ → List ℕ → ℕ
not_above k [] = 0
not_above k (x ∷ xs) = cond (ltb k x) 0 (suc (not_above k xs))

unfoldable pub sync_place : List ℕ → ℕ → ℕ
sync_place s k = 16 + not_above k (syncs s) * 4

-- whether a number is the first from a place on, and the place past it if so
abbrev pub sync_step_in : List ℕ → ℕ → ℕ → SyncStep
sync_step_in [] at number = record { listed = false; at = at }
sync_step_in (x ∷ xs) at number = cond (eqb x number) (record { listed = true; at = at + 4 }) (record { listed = false; at = at })

unfoldable pub sync_step : List ℕ → ℕ → ℕ → SyncStep
sync_step s at number = sync_step_in (words_in (drop at s)) at number
