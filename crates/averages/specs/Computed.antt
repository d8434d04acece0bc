-- The sums that the code keeps, and what it needs to keep them in 64 bits. This need not be believed: it is between the crates' own functions.
use Rattle.std.specs.Prelude.{ℕ, ◌<◌, ◌≤◌, ◌≡◌, true, List, length}
use Rattle.lists.specs.Lists.{sum, between}
use Rattle.runs.specs.Runs.{per_sample}
use Rattle.edits.specs.Edits.{all_ok}
use Rattle.edits.specs.declared.Edit.{Edit}
use Rattle.averages.specs.Averages.{Range, added_over}
use Rattle.averages.specs.declared.Added.{Added}

abbrev pub added_in : List ℕ → List ℕ → Range → Added
added_in ds zs r = record { bytes = between zs r.from r.stop; units = between ds r.from r.stop }

abbrev pub added_all : List ℕ → List ℕ → List Range → Added
added_all ds zs rs = record { bytes = added_over zs rs; units = added_over ds rs }

-- stts of an accepted track
pub record Small (s : List ℕ) : Type 0 where
  pub short : length s < 4294967296
  pub few : length (per_sample s) ≤ 1048576
  pub total_fits : sum (per_sample s) < 4294967296

-- and its edits
pub record Edited (scale movie total : ℕ) (es : List Edit) : Type 0 where
  pub few : length es ≤ 256
  pub right : all_ok scale movie total es ≡ true
