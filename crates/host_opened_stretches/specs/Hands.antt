-- What a stretch by a handle hands to a caller in another language.
use Rattle.std.specs.Prelude.{ℕ, ◌≤◌, ◌<◌, ◌≡◌, List, length}
use Rattle.structure.specs.declared.source.Source.{Source}
use Rattle.pairs.specs.Pairs.{flat}
use Rattle.stretch.specs.Stretches.{stretch_numbers, stretch_pairs}
use Rattle.hand.specs.Places.{Fills}
use Rattle.hand.specs.Times.{media}
use Rattle.opened.specs.Opened.{Opens}
use Rattle.opened.specs.declared.Opened.{Opened}
use Rattle.opened_stretches.specs.Stretches.{by_pairs, by_answer}
use Rattle.host_opened.specs.Handle.{opened_in}
use Rattle.host_stretches.specs.Numbers.{of_stretch}

-- the numbers of the answer by a handle
abbrev pub of_stretch_by : List ℕ → Opened → ℕ → ℕ → List ℕ → List ℕ
of_stretch_by s h a b room = stretch_numbers (by_answer s h (media a) (media b) room)

-- the promise of `hand_opened_stretch`: too few numbers of the handle are refused 16, and nothing is written; else what the question itself hands
-- over, where the handle is of the film lent (`right`), and of any film what the bytes at the handle's places say
pub record HandsStretch (s handle : List ℕ) (a b : ℕ) (room places : List ℕ) (r : ℕ) (filled after : List ℕ) : Type 0 where
  pub short : length handle < 19 → (r ≡ 16) × (filled ≡ room) × (after ≡ places)
  pub right : 19 ≤ length handle → (w : Source) (id : ℕ) → Opens s w id (opened_in handle)
      → Fills (of_stretch s w id a b room) places (flat (stretch_pairs s id (media a) (media b))) room r after filled
  pub said : 19 ≤ length handle
      → Fills (of_stretch_by s (opened_in handle) a b room) places (flat (by_pairs s (opened_in handle) (media a) (media b))) room r after filled

-- by a handle in these places a stretch hands over what it does without one
abbrev pub SameStretch : List ℕ → Source → ℕ → List ℕ → Type 0
SameStretch s w id handle =
    (a b : ℕ) (room places : List ℕ) (r : ℕ) (filled after : List ℕ) → HandsStretch s handle a b room places r filled after
    → Fills (of_stretch s w id a b room) places (flat (stretch_pairs s id (media a) (media b))) room r after filled
