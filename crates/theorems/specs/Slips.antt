-- Demand 2 of slips, as claims about the answers: "A slip written reads back, given room, as the same numbers; a slip accepted is the only writing
-- of its numbers." With document 02, Ask 9, over both forms and both readers: any says whether the reader reads form 2 too.
use Rattle.std.specs.Prelude.{ℕ, ◌*◌, ◌≤◌, ◌<◌, ◌≡◌, Bool, true, false, List, [], ◌++◌, length, get_or, take, drop, Result, Ok}
use Rattle.edits.specs.declared.MediaTime.{MediaTime}
use Rattle.slip_head.specs.Bytes.{slip_bytes, Rules}
use Rattle.slip_head.specs.declared.Head.{Head}
use Rattle.slip.specs.Slip.{bound_of, Reads}
use Rattle.slip.specs.Slip.{SlipRead}
use Rattle.std.specs.Prelude.{Ok, Err}
use Rattle.slip.specs.declared.SlipError.TheVariants.{Malformed, NoRoom}
use Rattle.structure.specs.declared.source.Source.{Source}
use Rattle.structure.specs.Track.{scale_of, duration_of}
use Rattle.structure.specs.Movie.{moov_of, tracks_of}
use Rattle.questions.specs.Asked.{track_asked}
use Rattle.stretch.specs.Stretches.{stretch_answer, Stretches}
use Rattle.slip_writing.specs.Slips.{Slips}
use Rattle.theorems.specs.Entries.{media_total}
use Rattle.refusals.specs.declared.Refusal.{Refusal}
use Rattle.stretch.specs.declared.StretchTotals.{StretchTotals}

-- each number of a list is a byte, as the type of a file says
abbrev pub Bytes : List ℕ → Type 0
Bytes s = (i : ℕ) → get_or s i 0 < 256

-- the numbers of a slip before its k pairs
abbrev pub head_of : List ℕ → ℕ → MediaTime → MediaTime → ℕ → Head
head_of s id a b k = record { id = id; scale = scale_of (track_asked s id); a = a.0; b = b.0; pairs = k }

-- A slip question on the film s, whose source is w, has written n bytes into `out`. It read the film strictly, whatever w says
pub record ReadsBack (s : List ℕ) (w : Source) (id : ℕ) (a b : MediaTime) : Type 0 where
  -- Then a stretch question of the same stretch, by w, is answered in any room for its k pairs
  pub answered : (out after : List ℕ) (n : ℕ) → Slips s w id a b out (Ok n) after
      → (k : ℕ) × (total : ℕ) × ((room : List ℕ) → 2 * k ≤ length room → stretch_answer s w id a b room ≡ Ok (record { pairs = k; bytes = total }))
  -- Where s holds bytes and such a stretch question, in a room of its own, has answered k pairs, those n bytes, read into any room of 2 * k
  -- places or more, are accepted as the ID, the track's scale, a, b and k; the first 2 * k places are what the stretch question put into its
  -- room, and the rest of the room is as it was. The reader of form 1 does so too where s is a whole file
  pub same : Bytes s → (any : Bool) → (any ≡ false → w.alone ≡ false)
      → (out after : List ℕ) (n : ℕ) → Slips s w id a b out (Ok n) after
      → (room put : List ℕ) (k total : ℕ) → Stretches s w id a b room (Ok (record { pairs = k; bytes = total })) put
      → (places : List ℕ) → 2 * k ≤ length places → (r : SlipRead) (read : List ℕ) → Reads any (take n after) places r read
      → (r ≡ Ok (head_of s id a b k)) × (take (2 * k) read ≡ take (2 * k) put) × (drop (2 * k) read ≡ drop (2 * k) places)
  -- "as proof that a file was closed properly": each track states as its duration the total of its samples
  pub closed : (out after : List ℕ) (n : ℕ) → Slips s w id a b out (Ok n) after
      → (i : ℕ) → i < length (tracks_of (moov_of s))
      → duration_of (get_or (tracks_of (moov_of s)) i []) ≡ media_total (get_or (tracks_of (moov_of s)) i [])

-- "every set of numbers still has a single slip", whichever reader reads it
pub record OnlyWriting (h : Head) : Type 0 where
  -- numbers that keep the rules have one: their writing, read with room for the pairs, is accepted as exactly them, and the rest of the room is as
  -- it was. The numbers are below 2^64, for the reader of form 1 below 2^32
  pub has : (any : Bool) (pairs : List ℕ) → Rules (bound_of any) h pairs
      → (room : List ℕ) → length pairs ≤ length room → (r : SlipRead) (after : List ℕ) → Reads any (slip_bytes h pairs) room r after
      → (r ≡ Ok h) × (after ≡ pairs ++ drop (length pairs) room)
  -- bytes that are read and accepted are the writing of their numbers, which stand in the answer and in the room
  pub written : (any : Bool) (bs room after : List ℕ) → Reads any bs room (Ok h) after → bs ≡ slip_bytes h (take (2 * h.pairs) after)
  -- two strings of bytes, each read and accepted with the same numbers before the pairs and the same pairs in its room, are the same bytes
  pub same : (one other : Bool) (bs cs room₁ room₂ after₁ after₂ : List ℕ)
      → Reads one bs room₁ (Ok h) after₁ → Reads other cs room₂ (Ok h) after₂
      → take (2 * h.pairs) after₁ ≡ take (2 * h.pairs) after₂ → bs ≡ cs

-- what the two readers say of the same bytes
pub record BothReaders (bs : List ℕ) : Type 0 where
  -- "The new reader gives for a form 1 slip what the old one gave": so of all bytes that do not begin with form 2
  pub same : (get_or bs 0 0 ≡ 2 → ⊥)
      → (room : List ℕ) (old new : SlipRead) (narrow wide : List ℕ) → Reads false bs room old narrow → Reads true bs room new wide
      → (new ≡ old) × (wide ≡ narrow)
  -- "the old reader refuses form 2 by 17"
  pub refuses : get_or bs 0 0 ≡ 2 → (room : List ℕ) (r : SlipRead) (after : List ℕ) → Reads false bs room r after
      → (r ≡ Err (Malformed 0)) × (after ≡ room)
