-- Edit lists: elst ("duration, signed media time, rate"), refusal 13, and movie time to media time. A track without an edit list has an empty part.
-- In the arguments, scale is the media's time scale, movie the movie's, and total the sample total.
use Rattle.std.specs.Prelude.{ℕ, zero, suc, ◌+◌, ◌*◌, ◌-◌, ◌/◌, Bool, true, false, cond, List, [], ◌∷◌, map, length, ltb, eqb, ℤ, pos, negsuc}
use Rattle.bigendian.specs.BigEndian.{u32_at, i32_at}
use Rattle.lists.specs.Lists.{sum}
use Rattle.lists.specs.Entries.{rows_of, entries}
use Rattle.edits.specs.declared.Edit.{Edit}
use Rattle.edits.specs.declared.Mapped.{Mapped}
use Rattle.edits.specs.declared.Mapped.TheVariants.{Media, Nothing, Outside}
use Rattle.edits.specs.declared.MovieTime.{MovieTime}
use Rattle.edits.specs.declared.EditStart.{EditStart}
use Rattle.edits.specs.declared.EditStart.TheVariants.{From, Empty, Wrong}

-- an entry: "duration, signed media time, rate"
abbrev pub edit_of : List ℕ → Edit
edit_of e = record { duration = u32_at e 0; media = i32_at e 4; rate = u32_at e 8 }

-- the entries that stand one after the other in a part
unfoldable pub edits_in : List ℕ → List Edit
edits_in t = map edit_of (rows_of 12 t)

-- the entries of an edit list: "16+12n"
unfoldable pub edits : List ℕ → List Edit
edits s = map edit_of (entries 16 12 s)

abbrev pub durations_of : List Edit → List ℕ
durations_of es = map (λ e. e.duration) es

-- a track's edit durations, added
unfoldable pub edit_total : List ℕ → ℕ
edit_total s = sum (durations_of (edits s))

-- a media time: a place of the media, -1 where nothing is shown (negsuc k is -(k + 1)), or below -1
abbrev pub start_of : ℤ → EditStart
start_of (pos m) = From m
start_of (negsuc zero) = Empty
start_of (negsuc (suc k)) = Wrong

-- a time in an entry, counted in the media's scale: "floor((t-S) × media scale / movie scale)", "floor((d-1) × media scale / movie scale)"; a movie
-- scale of 0, which refusal 8 excludes, gives 0
abbrev pub in_media : ℕ → ℕ → ℕ → ℕ
in_media scale movie t = t * scale / movie

-- ---- refusal 13

-- "a media time below -1; or an entry with media time m ≥ 0 and duration d where m + floor((d-1) × media scale / movie scale) is not below the
-- sample total"
abbrev pub start_ok : ℕ → ℕ → ℕ → ℕ → EditStart → Bool
start_ok scale movie total d (From m) = ltb (m + in_media scale movie (d - 1)) total
start_ok scale movie total d Empty = true
start_ok scale movie total d Wrong = false

-- "a duration 0; a rate other than 65536 (1.0)"; and the above
unfoldable pub edit_ok : ℕ → ℕ → ℕ → Edit → Bool
edit_ok scale movie total e =
    cond (eqb e.duration 0) false
    (cond (eqb e.rate 65536) (start_ok scale movie total e.duration (start_of e.media)) false)

-- each entry is right
abbrev pub all_ok : ℕ → ℕ → ℕ → List Edit → Bool
all_ok scale movie total [] = true
all_ok scale movie total (e ∷ es) = cond (edit_ok scale movie total e) (all_ok scale movie total es) false

-- "no entry", or one that is wrong
abbrev pub list_ok : ℕ → ℕ → ℕ → List Edit → Bool
list_ok scale movie total [] = false
list_ok scale movie total (e ∷ es) = all_ok scale movie total (e ∷ es)

-- whether refusal 13 does not apply: there is no edit list, or it has none of these faults
unfoldable pub edits_ok : ℕ → ℕ → ℕ → List ℕ → Bool
edits_ok scale movie total s = cond (eqb (length s) 0) true (list_ok scale movie total (edits s))

-- ---- movie time to media time

-- "where the media time isn't below the media total" it lies outside. The paper says so of a track without a list; with one it decides nothing where
-- refusal 13 does not apply, since no entry then shows such a media time (`media_shown` of `proofs/Sentences.antt`)
abbrev pub placed : ℕ → ℕ → Mapped
placed total place = cond (ltb place total) (Media (record { 0 = place })) Outside

-- t after an entry's start: "nothing shown if its media time is -1, else that plus floor((t-S) × media scale / movie scale)"
abbrev pub shown_at : ℕ → ℕ → ℕ → ℕ → EditStart → Mapped
shown_at scale movie total t (From m) = placed total (m + in_media scale movie t)
shown_at scale movie total t Empty = Nothing
shown_at scale movie total t Wrong = Outside

-- "Entries follow one another from movie time 0"; "at or past the last entry's end" the time lies outside
abbrev pub map_in : ℕ → ℕ → ℕ → List Edit → ℕ → Mapped
map_in scale movie total [] t = Outside
map_in scale movie total (e ∷ es) t =
    cond (ltb t e.duration) (shown_at scale movie total t (start_of e.media)) (map_in scale movie total es (t - e.duration))

-- "Without an edit list the media starts at 0"
unfoldable pub media_at : ℕ → ℕ → ℕ → List ℕ → MovieTime → Mapped
media_at scale movie total s t =
    cond (eqb (length s) 0) (shown_at scale movie total t.0 (From 0)) (map_in scale movie total (edits s) t.0)
