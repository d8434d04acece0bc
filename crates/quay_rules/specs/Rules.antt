-- Rules of the quay film profile (document 02), of the lists of a track: those on its samples. The eighth, on its chunks, is in chunk_order.
use Rattle.std.specs.Prelude.{ℕ, suc, ◌*◌, Bool, true, false, cond, not, ◌||◌, List, [], ◌∷◌, map, ltb, Option, Some, None}
use Rattle.lists.specs.Lists.{up_to}
use Rattle.words.specs.Words.{is_sync, listed}

-- ---- the fifth

-- for each of n samples whether it is sync, by stss
abbrev pub sync_flags : List ℕ → ℕ → List Bool
sync_flags s n = map (λ i. is_sync s (suc i)) (up_to n)

-- how many samples come before the next sync one, or before the end
abbrev pub until_sync : List Bool → ℕ
until_sync [] = 0
until_sync (b ∷ bs) = cond b 0 (suc (until_sync bs))

-- "a sync sample and those after it before the next sync one, or to the end": how many samples, for each sync sample
abbrev pub groups : List Bool → List ℕ
groups [] = []
groups (b ∷ bs) = cond b (suc (until_sync bs) ∷ groups bs) (groups bs)

-- whether a number is above m
abbrev pub any_above : ℕ → List ℕ → Bool
any_above m [] = false
any_above m (x ∷ xs) = ltb m x || any_above m xs

-- "sample 1 sync"
abbrev pub starts_sync : List Bool → Bool
starts_sync [] = false
starts_sync (b ∷ bs) = b

-- broken, if not "sample 1 sync, and a sync sample and those after it before the next sync one, or to the end, at most 250 samples".
-- "A track with no samples breaks the fifth."
unfoldable pub lacks_syncs : List Bool → Bool
lacks_syncs bs = not (starts_sync bs) || any_above 250 (groups bs)

-- ---- the sixth and the seventh: "no zero sizes"; "no zero durations"

-- broken, if one of the sizes, or of the durations, is 0
abbrev pub has_zero : List ℕ → Bool
has_zero xs = listed 0 xs

-- ---- the ninth

-- broken, if not "vfps at most 30.0", in 65536ths. "A vfps refused 18 breaks the last rule."
unfoldable pub too_fast : Option ℕ → Bool
too_fast (Some v) = ltb (30 * 65536) v
too_fast None = true
