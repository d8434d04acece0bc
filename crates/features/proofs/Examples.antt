-- The paper's numbers, each computed from the definitions.
-- Assumes nothing.
use Rattle.std.specs.Prelude.{Some, None}
use Prim.Native.Nat.{ℕ}
use mathlib.Core.Path.{◌≡◌, refl}
use mathlib.Core.List.{List, [], ◌∷◌, ◌++◌}
use lib.ListN.{replicate}
use Rattle.bigendian.specs.BigEndian.{be_at}
use Rattle.atoms.specs.Kinds.{vide}
use Rattle.lists.specs.Lists.{sum}
use Rattle.descriptions.specs.Descriptions.{greatest}
use Rattle.track.specs.Track.{Track}
use Rattle.rates.specs.Rates.{round_up, value_of, rate_of}
use Rattle.peaks.specs.Peaks.{peak_of}
use Rattle.features.specs.Features.{avvb, avab, tvsz, vfps, mvbr, mabr, whole_average, average, picture, frames, peak, only_in, feature_of}

-- the descriptions of pictures of 320 by 240, and of 7 by 65535
abbrev usual : List ℕ
usual = replicate 32 0 ++ (1 ∷ 64 ∷ 0 ∷ 240 ∷ [])

abbrev tall : List ℕ
tall = replicate 32 0 ++ (0 ∷ 7 ∷ 255 ∷ 255 ∷ [])

-- a track of pictures, by its time scale, durations, sizes and descriptions; no feature looks at what else it has
abbrev track : ℕ → List ℕ → List ℕ → List (List ℕ) → Track
track scale ds zs descriptions =
    record {
      id = 1;
      subtype = vide;
      scale = scale;
      stored_duration = sum ds;
      durations = ds;
      offsets = [];
      sizes = zs;
      syncs = [];
      per_chunk = [];
      description_ids = [];
      chunk_offsets = [];
      descriptions = descriptions;
      references = [];
      edit_table = [];
      edits = [];
      profile = [];
    }

-- film W
abbrev w : Track
w = track 600 (24 ∷ 24 ∷ 24 ∷ 48 ∷ []) (100 ∷ 50 ∷ 0 ∷ 70 ∷ []) (usual ∷ [])

avvb_of_w : feature_of 600 w avvb ≡ Some 8800
unfolding feature_of only_in average whole_average rate_of value_of round_up
avvb_of_w = refl

-- 25 frames a second
vfps_of_w : feature_of 600 w vfps ≡ Some 0x00190000
unfolding feature_of only_in frames rate_of value_of round_up
vfps_of_w = refl

tvsz_of_w : feature_of 600 w tvsz ≡ Some 0x014000F0
unfolding feature_of only_in picture greatest value_of be_at
tvsz_of_w = refl

-- W lasts less than a second, so that its peak is its average
mvbr_of_w : feature_of 600 w mvbr ≡ Some 8800
unfolding feature_of only_in peak peak_of rate_of value_of round_up
mvbr_of_w = refl

mabr_of_w : feature_of 600 w mabr ≡ None
unfolding feature_of only_in
mabr_of_w = refl

-- the greatest width and the greatest height are of two descriptions
tvsz_of_two : feature_of 600 (track 600 [] [] (usual ∷ tall ∷ [])) tvsz ≡ Some 0x0140FFFF
unfolding feature_of only_in picture greatest value_of be_at
tvsz_of_two = refl

-- 29.97 is rounded up, and a duration of 0 is not the least
vfps_rounded : feature_of 600 (track 30000 (0 ∷ 2002 ∷ 1001 ∷ []) [] []) vfps ≡ Some 0x001DF854
unfolding feature_of only_in frames rate_of value_of round_up
vfps_rounded = refl

-- no duration above 0; a feature of sound; no description; another code
vfps_none : feature_of 600 (track 30000 (0 ∷ 0 ∷ []) [] []) vfps ≡ None
unfolding feature_of only_in frames rate_of
vfps_none = refl

avab_of_w : feature_of 600 w avab ≡ None
unfolding feature_of only_in
avab_of_w = refl

tvsz_none : feature_of 600 (track 600 [] [] []) tvsz ≡ None
unfolding feature_of only_in picture
tvsz_none = refl

another_code : feature_of 600 w 0x41565642 ≡ None
unfolding feature_of
another_code = refl
