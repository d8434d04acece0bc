-- The one track of film W as plain lists, beside the papers' words.
use Rattle.std.specs.Prelude.{true, [], ◌∷◌, ◌++◌, replicate, pos}
use Rattle.atoms.specs.Kinds.{vide}
use Rattle.track.specs.Track.{Track}

abbrev pub plain : Track
plain =
    record {
      -- "ID 1, vide, scale 600, mdhd duration 120"
      id = 1;
      subtype = vide;
      scale = 600;
      stored_duration = 120;
      -- "stts (3,24),(1,48)"
      durations = 24 ∷ 24 ∷ 24 ∷ 48 ∷ [];
      -- "no ctts"
      offsets = pos 0 ∷ pos 0 ∷ pos 0 ∷ pos 0 ∷ [];
      -- "sizes 100, 50, 0, 70"
      sizes = 100 ∷ 50 ∷ 0 ∷ 70 ∷ [];
      -- "no .. stss": all are sync
      syncs = true ∷ true ∷ true ∷ true ∷ [];
      -- "stsc (1,3,1),(2,1,1); stco 1000, 900"
      per_chunk = 3 ∷ 1 ∷ [];
      description_ids = 1 ∷ 1 ∷ [];
      chunk_offsets = 1000 ∷ 900 ∷ [];
      -- "one description"
      descriptions = (0 ∷ 0 ∷ 0 ∷ 36 ∷ 106 ∷ 112 ∷ 101 ∷ 103 ∷ replicate 7 0
          ++ 1 ∷ replicate 16 0 ++ 1 ∷ 64 ∷ 0 ∷ 240 ∷ []) ∷ [];
      -- document 02: "W gains a dinf with one such entry"
      references = (0 ∷ 0 ∷ 0 ∷ 12 ∷ 97 ∷ 108 ∷ 105 ∷ 115 ∷ 0 ∷ 0 ∷ 0 ∷ 1 ∷ []) ∷ [];
      -- "no edits"; "no .. profile"
      edit_table = [];
      edits = [];
      profile = [];
    }
