-- Tables of runs: stts ("sample count, duration") and ctts ("sample count, signed offset").
use Rattle.std.specs.Prelude.{ℕ, suc, min, cond, List, [], ◌∷◌, map, get_or, ltb, eqb, ℤ, Option, Some, None}
use Rattle.bigendian.specs.BigEndian.{u32_at, signed32}
use Rattle.lists.specs.Lists.{sum, before, Run, expand, holder}
use Rattle.lists.specs.Entries.{rows_of, entries}
use Rattle.runs.specs.declared.Hit.{Hit}
use Rattle.runs.specs.declared.Timing.{Timing}

-- an entry: how many samples, and the number that each of them has
abbrev pub run_of : List ℕ → Run
run_of e = record { count = u32_at e 0; value = u32_at e 4 }

-- the runs that stand one after the other in a part
unfoldable pub runs_in : List ℕ → List Run
runs_in t = map run_of (rows_of 8 t)

-- the runs of a table: "16+8n"
unfoldable pub runs_of : List ℕ → List Run
runs_of s = map run_of (entries 16 8 s)

-- one number for each sample: its duration, in stts; its offset as it is stored, in ctts
unfoldable pub per_sample : List ℕ → List ℕ
per_sample s = expand (runs_of s)

-- the composition offset of the sample with index i, from 0: signed, in ctts; 0 without the table
unfoldable pub composition_offset : List ℕ → ℕ → ℤ
composition_offset s i = signed32 (get_or (per_sample s) i 0)

-- the index, from 0, of the sample whose media times hold t: "decode time ≤ t < decode time plus duration". There is one where t is below the
-- total, and only one (`sample_holds` and `sample_only` of `proofs/Sentences.antt`)
unfoldable pub sample_at : List ℕ → ℕ → Option ℕ
sample_at ds t = cond (ltb t (sum ds)) (Some (holder ds t)) None

-- document 02: "the position, from 1, of the entry that holds the answered sample": of the sample with index i
unfoldable pub entry_of : List Run → ℕ → ℕ
entry_of rs i = suc (holder (map (λ r. r.count) rs) i)

-- what a lookup by time finds: the sample that holds t, its entry, its decode time and its duration
unfoldable pub hit_of : List Run → ℕ → Hit
hit_of rs t =
    let i = holder (expand rs) t in
    record { index = i; entry = entry_of rs i; start = before (expand rs) i; duration = get_or (expand rs) i 0 }

unfoldable pub looked_up : List Run → ℕ → Option Hit
looked_up rs t = cond (ltb t (sum (expand rs))) (Some (hit_of rs t)) None

-- the decode time ("sum of durations before it") and the duration of the sample with index i, from 0
unfoldable pub timing_of : List ℕ → ℕ → Timing
timing_of ds i = record { start = before ds i; duration = get_or ds i 0 }

-- the lesser of two numbers, and the least of some, that is not 0; 0 where there is none
abbrev pub lesser_of : ℕ → ℕ → ℕ
lesser_of a b = cond (eqb a 0) b (cond (eqb b 0) a (min a b))

abbrev pub least_of : List ℕ → ℕ
least_of [] = 0
least_of (d ∷ ds) = lesser_of d (least_of ds)
