-- The lines of the track list put one after the other: each turn stores the numbers of one track, and the rest follows.
-- Assumes nothing.
use Prim.Native.Nat.{ℕ, suc, ◌+◌, ◌*◌, ◌≤◌, ◌<◌}
use mathlib.Core.Path.{◌≡◌, refl, sym, ◌∙◌}
use mathlib.Core.List.{List, [], ◌∷◌, ◌++◌}
use native.Mathlib.Omega.{arith}
use native.Mathlib.Nat.{zero-add}
use lib.ListN.{length, drop, length-append}
use lib.Seq.{sets, sets-eq}
use Rattle.lists.proofs.Stores.{sets_append}
use Rattle.bigendian.specs.BigEndian.{u32_at}
use Rattle.atoms.specs.Kinds.{trak, mdia, tkhd, hdlr, mdhd, stsz}
use Rattle.atoms.specs.Atoms.{child_in}
use Rattle.structure.specs.Track.{mdia_of, table_of, offset_table, elst_of, id_of, subtype_of, scale_of, duration_of}
use Rattle.track.specs.Refusals.{total_in}
use Rattle.track_list.specs.TrackList.{line_of, lines_of}
use Rattle.track_list.specs.Lines.{TotalsFit}

pub line_length : (t : List ℕ) → length (line_of t) ≡ 8
unfolding line_of
line_length t = refl

pub lines_length : (ts : List (List ℕ)) → length (lines_of ts) ≡ 8 * length ts
lines_length [] = refl
lines_length (t ∷ ts) = omega (arith, length-append (line_of t) (lines_of ts), line_length t, lines_length ts)

-- ---- a turn, at a place whose tracks are b and the rest

module _ (b : List ℕ) (ts rest : List (List ℕ)) (q : ts ≡ b ∷ rest) where
  pub fits_here : TotalsFit ts → total_in b < 4294967296
  fits_here f = (rw q at f).0

  pub fits_rest : TotalsFit ts → TotalsFit rest
  fits_rest f = (rw q at f).1

  pub room_here : (at k : ℕ) → at + 8 * length ts ≤ k → (at + 8 ≤ k) × (at + 8 + 8 * length rest ≤ k)
  room_here at k h = let z : at + 8 * suc (length rest) ≤ k = rw q at h in (omega arith, omega arith)

  pub turn : (room new line goal : List ℕ) (at : ℕ) → line ≡ line_of b → new ≡ sets room at line → sets room at (lines_of ts) ≡ goal → sets new (at + 8) (lines_of rest) ≡ goal
  turn room new line goal at e d h =
      let z : sets room at (line_of b ++ lines_of rest) ≡ goal = rw q at h in
      rw (d, e) (sym (rw (line_length b) at (sets_append room at (line_of b) (lines_of rest))) ∙ z)

-- all of them, in room for them all
pub all_lines : (ts : List (List ℕ)) (room : List ℕ) → 8 * length ts ≤ length room → sets room 0 (lines_of ts) ≡ lines_of ts ++ drop (length (lines_of ts)) room
all_lines ts room h = rw (zero-add) at (sets-eq (lines_of ts) room 0 (omega (arith, lines_length ts)))

-- the eight numbers, by the parts in which they are read
pub line_by : (t x h m z o e : List ℕ) (id subtype scale total samples chunks edits stored : ℕ)
    → x ≡ child_in trak tkhd 0 t → h ≡ child_in mdia hdlr 0 (mdia_of t) → m ≡ child_in mdia mdhd 0 (mdia_of t) → z ≡ table_of stsz t → o ≡ offset_table t → e ≡ elst_of t
    → id ≡ u32_at x 20 → subtype ≡ u32_at h 16 → scale ≡ u32_at m 20 → total ≡ total_in t → samples ≡ u32_at z 16 → chunks ≡ u32_at o 12 → edits ≡ u32_at e 12 → stored ≡ u32_at m 24
    → (id ∷ subtype ∷ scale ∷ total ∷ samples ∷ chunks ∷ edits ∷ stored ∷ []) ≡ line_of t
unfolding line_of id_of subtype_of scale_of duration_of
line_by t x h m z o e id subtype scale total samples chunks edits stored ex eh em ez eo ee a b c d f g i j = rw (a, b, c, d, f, g, i, j, ex, eh, em, ez, eo, ee)
