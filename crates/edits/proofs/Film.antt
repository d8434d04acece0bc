-- The edits of film W, from the bytes of an elst atom, by computation: movie scale 600, media scale 600, total 120.
-- Assumes nothing.
use Prim.Native.Nat.{ℕ}
use mathlib.Core.Path.{◌≡◌, refl}
use mathlib.Core.Bool.{true, false}
use mathlib.Core.List.{List, [], ◌∷◌}
use lib.IntN.{ℤ, pos, negsuc}
use Rattle.bigendian.specs.BigEndian.{be_at, signed32}
use Rattle.lists.specs.Entries.{rows_of, entries}
use Rattle.edits.specs.declared.Edit.{Edit}
use Rattle.edits.specs.declared.Mapped.{Mapped}
use Rattle.edits.specs.declared.Mapped.TheVariants.{Media, Nothing, Outside}
use Rattle.edits.specs.Edits.{edits, edit_total, edit_ok, edits_ok, media_at}

-- two entries: 60 of nothing (FF FF FF FF), and 60 from the media time m
atom : ℕ → List ℕ
atom m =
    0 ∷ 0 ∷ 0 ∷ 40 ∷ 101 ∷ 108 ∷ 115 ∷ 116 ∷ 0 ∷ 0 ∷ 0 ∷ 0 ∷ 0 ∷ 0 ∷ 0 ∷ 2
    ∷ 0 ∷ 0 ∷ 0 ∷ 60 ∷ 255 ∷ 255 ∷ 255 ∷ 255 ∷ 0 ∷ 1 ∷ 0 ∷ 0
    ∷ 0 ∷ 0 ∷ 0 ∷ 60 ∷ 0 ∷ 0 ∷ 0 ∷ m ∷ 0 ∷ 1 ∷ 0 ∷ 0 ∷ []

entry : ℕ → ℤ → Edit
entry d m = record { duration = d; media = m; rate = 65536 }

shown_at : ℕ → Mapped
shown_at t = media_at 600 600 120 (atom 24) (record { 0 = t })

read : edits (atom 24) ≡ entry 60 (negsuc 0) ∷ entry 60 (pos 24) ∷ []
unfolding edits entries rows_of be_at signed32 atom entry
read = refl

total : edit_total (atom 24) ≡ 120
unfolding edit_total edits entries rows_of be_at signed32 atom
total = refl

times : (shown_at 59 ≡ Nothing) × (shown_at 60 ≡ Media (record { 0 = 24 })) × (shown_at 119 ≡ Media (record { 0 = 83 })) × (shown_at 120 ≡ Outside)
unfolding shown_at media_at edits entries rows_of be_at signed32 atom
times = (refl, refl, refl, refl)

refusals : (edits_ok 600 600 120 (atom 61) ≡ false) × (edits_ok 600 600 120 (atom 60) ≡ true)
unfolding edits_ok edit_ok edits entries rows_of be_at signed32 atom
refusals = (refl, refl)
