-- What callers go by: no row of a table holds where it gives no number; tracks by their index.
-- Assumes nothing.
use Prim.Native.Nat.{ℕ, zero, suc, ◌<◌}
use mathlib.Core.Path.{◌≡◌, refl, sym}
use mathlib.Core.List.{List, [], ◌∷◌, map}
use mathlib.Core.Bool.{Bool, true, false, cond}
use lib.ListN.{length, get_or}
use lib.Dec.{ltb, eqb-suc-zero}
use borrow.Author.Tests.{ltb-true}
use native.Mathlib.Omega.{arith}
use Rattle.bigendian.specs.BigEndian.{be_at}
use Rattle.lists.proofs.Booleans.{or_left, or_right, and_left, and_right}
use Rattle.atoms.specs.Kinds.{moov, trak}
use Rattle.atoms.specs.Atoms.{header_of, body_of, atoms, of_kind}
use Rattle.structure.specs.Rows.{Row, some, first, or_else, rank, ranks_rise}
use Rattle.structure.specs.Movie.{tracks_of, track_at}
use Rattle.structure.proofs.Rows.{rank_pos}

-- ---- a table of rows of which none holds

-- f holds of no row
abbrev pub Clear : (Row → Bool) → List Row → Type 0
Clear f [] = Unit
Clear f (r ∷ rs) = (f r ≡ false) × Clear f rs

clear_step : (f : Row → Bool) (r : Row) (rs : List Row) (b : Bool) → f r ≡ b → 0 < r.number → cond b r.number (first f rs) ≡ 0 → (first f rs ≡ 0 → Clear f rs)
    → Clear f (r ∷ rs)
clear_step f r rs true q k z g = absurd (omega arith)
clear_step f r rs false q k z g = (q, g z)

-- no number is given: no row holds
pub clear : (f : Row → Bool) (n : ℕ) (rs : List Row) → ranks_rise n rs ≡ true → first f rs ≡ 0 → Clear f rs
unfolding first ranks_rise
clear f n [] h e = tt
clear f n (r ∷ rs) h e =
    let k = ltb-true n (rank r.number) (and_left _ _ h) in
    clear_step f r rs (f r) refl (rank_pos r.number n k) e (λ z. clear f (rank r.number) rs (and_right (ltb n (rank r.number)) _ h) z)

-- a condition that holds of no track
pub some_none : (f : List ℕ → Bool) (ts : List (List ℕ)) (i : ℕ) → some f ts ≡ false → i < length ts → f (get_or ts i []) ≡ false
unfolding some
some_none f [] i h g = absurd (omega arith)
some_none f (a ∷ l) zero h g = or_left (f a) _ h
some_none f (a ∷ l) (suc i) h g = some_none f l i (or_right (f a) _ h) (omega arith)

-- ---- tracks by index

body_none : body_of ([]) ≡ []
unfolding be_at header_of body_of
body_none = refl

at_map : (l : List (List ℕ)) (i : ℕ) → get_or (map body_of l) i [] ≡ body_of (get_or l i [])
at_map [] i = sym body_none
at_map (a ∷ l) zero = refl
at_map (a ∷ l) (suc i) = at_map l i

pub track-at : (m : List ℕ) (i : ℕ) → get_or (tracks_of m) i [] ≡ track_at i m
unfolding track_at
track-at m i = at_map (of_kind trak (atoms moov m)) i

pub none_else : (a b : ℕ) → or_else a b ≡ 0 → (a ≡ 0) × (b ≡ 0)
unfolding or_else
none_else zero b e = (refl, e)
none_else (suc a) b e = let z : suc a ≡ 0 = rw (eqb-suc-zero a) at e in absurd (omega arith)

-- ---- at a place of a walk over the tracks

-- P holds of each of them
abbrev pub Each : (List ℕ → Type 0) → List (List ℕ) → Type 0
Each P l = (i : ℕ) → i < length l → P (get_or l i [])
