-- From the first 16 bytes of what remains, a header tells the size of the atom there, as it stands in the file and as it stands alone.
-- Assumes nothing.
use Prim.Native.Nat.{ℕ, ◌≤◌, ◌<◌}
use mathlib.Core.Path.{◌≡◌, refl, sym, ap, ◌∙◌}
use mathlib.Core.List.{List}
use mathlib.Core.Bool.{Bool, true, false, cond, ◌&&◌, ◌||◌}
use lib.ListN.{length, take, length-take}
use lib.Seq.{length-take-le, take_all}
use lib.Dec.{ltb, leb, eqb}
use borrow.Author.Tests.{ltb-true, ltb-false, lt-ltb, le-ltb}
use native.Mathlib.Omega.{arith}
use Rattle.bigendian.specs.BigEndian.{u32_at, u64_at}
use Rattle.bigendian.proofs.Laws.{be_at_take}
use Rattle.atoms.specs.Kinds.{file}
use Rattle.atoms.specs.Pieces.{fitting}
use Rattle.atoms.specs.Atoms.{size_top, size_in}
use Rattle.top_level.specs.Steps.{within, size_ahead}

or_same : (b : Bool) → (b || b) ≡ b
or_same true = refl
or_same false = refl

-- of no more than 16 bytes the first 16 are all: both tests on the length come out the same
below : (n : ℕ) (t : List ℕ) → n ≤ 16 → ltb (length (take 16 t)) n ≡ ltb (length t) n
below n t g = go (ltb (length t) n) refl
  where
    go : (b : Bool) → ltb (length t) n ≡ b → ltb (length (take 16 t)) n ≡ b
    go true e = lt-ltb (length (take 16 t)) n (omega (arith, length-take 16 t, ltb-true (length t) n e))
    go false e = le-ltb (length (take 16 t)) n (omega (arith, length-take 16 t, ltb-false (length t) n e))

pub ahead_top : (t : List ℕ) → size_ahead (length t) (take 16 t) ≡ size_in file t
unfolding size_ahead size_in size_top within fitting
ahead_top t =
    rw (below 8 t (omega arith), below 16 t (omega arith), or_same (ltb (length t) 8), be_at_take 4 16 t 0 (omega arith), be_at_take 8 16 t 8 (omega arith))
