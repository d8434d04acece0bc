-- A track's tables are no longer than the body of its trak, and a trak's body no longer than the file: each is a child of the one before.
-- Assumes nothing.
use Prim.Native.Nat.{ℕ, ◌≤◌}
use mathlib.Core.List.{List}
use native.Mathlib.Omega.{arith}
use lib.ListN.{length}
use Rattle.atoms.specs.Kinds.{file, moov, trak, mdia, minf, stbl}
use Rattle.atoms.proofs.Lengths.{child_short, body_short}
use Rattle.structure.specs.Track.{mdia_of, minf_of, stbl_of, table_of}
use Rattle.structure.specs.Movie.{moov_of, track_at}

pub table_short : (k : ℕ) (t : List ℕ) → length (table_of k t) ≤ length t
unfolding table_of stbl_of minf_of mdia_of
table_short k t =
    omega (
      arith,
      child_short stbl k 0 (stbl_of t),
      body_short minf stbl 0 (minf_of t),
      body_short mdia minf 0 (mdia_of t),
      body_short trak mdia 0 t,
    )

pub track_short : (i : ℕ) (s : List ℕ) → length (track_at i (moov_of s)) ≤ length s
unfolding track_at moov_of
track_short i s = omega (arith, body_short moov trak i (moov_of s), body_short file moov 0 s)
