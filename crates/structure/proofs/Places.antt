-- What a walk over the atoms of a body learns at a place s from the size z there: of the profile, of the tracks and of their refusals.
-- Assumes nothing.
use Prim.Native.Nat.{ℕ, ◌≤◌, ◌<◌}
use mathlib.Core.Path.{◌≡◌}
use mathlib.Core.List.{List, [], ◌∷◌}
use lib.ListN.{take, drop}
use borrow.Author.Tests.{eq-eqb, ne_eqb}
use Rattle.bigendian.specs.BigEndian.{u32_at}
use Rattle.bigendian.proofs.Laws.{be_at_take}
use Rattle.atoms.specs.Kinds.{moov, trak, prfl}
use Rattle.atoms.specs.Atoms.{body_of, size_in, atoms}
use Rattle.atoms.proofs.Laws.{atoms_none, atoms_next, kinds_none, kinds_here, kinds_next}
use Rattle.structure.specs.Rows.{Row}
use Rattle.structure.specs.ByTracks.{earlier_of, of_track, of_tracks}
use Rattle.structure.specs.Profile.{first_before}
use Rattle.structure.specs.Movie.{tracks_of}
use Rattle.structure.proofs.Rows.{earlier_none, earlier_assoc}

-- ---- the profile

module _ (p k : ℕ) (s : List ℕ) (z : ℕ) (e : z ≡ size_in p s) where
  pub profile_none : z < 8 → first_before k (atoms p s) ≡ []
  unfolding first_before
  profile_none h = rw (atoms_none p s z e h)

  pub profile_head : 8 ≤ z → u32_at s 4 ≡ k → first_before k (atoms p s) ≡ []
  unfolding first_before
  profile_head h f = rw (atoms_next p s z e h, be_at_take 4 z s 4 h, eq-eqb (u32_at s 4) k f)

  pub profile_here : 8 ≤ z → (u32_at s 4 ≡ k → ⊥) → u32_at s 4 ≡ prfl → first_before k (atoms p s) ≡ take z s
  unfolding first_before
  profile_here h f g = rw (atoms_next p s z e h, be_at_take 4 z s 4 h, ne_eqb (u32_at s 4) k f, eq-eqb (u32_at s 4) prfl g)

  pub profile_next : 8 ≤ z → (u32_at s 4 ≡ k → ⊥) → (u32_at s 4 ≡ prfl → ⊥) → first_before k (atoms p s) ≡ first_before k (atoms p (drop z s))
  unfolding first_before
  profile_next h f g = rw (atoms_next p s z e h, be_at_take 4 z s 4 h, ne_eqb (u32_at s 4) k f, ne_eqb (u32_at s 4) prfl g)

-- ---- the tracks

module _ (s : List ℕ) (z : ℕ) (e : z ≡ size_in moov s) where
  pub tracks_none : z < 8 → tracks_of s ≡ []
  tracks_none h = rw (kinds_none moov s z e trak h)

  pub tracks_here : 8 ≤ z → u32_at s 4 ≡ trak → tracks_of s ≡ body_of (take z s) ∷ tracks_of (drop z s)
  tracks_here h f = rw (kinds_here moov s z e trak h f)

  pub tracks_next : 8 ≤ z → (u32_at s 4 ≡ trak → ⊥) → tracks_of s ≡ tracks_of (drop z s)
  tracks_next h f = rw (kinds_next moov s z e trak h f)

-- ---- the earliest of their refusals with the one found so far, for any table of rows

module _ (rs : List Row) (found : ℕ) (s : List ℕ) (z : ℕ) (e : z ≡ size_in moov s) where
  pub found_end : z < 8 → earlier_of found (of_tracks rs (tracks_of s)) ≡ found
  unfolding of_tracks
  found_end h = rw (tracks_none s z e h) (earlier_none found)

  pub found_here : (b : List ℕ) (next new : ℕ) → 8 ≤ z → u32_at s 4 ≡ trak → b ≡ body_of (take z s) → next ≡ of_track rs b → new ≡ earlier_of found next
      → earlier_of new (of_tracks rs (tracks_of (drop z s))) ≡ earlier_of found (of_tracks rs (tracks_of s))
  unfolding of_tracks
  found_here b next new h f g d q = rw (tracks_here s z e h f, ← g, ← d, q) (earlier_assoc found next _)

  pub found_next : (new : ℕ) → 8 ≤ z → (u32_at s 4 ≡ trak → ⊥) → new ≡ found
      → earlier_of new (of_tracks rs (tracks_of (drop z s))) ≡ earlier_of found (of_tracks rs (tracks_of s))
  found_next new h f q = rw (tracks_next s z e h f, q)
