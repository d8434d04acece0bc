-- `shape::own_refusal` meets its contract: the tests that led to a return say which rows do not hold.
-- Assumes nothing.
use Prim.Native.Nat.{ℕ}
use mathlib.Core.Path.{◌≡◌, refl, sym, ap, ◌∙◌}
use mathlib.Core.List.{List}
use mathlib.Core.Bool.{Bool, true, false, not, ◌&&◌, ◌||◌}
use lib.ListN.{length}
use lib.Dec.{ltb}
use Rattle.bigendian.specs.BigEndian.{u32_at}
use Rattle.structure.specs.Movie.{movie_profile, tracks_of}
use Rattle.limits.specs.Limits.{too_many}
use Rattle.structure.specs.Rows.{first}
use Rattle.leaf_checks.specs.LeafChecks.{profile_ok, wrong_version, wrong_size}
use Rattle.shape.specs.MovieRows.{sized_movie, versioned_movie, movie_rows}
use Rattle.presence.proofs.And.{both_are}
use Rattle.shape.proofs.own_refusal.Goals as goal

version_is : (wide : Bool) (m : List ℕ) (v : Bool) → v ≡ versioned_movie wide m → wrong_version wide m ≡ not v
unfolding wrong_version
version_is wide m v e = rw e

not_both : (a b : Bool) → (not a || not b) ≡ not (a && b)
not_both true b = refl
not_both false b = refl

size_is : (wide : Bool) (m : List ℕ) (x y r : Bool) → r ≡ (x && y) → x ≡ sized_movie wide m → y ≡ profile_ok (movie_profile m) → wrong_size wide m ≡ not r
unfolding wrong_size
size_is wide m x y r h e f = not_both (sized_movie wide m) (profile_ok (movie_profile m)) ∙ ap not (sym (both_are h e f))

too_many_is : (m profile : List ℕ) (n : ℕ) (r : Bool) → r ≡ (ltb 16 n || ltb 64 (u32_at profile 12)) → profile ≡ movie_profile m → ltb 16 n ≡ ltb 16 (length (tracks_of m))
    → r ≡ too_many m
unfolding too_many
too_many_is m profile n r e p q = e ∙ rw (p, q)

pub returns-then-not-versions : goal.returns-then-not-versions
unfolding movie_rows first
returns-then-not-versions c = simp (version_is c.args.wide _ _ c.requires.0, c.if-not-versions.true)

pub is_profile_sized-requires : goal.is_profile_sized-requires
is_profile_sized-requires c = tt

pub both-requires : goal.both-requires
both-requires c = tt

pub returns-then-not-both : goal.returns-then-not-both
unfolding movie_rows first
returns-then-not-both c = simp (version_is c.args.wide _ _ c.requires.0, c.if-not-versions.false, size_is c.args.wide _ _ _ _ c.both.ensures c.requires.1 (c.is_profile_sized.ensures ∙ ap profile_ok c.requires.2), c.if-not-both.true)

pub is_too_many-requires : goal.is_too_many-requires
is_too_many-requires c = tt

pub returns-then-is_too_many : goal.returns-then-is_too_many
unfolding movie_rows first
returns-then-is_too_many c = simp (version_is c.args.wide _ _ c.requires.0, c.if-not-versions.false, size_is c.args.wide _ _ _ _ c.both.ensures c.requires.1 (c.is_profile_sized.ensures ∙ ap profile_ok c.requires.2), c.if-not-both.false, ← too_many_is c.args.moov.now c.args.profile.now c.args.tracks _ c.is_too_many.ensures c.requires.2 c.requires.3, c.if-is_too_many.true)

pub returns : goal.returns
unfolding movie_rows first
returns c = simp (version_is c.args.wide _ _ c.requires.0, c.if-not-versions.false, size_is c.args.wide _ _ _ _ c.both.ensures c.requires.1 (c.is_profile_sized.ensures ∙ ap profile_ok c.requires.2), c.if-not-both.false, ← too_many_is c.args.moov.now c.args.profile.now c.args.tracks _ c.is_too_many.ensures c.requires.2 c.requires.3, c.if-is_too_many.false)
