-- What a step says, from what the walk knows at its place.
-- Assumes nothing.
use Prim.Native.Nat.{ℕ, ◌+◌, ◌-◌, ◌≤◌, ◌<◌}
use mathlib.Core.Path.{◌≡◌}
use mathlib.Core.List.{List}
use borrow.Author.Tests.{lt-ltb, le-ltb, le-leb, lt-leb, eq-eqb, ne_eqb}
use Rattle.bigendian.specs.BigEndian.{u32_at}
use Rattle.atoms.specs.Kinds.{moov}
use Rattle.top_level.specs.declared.Walk.{Walk}
use Rattle.top_level.specs.declared.Next.{Next}
use Rattle.top_level.specs.declared.Next.TheVariants.{Read, Refused}
use Rattle.top_level.specs.Steps.{size_ahead, one_more, past, ended, stepped}

module _ (z k : ℕ) (w : Walk) where
  pub past_moov : k ≡ moov → past z k w ≡ record { length = w.length; place = w.place + z; moovs = one_more w.moovs; at = w.place; size = z }
  unfolding past
  past_moov e = rw (eq-eqb k moov e)

  pub past_other : (k ≡ moov → ⊥) → past z k w ≡ record { length = w.length; place = w.place + z; moovs = w.moovs; at = w.at; size = w.size }
  unfolding past
  past_other n = rw (ne_eqb k moov n)

module _ (h : List ℕ) (w : Walk) where
  pub step_long : 9223372036854775807 < w.length → stepped h w ≡ Refused 1
  unfolding stepped
  step_long g = rw (lt-ltb 9223372036854775807 w.length g)

  module _ (g : w.length ≤ 9223372036854775807) where
    pub step_end : w.length ≤ w.place → stepped h w ≡ ended w
    unfolding stepped
    step_end e = rw (le-ltb 9223372036854775807 w.length g, le-leb w.length w.place e)

    module _ (z : ℕ) (e : z ≡ size_ahead (w.length - w.place) h) (p : w.place < w.length) where
      pub step_stop : z ≡ 0 → stepped h w ≡ Refused 2
      unfolding stepped
      step_stop n = rw (le-ltb 9223372036854775807 w.length g, lt-leb w.length w.place p, ← e, eq-eqb z 0 n)

      pub step_on : (z ≡ 0 → ⊥) → stepped h w ≡ Read (past z (u32_at h 4) w)
      unfolding stepped
      step_on n = rw (le-ltb 9223372036854775807 w.length g, lt-leb w.length w.place p, ← e, ne_eqb z 0 n)
