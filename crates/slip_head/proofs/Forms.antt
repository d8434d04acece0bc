-- Which form numbers want: form 1 exactly if each is below 2 ^ 32.
-- Assumes nothing.
use mathlib.Core.Path.{◌≡◌, refl}
use mathlib.Core.Bool.{Bool, true, false, ◌||◌}
use mathlib.Core.List.{List, [], ◌∷◌}
use Prim.Native.Nat.{ℕ, ◌<◌, ◌≤◌, ◌^◌}
use native.Mathlib.Omega.{arith}
use lib.Dec.{leb}
use borrow.Author.Tests.{lt-leb, leb-false}
use Rattle.leb128.specs.Numbers.{writes, Below}
use Rattle.slip_head.specs.Bytes.{after_form, head_numbers, any_wide, slip_bytes, Rules}
use Rattle.slip_head.specs.declared.Head.{Head}
use Rattle.slip_head.proofs.Writes.{slip_form}

pub below_narrow : (ns : List ℕ) → Below (2 ^ 32) ns → any_wide ns ≡ false
unfolding any_wide
below_narrow [] b = refl
below_narrow (n ∷ ns) b = rw (lt-leb (2 ^ 32) n b.0, below_narrow ns b.1)

pub narrow_below : (ns : List ℕ) → any_wide ns ≡ false → Below (2 ^ 32) ns
unfolding any_wide
narrow_below [] e = tt
narrow_below (n ∷ ns) e = go (leb (2 ^ 32) n) refl e (narrow_below ns)
  where
    go : (f : Bool) → leb (2 ^ 32) n ≡ f → (f || any_wide ns) ≡ false → (any_wide ns ≡ false → Below (2 ^ 32) ns) → Below (2 ^ 32) (n ∷ ns)
    go true f e' ih = absurd (let z : ◌≡◌ {A = ℕ} 0 1 = cc in omega arith)
    go false f e' ih = (leb-false (2 ^ 32) n f, ih e')

pub widen : (small large : ℕ) (ns : List ℕ) → small ≤ large → Below small ns → Below large ns
widen small large [] l b = tt
widen small large (n ∷ ns) l b = (omega (arith, b.0), widen small large ns l b.1)

-- the rules at another bound
pub rules_at : (one other : ℕ) (h : Head) (pairs : List ℕ) → Rules one h pairs → Below other (h.id ∷ h.scale ∷ h.a ∷ h.b ∷ pairs) → Rules other h pairs
rules_at one other h pairs r b =
    record { some_id = r.some_id; some_scale = r.some_scale; order = r.order; some_pairs = r.some_pairs; few_pairs = r.few_pairs; all_pairs = r.all_pairs; below = b }

-- with the number of pairs, which is below any bound, among them
pub all_below : (bound : ℕ) (h : Head) (pairs : List ℕ) → 1048576 < bound → Rules bound h pairs → Below bound (after_form h pairs)
all_below bound h pairs w r =
    let l = r.below in
    (l.0, (l.1.0, (l.1.1.0, (l.1.1.1.0, (omega (arith, r.few_pairs), l.1.1.1.1)))))

pub but_count : (bound : ℕ) (h : Head) (pairs : List ℕ) → Below bound (after_form h pairs) → Below bound (h.id ∷ h.scale ∷ h.a ∷ h.b ∷ pairs)
but_count bound h pairs l = (l.0, (l.1.0, (l.1.1.0, (l.1.1.1.0, l.1.1.1.1.1))))

-- numbers below 2 ^ 32 are written in form 1
pub slip_narrow : (h : Head) (pairs : List ℕ) → Below (2 ^ 32) (after_form h pairs) → slip_bytes h pairs ≡ writes (head_numbers 1 h pairs)
slip_narrow h pairs b = slip_form h pairs false (below_narrow (after_form h pairs) b)
