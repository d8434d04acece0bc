-- Laws of a step at a cursor: where the cursor is after what was read.
-- Assumes nothing.
use mathlib.Core.Path.{◌≡◌, refl, ap, ◌∙◌}
use mathlib.Core.Bool.{Bool, true, false, cond}
use Prim.Native.Nat.{ℕ, ◌+◌, ◌-◌, ◌<◌, ◌≤◌, ◌^◌, min}
use native.Mathlib.Omega.{arith}
use lib.Dec.{ltb}
use borrow.Author.Tests.{lt-ltb, ltb-true, ltb-false}
use Rattle.std.specs.Prelude.{Ok, Err}
use Rattle.leb128.specs.Reading.{NumberRead}
use Rattle.leb128.specs.declared.number.Number.{Number}
use Rattle.leb128.specs.declared.number.NumberFault.{NumberFault}
use Rattle.number_cursor.specs.Cursors.{counted_up, moved_by}
use Rattle.number_cursor.specs.declared.Cursor.{Cursor}

-- past a good number
pub moved_past : (c : Cursor) (r : NumberRead) (n : Number) → r ≡ Ok n → moved_by r c ≡ record { at = n.next; count = counted_up c.count; wide = c.wide }
unfolding moved_by
moved_past c r n e = ap (λ (x : NumberRead). moved_by x c) e

-- it stays where there is none
pub moved_none : (c : Cursor) (r : NumberRead) (f : NumberFault) → r ≡ Err f → moved_by r c ≡ c
unfolding moved_by
moved_none c r f e = ap (λ (x : NumberRead). moved_by x c) e

-- a step that read a good number: where its cursor is
pub step_moved : (c d : Cursor) (r : NumberRead) (n : Number) → d ≡ moved_by r c → r ≡ Ok n → (d.at ≡ n.next) × (d.count ≡ counted_up c.count) × (d.wide ≡ c.wide)
step_moved c d r n m e =
    let same = m ∙ moved_past c r n e in
    (ap (λ (x : Cursor). x.at) same, ap (λ (x : Cursor). x.count) same, ap (λ (x : Cursor). x.wide) same)

-- below the largest count one is added
pub counted_one : (n : ℕ) → n < 2 ^ 64 - 1 → counted_up n ≡ n + 1
unfolding counted_up
counted_one n h = rw (lt-ltb n (2 ^ 64 - 1) h)

-- one is added as far as 64 bits go
pub counted_min : (n : ℕ) → n < 2 ^ 64 → min (n + 1) (2 ^ 64 - 1) ≡ counted_up n
unfolding counted_up
counted_min n h = go (ltb n (2 ^ 64 - 1)) refl
  where
    go : (f : Bool) → ltb n (2 ^ 64 - 1) ≡ f → min (n + 1) (2 ^ 64 - 1) ≡ cond f (n + 1) n
    go true f = let l : n < 2 ^ 64 - 1 = ltb-true n (2 ^ 64 - 1) f in omega arith
    go false f = let l : 2 ^ 64 - 1 ≤ n = ltb-false n (2 ^ 64 - 1) f in omega arith
