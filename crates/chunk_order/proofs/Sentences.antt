-- The eighth rule as a sentence.
-- Assumes nothing.
use Prim.Native.Nat.{ℕ, zero, suc, ◌+◌, ◌<◌}
use mathlib.Core.Path.{◌≡◌, refl}
use mathlib.Core.Bool.{true}
use mathlib.Core.List.{List, [], ◌∷◌}
use native.Mathlib.Omega.{arith}
use borrow.Author.Tests.{ltb-true, leb-true, lt-ltb, le-leb}
use lib.Dec.{ltb, leb}
use lib.ListN.{length}
use Rattle.lists.proofs.Booleans.{and_both}
use Rattle.chunk_order.specs.Order.{Extent, follows, in_order}
use Rattle.chunk_order.specs.Sentences.{Rising, RisingExactly}

order_rises : (es : List Extent) → in_order es ≡ true → (k : ℕ) → suc k < length es → Rising es k
order_rises [] e k h = absurd (omega arith)
order_rises (a ∷ []) e k h = absurd (omega arith)
order_rises (a ∷ (b ∷ es)) e zero h =
    let t = and_both (follows a b) (in_order (b ∷ es)) e in
    let u = and_both (ltb a.offset b.offset) (leb (a.offset + a.bytes) b.offset) t.0 in
    record { past = ltb-true a.offset b.offset u.0; no_overlap = leb-true (a.offset + a.bytes) b.offset u.1 }
order_rises (a ∷ (b ∷ es)) e (suc k) h =
    let r = order_rises (b ∷ es) (and_both (follows a b) (in_order (b ∷ es)) e).1 k (omega arith) in
    record { past = r.past; no_overlap = r.no_overlap }

rises_order : (es : List Extent) → ((k : ℕ) → suc k < length es → Rising es k) → in_order es ≡ true
rises_order [] f = refl
rises_order (a ∷ []) f = refl
rises_order (a ∷ (b ∷ es)) f =
    let r = f 0 (omega arith) in
    rw (lt-ltb a.offset b.offset r.past, le-leb (a.offset + a.bytes) b.offset r.no_overlap)
    (rises_order (b ∷ es) (λ k h. let q = f (suc k) (omega arith) in record { past = q.past; no_overlap = q.no_overlap }))

pub rising_exactly : (es : List Extent) → RisingExactly es
rising_exactly es = record { rises = order_rises es; kept = rises_order es }
