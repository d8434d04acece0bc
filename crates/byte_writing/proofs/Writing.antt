-- Bytes written one after the other from an offset on.
-- Assumes nothing.
use Prim.Native.Nat.{ℕ, suc, ◌+◌, ◌<◌, ◌≤◌}
use mathlib.Core.Path.{◌≡◌, refl, sym, ap, ◌∙◌}
use mathlib.Core.List.{List, [], ◌∷◌, ◌++◌}
use native.Mathlib.Omega.{arith}
use lib.ListN.{length, take, drop, set, length-append}
use Rattle.std.proofs.Common.{append_assoc}
use lib.Seq.{sets, sets-eq, length-sets, set_comm, drop-drop}
use borrow.Rule.Slice.PartMut.{put_mid}
use Rattle.lists.proofs.Stores.{sets_append}
use Rattle.byte_writing.specs.Bytes.{be32}

pub be32_length : (n : ℕ) → length (be32 n) ≡ 4
unfolding be32
be32_length n = refl

-- a part of the output, written at once
pub part_written : (out xs ys : List ℕ) (at k : ℕ) → at + length xs ≤ length out → k ≡ length xs → ys ≡ xs → put_mid at k out ys ≡ sets out at xs
part_written out xs ys at k h e d = rw (d, e, drop-drop (length xs) at out) (sym (sets-eq xs out at h ∙ append_assoc (take at out) xs (drop (at + length xs) out)))

-- the state of a loop that writes: out is written up to k, `rest` is still to be, up to the place `end`, and out is then `goal`
pub record Storing (goal out₀ : List ℕ) (end : ℕ) (out : List ℕ) (k : ℕ) (rest : List ℕ) : Type 0 where
  pub room : k + length rest ≤ length out
  pub same : length out ≡ length out₀
  pub count : k + length rest ≡ end
  pub stored : sets out k rest ≡ goal

pub storing_start : (out : List ℕ) (k : ℕ) (rest : List ℕ) → k + length rest ≤ length out → Storing (sets out k rest) out (k + length rest) out k rest
storing_start out k rest h = record { room = h; same = refl; count = refl; stored = refl }

module _ {goal out₀ : List ℕ} {end : ℕ} {out : List ℕ} {k : ℕ} {rest : List ℕ} (w : Storing goal out₀ end out k rest) where
  pub storing_end : rest ≡ [] → (k ≡ end) × (out ≡ goal)
  storing_end e = (omega (arith, w.count, ap length e), rw e at w.stored)

  pub storing_same : (y : List ℕ) → rest ≡ y → Storing goal out₀ end out k y
  storing_same y e = rw e at w

  module _ (x y : List ℕ) (e : rest ≡ x ++ y) where
    pub storing_room : k + length x ≤ length out
    storing_room = omega (arith, w.room, ap length e, length-append x y)

    pub storing_next : (out' : List ℕ) (r : ℕ) → r ≡ k + length x → out' ≡ sets out k x → Storing goal out₀ end out' r y
    storing_next out' r c d =
        let l : length rest ≡ length x + length y = ap length e ∙ length-append x y in
        let q : length out' ≡ length out = ap length d ∙ length-sets out k x in
        let s : sets out k (x ++ y) ≡ goal = rw e at w.stored in
        record {
          room = omega (arith, w.room, l, q, c);
          same = q ∙ w.same;
          count = omega (arith, w.count, l, c);
          stored = rw (d, c) (sym (sets_append out k x y) ∙ s);
        }

-- two parts, one after the other
pub two_writes : (x y out out₁ out₂ : List ℕ) (k b r : ℕ) → b ≡ k + length x → out₁ ≡ sets out k x → r ≡ b + length y → out₂ ≡ sets out₁ b y
    → (r ≡ k + length (x ++ y)) × (out₂ ≡ sets out k (x ++ y))
two_writes x y out out₁ out₂ k b r f d g e = (omega (arith, length-append x y), rw (e, d, f) (sym (sets_append out k x y)))

-- a part stored before one that stands further on
set_before : (l : List ℕ) (i j a : ℕ) (ys : List ℕ) → i < j → set (sets l j ys) i a ≡ sets (set l i a) j ys
set_before l i j a [] h = refl
set_before l i j a (y ∷ ys) h = set_before (set l j y) i (suc j) a ys (omega arith) ∙ ap (λ x. sets x (suc j) ys) (set_comm l j i y a (λ e. omega arith))

pub sets_before : (l : List ℕ) (i j : ℕ) (xs ys : List ℕ) → i + length xs ≤ j → sets (sets l j ys) i xs ≡ sets (sets l i xs) j ys
sets_before l i j [] ys h = refl
sets_before l i j (x ∷ xs) ys h = ap (λ z. sets z (suc i) xs) (set_before l i j x ys (omega arith)) ∙ sets_before (set l i x) (suc i) j xs ys (omega arith)

-- the head of a table stored after its entries
pub head_last : (l l₁ l₂ : List ℕ) (i j : ℕ) (xs ys : List ℕ) → j ≡ i + length xs → l₁ ≡ sets l j ys → l₂ ≡ sets l₁ i xs → l₂ ≡ sets l i (xs ++ ys)
head_last l l₁ l₂ i j xs ys h d e = e ∙ rw (d, h) (sets_before l i (i + length xs) xs ys (omega arith) ∙ sym (sets_append l i xs ys))
