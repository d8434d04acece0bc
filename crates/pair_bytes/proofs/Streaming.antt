-- The loops that measure and write the pairs' numbers: what is done and what lies ahead make up the whole writing.
-- Assumes nothing.
use Prim.Native.Nat.{ℕ, ◌+◌, ◌^◌, ◌≤◌, ◌<◌}
use mathlib.Core.Path.{◌≡◌, refl, sym, ap, ◌∙◌}
use mathlib.Core.Bool.{Bool, true, false, ◌||◌}
use mathlib.Core.List.{List, [], ◌∷◌, ◌++◌}
use native.Mathlib.Omega.{arith}
use borrow.Author.Tests.{le-leb, lt-leb}
use lib.ListN.{length, length-append}
use lib.Seq.{sets, length-sets}
use lib.Dec.{leb}
use Rattle.lists.proofs.Stores.{sets_append}
use Rattle.leb128.specs.Numbers.{groups, writes}
use Rattle.leb128.proofs.Puts.{writes_append}
use Rattle.slip_head.specs.Bytes.{any_wide}
use Rattle.pairs.specs.Pairs.{flat}
use Rattle.pairs.specs.Walks.{Fitting}
use Rattle.pairs.specs.declared.Pair.{Pair}
use Rattle.pairs.proofs.Filling.{flat_append}
use Rattle.pair_bytes.specs.Measures.{pair_bytes, measured_of, Wrote}
use Rattle.pair_bytes.specs.declared.Measured.{Measured}

-- ---- some pairs and the rest

none_bytes : pair_bytes [] ≡ []
unfolding pair_bytes writes
none_bytes = refl

pub bytes_append : (qs l : List Pair) → pair_bytes (qs ++ l) ≡ pair_bytes qs ++ pair_bytes l
unfolding pair_bytes
bytes_append qs l = ap writes (flat_append qs l) ∙ writes_append (flat qs) (flat l)

pub length_bytes : (qs l : List Pair) → length (pair_bytes (qs ++ l)) ≡ length (pair_bytes qs) + length (pair_bytes l)
length_bytes qs l = ap length (bytes_append qs l) ∙ length-append (pair_bytes qs) (pair_bytes l)

or_assoc : (a b c : Bool) → ((a || b) || c) ≡ (a || (b || c))
or_assoc true b c = refl
or_assoc false b c = refl

any_append : (xs ys : List ℕ) → any_wide (xs ++ ys) ≡ (any_wide xs || any_wide ys)
unfolding any_wide
any_append [] ys = refl
any_append (x ∷ xs) ys = ap (λ b. leb (2 ^ 32) x || b) (any_append xs ys) ∙ sym (or_assoc (leb (2 ^ 32) x) (any_wide xs) (any_wide ys))

any_pairs : (qs l : List Pair) → any_wide (flat (qs ++ l)) ≡ (any_wide (flat qs) || any_wide (flat l))
any_pairs qs l = ap any_wide (flat_append qs l) ∙ any_append (flat qs) (flat l)

pub either_first : (n : ℕ) (a b : Bool) → a ≡ true → ◌≡◌ {A = Measured} (record { bytes = n; wide = true }) (record { bytes = n; wide = a || b })
either_first n a b e = λ k. record { bytes = n; wide = ap (λ x. x || b) (sym e) k }

pub either_second : (n : ℕ) (a b : Bool) → a ≡ false → ◌≡◌ {A = Measured} (record { bytes = n; wide = b }) (record { bytes = n; wide = a || b })
either_second n a b e = λ k. record { bytes = n; wide = ap (λ x. x || b) (sym e) k }

-- one pair by itself
one_bytes : (q : Pair) → pair_bytes (q ∷ []) ≡ groups q.offset ++ (groups q.length ++ [])
unfolding pair_bytes writes
one_bytes q = refl

pub one_length : (q : Pair) → length (pair_bytes (q ∷ [])) ≡ length (groups q.offset) + length (groups q.length)
one_length q =
    omega (
      arith,
      ap length (one_bytes q) ∙ length-append (groups q.offset) (groups q.length ++ []),
      length-append (groups q.length) [],
    )

pub one_measured : (q : Pair) (a b : ℕ) (w : Bool) → a ≡ length (groups q.offset) → b ≡ length (groups q.length) → w ≡ any_wide (q.offset ∷ q.length ∷ [])
    → ◌≡◌ {A = Measured} (record { bytes = a + b; wide = w }) (measured_of (q ∷ []))
one_measured q a b w e f g =
    let n : a + b ≡ length (pair_bytes (q ∷ [])) = omega (arith, e, f, one_length q) in
    λ k. record { bytes = n k; wide = g k }

pub wide_first : (q : Pair) → 2 ^ 32 ≤ q.offset → true ≡ any_wide (q.offset ∷ q.length ∷ [])
unfolding any_wide
wide_first q h = rw (le-leb (2 ^ 32) q.offset h)

pub wide_second : (q : Pair) → q.offset < 2 ^ 32 → leb (2 ^ 32) q.length ≡ any_wide (q.offset ∷ q.length ∷ [])
unfolding any_wide
wide_second q h = rw (lt-leb (2 ^ 32) q.offset h) (or_false (leb (2 ^ 32) q.length))
  where
    or_false : (b : Bool) → b ≡ (b || false)
    or_false true = refl
    or_false false = refl

module _ (q : Pair) (out : List ℕ) (at : ℕ) (h : at + length (pair_bytes (q ∷ [])) ≤ length out) where
  pub first_fits : at + length (groups q.offset) ≤ length out
  first_fits = omega (arith, one_length q)

  module _ (m : ℕ) (half : List ℕ) (em : m ≡ at + length (groups q.offset)) (eh : half ≡ sets out at (groups q.offset)) where
    pub second_fits : m + length (groups q.length) ≤ length half
    second_fits = omega (arith, one_length q, ap length eh ∙ length-sets out at (groups q.offset))

    pub one_wrote : (n : ℕ) (last : List ℕ) → n ≡ m + length (groups q.length) → last ≡ sets half m (groups q.length) → Wrote (q ∷ []) out at n last
    one_wrote n last en el =
        let a = groups q.offset in
        let b = groups q.length in
        let two = sets_append out at a (b ++ []) ∙ sets_append (sets out at a) (at + length a) b [] in
        record { ends = omega (arith, one_length q); stored = el ∙ rw (eh, em) (sym (ap (sets out at) (one_bytes q) ∙ two)) }

-- the same pairs
pub once_fits : {l : List Pair} {q : Pair} → l ≡ q ∷ [] → Fitting (2 ^ 64) l → q.offset < 2 ^ 64
once_fits e f = (rw e at f).0

pub same_short : {l m : List Pair} → l ≡ m → length (pair_bytes m) < 2 ^ 64 → length (pair_bytes l) < 2 ^ 64
same_short e h = rw e h

pub same_fit : {l m : List Pair} {places : ℕ} (at : ℕ) → l ≡ m → at + length (pair_bytes m) ≤ places → at + length (pair_bytes l) ≤ places
same_fit at e h = rw e h

pub same_wrote : {l m : List Pair} {out : List ℕ} {at past : ℕ} {after : List ℕ} → l ≡ m → Wrote l out at past after → Wrote m out at past after
same_wrote e w = rw e at w

-- no number of pairs that fit 32 bits is 2 ^ 32 or more
pub none_wide : (l : List Pair) → Fitting (2 ^ 32) l → any_wide (flat l) ≡ false
unfolding any_wide
none_wide [] f = refl
none_wide (q ∷ l) f = rw (lt-leb (2 ^ 32) q.offset f.0, lt-leb (2 ^ 32) q.length f.1) (none_wide l f.2)

-- ---- measured

pub record Measuring (all rest : List Pair) (m : Measured) : Type 0 where
  pub bytes : m.bytes + length (pair_bytes rest) ≡ length (pair_bytes all)
  pub wide : (m.wide || any_wide (flat rest)) ≡ any_wide (flat all)

pub same_rest : {all l r : List Pair} {m : Measured} → l ≡ r → Measuring all l m → Measuring all r m
same_rest e w = rw e at w

pub measuring_start : (all : List Pair) → Measuring all all (record { bytes = 0; wide = false })
measuring_start all = record { bytes = omega arith; wide = refl }

pub measuring_end : {all rest : List Pair} {m : Measured} → Measuring all rest m → rest ≡ [] → m ≡ measured_of all
unfolding any_wide
measuring_end {all} {rest} {m} w e =
    let n : m.bytes ≡ length (pair_bytes all) = omega (arith, w.bytes, ap (λ l. length (pair_bytes l)) e, ap length none_bytes) in
    let v : m.wide ≡ any_wide (flat all) = last m.wide ∙ ap (λ l. m.wide || any_wide (flat l)) (sym e) ∙ w.wide in
    λ k. record { bytes = n k; wide = v k }
  where
    last : (b : Bool) → b ≡ (b || any_wide (flat []))
    last true = refl
    last false = refl

module _ {all rest : List Pair} {m : Measured} (w : Measuring all rest m) (qs l : List Pair) (e : rest ≡ qs ++ l) where
  split : m.bytes + (length (pair_bytes qs) + length (pair_bytes l)) ≡ length (pair_bytes all)
  split = omega (arith, w.bytes, ap (λ r. length (pair_bytes r)) e, length_bytes qs l)

  module _ (h : length (pair_bytes all) < 2 ^ 64) where
    pub measure_next : length (pair_bytes qs) < 2 ^ 64
    measure_next = omega (arith, split)

    pub measure_fits : (d : Measured) → d ≡ measured_of qs → m.bytes + d.bytes < 2 ^ 64
    measure_fits d f = omega (arith, split, ap (λ (x : Measured). x.bytes) f)

  pub measuring_turn : (d n : Measured) → d ≡ measured_of qs → n ≡ record { bytes = m.bytes + d.bytes; wide = m.wide || d.wide } → Measuring all l n
  measuring_turn d n f g = rw g (record {
    bytes = omega (arith, split, ap (λ (x : Measured). x.bytes) f);
    wide = or_assoc m.wide d.wide (any_wide (flat l)) ∙ ap (λ b. m.wide || (b || any_wide (flat l))) (ap (λ (x : Measured). x.wide) f) ∙ ap (λ b. m.wide || b) (sym (any_pairs qs l) ∙ ap (λ r. any_wide (flat r)) (sym e)) ∙ w.wide;
  })

-- ---- written

pub record Writing (all : List Pair) (out₀ : List ℕ) (at : ℕ) (rest : List Pair) (out : List ℕ) (k : ℕ) : Type 0 where
  pub past : k + length (pair_bytes rest) ≡ at + length (pair_bytes all)
  pub same : length out ≡ length out₀
  pub stored : sets out k (pair_bytes rest) ≡ sets out₀ at (pair_bytes all)

pub same_ahead : {all l r : List Pair} {out₀ out : List ℕ} {at k : ℕ} → l ≡ r → Writing all out₀ at l out k → Writing all out₀ at r out k
same_ahead e w = rw e at w

pub writing_start : (all : List Pair) (out : List ℕ) (at : ℕ) → Writing all out at all out at
writing_start all out at = record { past = refl; same = refl; stored = refl }

pub writing_end : {all rest : List Pair} {out₀ out : List ℕ} {at k : ℕ} → Writing all out₀ at rest out k → rest ≡ [] → Wrote all out₀ at k out
writing_end {all} {rest} {out₀} {out} {at} {k} w e =
    let n : pair_bytes rest ≡ [] = ap pair_bytes e ∙ none_bytes in
    record { ends = omega (arith, w.past, ap length n); stored = rw n at w.stored }

module _ {all rest : List Pair} {out₀ out : List ℕ} {at k : ℕ} (w : Writing all out₀ at rest out k) (qs l : List Pair) (e : rest ≡ qs ++ l) where
  parted : k + (length (pair_bytes qs) + length (pair_bytes l)) ≡ at + length (pair_bytes all)
  parted = omega (arith, w.past, ap (λ r. length (pair_bytes r)) e, length_bytes qs l)

  pub write_next : at + length (pair_bytes all) ≤ length out₀ → k + length (pair_bytes qs) ≤ length out
  write_next h = omega (arith, parted, w.same)

  pub writing_turn : (n : ℕ) (new : List ℕ) → Wrote qs out k n new → Writing all out₀ at l new n
  writing_turn n new d =
      let s : length new ≡ length out = ap length d.stored ∙ length-sets out k (pair_bytes qs) in
      record {
        past = omega (arith, parted, d.ends);
        same = s ∙ w.same;
        stored = rw (d.stored, d.ends) (sym (sets_append out k (pair_bytes qs) (pair_bytes l)) ∙ ap (sets out k) (sym (bytes_append qs l) ∙ ap pair_bytes (sym e)) ∙ w.stored);
      }
