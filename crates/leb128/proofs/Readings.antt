-- Laws of a number at a place: what the bytes there say of it, and one turn of the loop that reads it, group by group. The loop keeps `Joining`: the
-- number is what its first groups count, joined to what is read past them.
-- Assumes nothing.
use mathlib.Core.Path.{◌≡◌, refl, ap, sym, subst, ◌∙◌}
use mathlib.Core.Bool.{Bool, true, false, cond}
use mathlib.Core.List.{List}
use Prim.Native.Nat.{ℕ, zero, suc, ◌+◌, ◌-◌, ◌*◌, ◌<◌, ◌≤◌, ◌^◌}
use native.Mathlib.Omega.{arith}
use native.Mathlib.Nat.{mul-add, mul_assoc, mul-le-mul_left}
use native.Mathlib.Numerals.{add-one}
use lib.Dec.{eqb, lit<, lit≤}
use lib.ListN.{length, drop, get_or, drop_of_length-le, length-drop, length-append}
use lib.Seq.{drop-cons, get_or-drop}
use borrow.Author.Tests.{eqb-false, lt-ltb, le-ltb, eq-eqb, ne_eqb}
use Rattle.leb128.specs.Numbers.{groups_in}
use Rattle.leb128.specs.Reading.{limit, Reading, good, broken, short, after, number, read_of, read_at, more_of, top_of, NumberRead, found}
use Rattle.leb128.specs.Joining.{joined}
use Rattle.std.specs.Prelude.{Ok, Err}
use Rattle.leb128.specs.declared.number.Number.{Number}
use Rattle.leb128.specs.declared.number.NumberFault.TheVariants.{Broken, Short}
use Rattle.leb128.proofs.Groups.{Written, number_written, number_groups, groups_some, limit_pred, limit32, limit64}
use Rattle.leb128.proofs.Cuts.{small_ten}

module _ (top : ℕ) (bs : List ℕ) (at : ℕ) where
  pub read_end : (k : ℕ) → length bs ≤ at → read_at k top bs at ≡ Err (Short (length bs))
  unfolding read_at read_of number
  read_end k h = rw (drop_of_length-le bs h)

  pub read_last : (b k : ℕ) → at < length bs → get_or bs at 0 ≡ b → k ≡ 0 → b < top → read_at k top bs at ≡ found b (at + 1)
  unfolding read_at read_of number
  read_last b k h e z l = rw (z, drop-cons bs at 0 h, e, lt-ltb b top l)

  pub read_last_broken : (b k : ℕ) → at < length bs → get_or bs at 0 ≡ b → k ≡ 0 → top ≤ b → read_at k top bs at ≡ Err (Broken at)
  unfolding read_at read_of number
  read_last_broken b k h e z l = rw (z, drop-cons bs at 0 h, e, le-ltb b top l)

  pub read_one : (b k : ℕ) → at < length bs → get_or bs at 0 ≡ b → (k ≡ 0 → ⊥) → b < 128 → read_at k top bs at ≡ found b (at + 1)
  unfolding read_at read_of number
  read_one b k h e ne l = let s : k ≡ suc (k - 1) = omega arith in rw (s, drop-cons bs at 0 h, e, lt-ltb b 128 l)

-- the group b at the place at, before what stands past it
unfoldable pub after_read : ℕ → ℕ → NumberRead → NumberRead
after_read b at (Ok got) = cond (eqb got.value 0) (Err (Broken at)) (found (b - 128 + 128 * got.value) got.next)
after_read b at (Err (Broken p)) = Err (Broken at)
after_read b at (Err (Short end)) = Err (Short end)

after-read : (b end at : ℕ) (r : Reading) → read_of end at (after b r) ≡ after_read b at (read_of end (at + 1) r)
unfolding read_of after after_read
after-read b end at (good m len) = go (eqb m 0)
  where
    go : (f : Bool) → read_of end at (cond f broken (good (b - 128 + 128 * m) (suc len))) ≡ cond f (Err (Broken at)) (found (b - 128 + 128 * m) (at + 1 + len))
    go true = refl
    go false = let e : at + suc len ≡ at + 1 + len = omega arith in ap (found (b - 128 + 128 * m)) e
after-read b end at broken = refl
after-read b end at short = refl

pub read_step : (top : ℕ) (bs : List ℕ) (at b k : ℕ) → at < length bs → get_or bs at 0 ≡ b → 128 ≤ b → read_at (suc k) top bs at ≡ after_read b at (read_at k top bs (at + 1))
unfolding read_at number
read_step top bs at b k h e l = rw (drop-cons bs at 0 h, e, le-ltb b 128 l, after-read b (length bs) at, add-one)

joined_none : (end at : ℕ) (r : Reading) → read_of end at r ≡ joined at true 0 1 (read_of end at r)
unfolding read_of joined
joined_none end at (good n len) = let e : n ≡ 0 + 1 * n = omega arith in ap (λ (x : ℕ). found x (at + len)) e
joined_none end at broken = refl
joined_none end at short = refl

-- one group more before what is read past it
joined_turn : (at p low unit b : ℕ) (first : Bool) (r : NumberRead) → joined at first low unit (after_read b p r) ≡ joined at false (low + unit * (b - 128)) (unit * 128) r
unfolding joined after_read
joined_turn at p low unit b first (Ok got) = go (eqb got.value 0) refl
  where
    sum : low + unit * (b - 128 + 128 * got.value) ≡ low + unit * (b - 128) + unit * 128 * got.value
    sum = omega (arith, mul-add unit (b - 128) (128 * got.value), mul_assoc unit 128 got.value)

    some : (f : Bool) → (got.value ≡ 0 → ⊥) → cond f (found (low + unit * (b - 128 + 128 * got.value)) got.next) (cond (eqb (b - 128 + 128 * got.value) 0) (Err (Broken at)) (found (low + unit * (b - 128 + 128 * got.value)) got.next)) ≡ found (low + unit * (b - 128) + unit * 128 * got.value) got.next
    some true ne = ap (λ (x : ℕ). found x got.next) sum
    some false ne = rw (ne_eqb (b - 128 + 128 * got.value) 0 (λ e. omega arith), sum)

    go : (f : Bool) → eqb got.value 0 ≡ f → joined at first low unit (cond f (Err (Broken p)) (found (b - 128 + 128 * got.value) got.next)) ≡ cond f (Err (Broken at)) (found (low + unit * (b - 128) + unit * 128 * got.value) got.next)
    go true f = refl
    go false f = some first (eqb-false got.value 0 f)
joined_turn at p low unit b first (Err (Broken q)) = refl
joined_turn at p low unit b first (Err (Short q)) = refl

-- the loop that reads the number at a place: p is the next group's place, the groups before it count low, 1 counts unit there, and rest groups more may follow
pub record Joining (k top : ℕ) (bs : List ℕ) (at p low unit rest : ℕ) : Type 0 where
  pub whole : read_at k top bs at ≡ joined at (eqb p at) low unit (read_at rest top bs p)
  pub under : low < unit
  pub units : unit * limit rest top ≡ limit k top
  pub from : at ≤ p

pub joining_start : (k top : ℕ) (bs : List ℕ) (at : ℕ) → Joining k top bs at at 0 1 k
unfolding read_at
joining_start k top bs at =
    record {
      whole = rw (eq-eqb at at refl) (joined_none (length bs) at (number k top (drop at bs)));
      under = omega arith;
      units = omega arith;
      from = omega arith;
    }

limit_over : (k top : ℕ) → 1 < top → 1 < limit k top
unfolding limit
limit_over zero top h = h
limit_over (suc k) top h = omega (arith, limit_over k top h)

module _ (k top : ℕ) (bs : List ℕ) (at p low unit rest : ℕ) (j : Joining k top bs at p low unit rest) where
  pub joining_short : length bs ≤ p → read_at k top bs at ≡ Err (Short (length bs))
  unfolding joined
  joining_short h = j.whole ∙ ap (joined at (eqb p at) low unit) (read_end top bs p rest h)

  pub joining_broken : (b : ℕ) → p < length bs → get_or bs p 0 ≡ b → rest ≡ 0 → top ≤ b → read_at k top bs at ≡ Err (Broken at)
  unfolding joined
  joining_broken b h e z l = j.whole ∙ ap (joined at (eqb p at) low unit) (read_last_broken top bs p b rest h e z l)

  pub joining_last : (b : ℕ) → p < length bs → get_or bs p 0 ≡ b → rest ≡ 0 → b < top → read_at k top bs at ≡ joined at (eqb p at) low unit (found b (p + 1))
  joining_last b h e z l = j.whole ∙ ap (joined at (eqb p at) low unit) (read_last top bs p b rest h e z l)

  pub joining_one : (b : ℕ) → p < length bs → get_or bs p 0 ≡ b → (rest ≡ 0 → ⊥) → b < 128 → read_at k top bs at ≡ joined at (eqb p at) low unit (found b (p + 1))
  joining_one b h e ne l = j.whole ∙ ap (joined at (eqb p at) low unit) (read_one top bs p b rest h e ne l)

  -- what the groups count fits in 64 bits, with a last group, with one more before others, and so does the next unit
  fits : (b : ℕ) → b < limit rest top → limit k top ≤ 2 ^ 64 → low + unit * b < 2 ^ 64
  fits b l w =
      let m : unit * (b + 1) ≤ unit * limit rest top = mul-le-mul_left unit (omega arith) in
      omega (arith, m, mul-add unit b 1, j.units, j.under)

  pub joining_last_fits : (b : ℕ) → rest ≡ 0 → b < top → limit k top ≤ 2 ^ 64 → low + unit * b < 2 ^ 64
  unfolding limit
  joining_last_fits b z l w = fits b (rw z l) w

  pub joining_fits : (b : ℕ) → (rest ≡ 0 → ⊥) → 1 < top → b < 128 → limit k top ≤ 2 ^ 64 → low + unit * b < 2 ^ 64
  joining_fits b ne h l w = fits b (omega (arith, limit_pred rest top ne, limit_over (rest - 1) top h)) w

  pub joining_unit : (rest ≡ 0 → ⊥) → 1 < top → limit k top ≤ 2 ^ 64 → unit * 128 < 2 ^ 64
  joining_unit ne h w =
      let l : limit rest top ≡ 128 * limit (rest - 1) top = limit_pred rest top ne in
      let m : unit * 256 ≤ unit * limit rest top = mul-le-mul_left unit (omega (arith, l, limit_over (rest - 1) top h)) in
      omega (arith, m, j.units)

  pub joining_turn : (b : ℕ) → p < length bs → get_or bs p 0 ≡ b → (rest ≡ 0 → ⊥) → 128 ≤ b → b < 256 → Joining k top bs at (p + 1) (low + unit * (b - 128)) (unit * 128) (rest - 1)
  joining_turn b h e ne l m =
      let s : rest ≡ suc (rest - 1) = omega arith in
      let more : read_at rest top bs p ≡ after_read b p (read_at (rest - 1) top bs (p + 1)) = ap (λ (x : ℕ). read_at x top bs p) s ∙ read_step top bs p b (rest - 1) h e l in
      let part : unit * (b - 128) ≤ unit * 127 = mul-le-mul_left unit (omega arith) in
      record {
        whole = rw (ne_eqb (p + 1) at (λ z. omega (arith, j.from))) (j.whole ∙ ap (joined at (eqb p at) low unit) more ∙ joined_turn at p low unit b (eqb p at) (read_at (rest - 1) top bs (p + 1)));
        under = omega (arith, part, j.under);
        units = mul_assoc unit 128 (limit (rest - 1) top) ∙ ap (λ (x : ℕ). unit * x) (sym (limit_pred rest top ne)) ∙ j.units;
        from = omega (arith, j.from);
      }

-- a number that was read, by its value and the place past it
pub found_same : (n next m past : ℕ) → found n next ≡ found m past → (n ≡ m) × (next ≡ past)
found_same n next m past e =
    let same : ◌≡◌ {A = Number} (record { value = n; next = next }) (record { value = m; next = past }) = cc in
    (ap (λ (x : Number). x.value) same, ap (λ (x : Number). x.next) same)

-- a good number is a good reading
pub read_good : (top : ℕ) (bs : List ℕ) (at k m next : ℕ) → read_at k top bs at ≡ found m next → (len : ℕ) × (number k top (drop at bs) ≡ good m len) × (next ≡ at + len)
unfolding read_at read_of
read_good top bs at k m next e = go (number k top (drop at bs)) refl e
  where
    go : (r : Reading) → number k top (drop at bs) ≡ r → read_of (length bs) at r ≡ found m next → (len : ℕ) × (number k top (drop at bs) ≡ good m len) × (next ≡ at + len)
    go (good n len) f e' = let s = found_same n (at + len) m next e' in (len, f ∙ ap (λ (x : ℕ). good x len) s.0, sym s.1)
    go broken f e' = absurd (let z : ◌≡◌ {A = ℕ} 0 1 = cc in omega arith)
    go short f e' = absurd (let z : ◌≡◌ {A = ℕ} 0 1 = cc in omega arith)

-- a good number, by its groups
pub read_written : (top : ℕ) (bs : List ℕ) (at k m next : ℕ) → 0 < top → top ≤ 128 → ((i : ℕ) → get_or bs i 0 < 256) → read_at k top bs at ≡ found m next → Written k top k (drop at bs) m (next - at)
read_written top bs at k m next p t are e =
    let r = read_good top bs at k m next e in
    let same : r.0 ≡ next - at = omega (arith, r.2) in
    subst (λ (x : ℕ). Written k top k (drop at bs) m x) same
    (number_written k top k (drop at bs) m r.0 p t (omega arith) (λ i. rw (get_or-drop at bs i 0) (are (at + i))) r.1)

-- a good number takes a byte at least, and ends within the bytes
pub read_next : (top : ℕ) (bs : List ℕ) (at k m next : ℕ) → 0 < top → top ≤ 128 → ((i : ℕ) → get_or bs i 0 < 256) → read_at k top bs at ≡ found m next → (at < next) × (next ≤ length bs)
read_next top bs at k m next p t are e =
    let w = read_written top bs at k m next p t are e in
    omega (arith, w.count, groups_some k m, ap length w.bytes, length-append (groups_in k m) (drop (next - at) (drop at bs)), length-drop at bs, (read_good top bs at k m next e).2)

-- a number that is good is good by wider limits too
pub read_wider : (k top k' top' : ℕ) (bs : List ℕ) (at : ℕ) → 0 < top → top ≤ 128 → k ≤ 9 → top' ≤ 128 → limit k top ≤ limit k' top' → limit k top ≤ 2 ^ 64 → ((i : ℕ) → get_or bs i 0 < 256)
    → (n next : ℕ) → read_at k top bs at ≡ found n next → read_at k' top' bs at ≡ found n next
unfolding read_at read_of
read_wider k top k' top' bs at p t nine t' l w are n next e =
    let r = read_good top bs at k n next e in
    let v = number_written k top 9 (drop at bs) n r.0 p t nine (λ i. rw (get_or-drop at bs i 0) (are (at + i))) r.1 in
    let g : number k' top' (drop at bs) ≡ good n r.0 =
    ap (number k' top') v.bytes ∙ number_groups k' top' 9 n (drop r.0 (drop at bs)) t' (omega (arith, v.below)) (small_ten n (omega (arith, v.below))) ∙ ap (good n) (sym v.count) in
    ap (read_of (length bs) at) g ∙ ap (found n) (sym r.2)

-- the two widths: what their limits keep to
pub record Width (k top : ℕ) : Type 0 where
  pub some : 0 < top
  pub seven : top ≤ 128
  pub ten : k ≤ 9
  pub fits : limit k top ≤ 2 ^ 64

pub width : (wide : Bool) → Width (more_of wide) (top_of wide)
width true = record { some = lit< tt; seven = lit≤ tt; ten = lit≤ tt; fits = omega (arith, limit64) }
width false = record { some = lit< tt; seven = lit≤ tt; ten = lit≤ tt; fits = omega (arith, limit32) }
