-- `bigendian::number_at` meets its contract: it goes as the definition does, one byte less at each call.
-- Assumes nothing.
use Rattle.std.proofs.Common.{arith, ℕ, ◌+◌, ◌*◌, ◌^◌, ◌<◌, ◌≤◌, ◌≡◌, List, sym, ap}
use native.Mathlib.Nat.{pow-le-pow_right}
use lib.ListN.{get_or}
use Rattle.bigendian.specs.BigEndian.{be_at}
use Rattle.bigendian.proofs.Laws.{be_at_below, be_at_past, be_at_last}
use Rattle.bigendian.proofs.+number_at.Goals as goal

-- the number fits 64 bits
room : (s : List ℕ) (at width : ℕ) → ((i : ℕ) → get_or s i 0 < 256) → width ≤ 8 → be_at width s at < 256 ^ 8
room s at width b h = omega (arith, be_at_below width s at b, pow-le-pow_right {n = 256} (omega arith) {j = 8} h)

pub returns-then-s-at : goal.returns-then-s-at
returns-then-s-at t c =
    let a = c.args in
    let e : 0 ≡ be_at a.width a.s.now a.at = sym (be_at_past _ _ _ c.if-s-at.true) in
    record { is = e; fits = omega (arith, e, be_at_below a.width a.s.now a.at (λ i. (c.type_inv.s i).fits)) }

pub returns-then-width-eq0 : goal.returns-then-width-eq0
unfolding be_at
returns-then-width-eq0 t c =
    let a = c.args in
    let e : 0 ≡ be_at a.width a.s.now a.at = ap (λ (n : ℕ). be_at n a.s.now a.at) (sym c.if-width-eq0.true) in
    record { is = e; fits = omega (arith, e, be_at_below a.width a.s.now a.at (λ i. (c.type_inv.s i).fits)) }

pub overflow_mul-result : goal.overflow_mul-result
overflow_mul-result t c =
    let a = c.args in
    record { fits = omega (arith, room a.s.now a.at a.width (λ i. (c.type_inv.s i).fits) c.requires, be_at_last a.width a.s.now a.at (omega arith), c.number_at.ensures.is) }

pub overflow_add-result : goal.overflow_add-result
overflow_add-result t c =
    let a = c.args in
    record { fits = omega (arith, room a.s.now a.at a.width (λ i. (c.type_inv.s i).fits) c.requires, be_at_last a.width a.s.now a.at (omega arith), c.number_at.ensures.is, c.byte_at.ensures) }

pub returns : goal.returns
returns t c =
    let a = c.args in
    let e : c.number_at.result * 256 + c.byte_at.result ≡ be_at a.width a.s.now a.at = omega (arith, be_at_last a.width a.s.now a.at (omega arith), c.number_at.ensures.is, c.byte_at.ensures) in
    record { is = e; fits = rw e (be_at_below a.width a.s.now a.at (λ i. (c.type_inv.s i).fits)) }
