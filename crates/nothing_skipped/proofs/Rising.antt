-- A function that rises by at most one meets each number between two of its values, and so, as a place in widths laid end to end, each width that is not 0.
-- Assumes nothing.
use Prim.Native.Nat.{ℕ, zero, suc, ◌+◌, ◌-◌, ◌≤◌, ◌<◌}
use mathlib.Core.Path.{◌≡◌, ap, sym}
use mathlib.Core.List.{List}
use native.Mathlib.Omega.{arith}
use native.Mathlib.Decide.{ℕ_discrete, dec_le}
use lib.ListN.{get_or}
use Rattle.lists.specs.Lists.{sum, before, holder}
use Rattle.lists.proofs.Places.{before_suc, before_mono, holder_holds, holder_only, holder_mono}

-- g has the value x at a number from t to u
pub record Hits (g : ℕ → ℕ) (t u x : ℕ) : Type 0 where
  pub at : ℕ
  pub from : t ≤ at
  pub to : at ≤ u
  pub is : g at ≡ x

module _ (g : ℕ → ℕ) (f : (v : ℕ) → g (suc v) ≤ suc (g v)) where
  hits_by : (n t x : ℕ) → g t ≤ x → x ≤ g (t + n) → Hits g t (t + n) x
  hits_by zero t x h k = let e : t + 0 ≡ t = omega arith in record { at = t; from = omega arith; to = omega arith; is = omega (arith, ap g e) }
  hits_by (suc n) t x h k = elim (dec_le x (g (t + n))) [
    | yes l ↦ let m = hits_by n t x h l in record { at = m.at; from = m.from; to = omega (arith, m.to); is = m.is }
    | no l ↦
        let e : t + suc n ≡ suc (t + n) = omega arith in
        record { at = t + suc n; from = omega arith; to = omega arith; is = omega (arith, ap g e, f (t + n)) }
  ]

  pub hits : (t u x : ℕ) → t ≤ u → g t ≤ x → x ≤ g u → Hits g t u x
  hits t u x o h k =
      let e : t + (u - t) ≡ u = omega arith in
      let m = hits_by (u - t) t x h (omega (arith, ap g e)) in
      record { at = m.at; from = m.from; to = omega (arith, m.to); is = m.is }

  -- each width that is not 0, from the one at g t to the one at g u
  pub hits_widths : (ds : List ℕ) (t u i : ℕ) → t ≤ u → g t ≤ g u → g u < sum ds → holder ds (g t) ≤ i → i ≤ holder ds (g u) → 0 < get_or ds i 0
      → Hits (λ v. holder ds (g v)) t u i
  hits_widths ds t u i o r b h k p = elim (ℕ_discrete (holder ds (g t)) i) [
    | yes e ↦ record { at = t; from = omega arith; to = o; is = e }
    | no e ↦
        let x = before ds i in
        let y = holder_holds ds (g t) (omega arith) in
        let z = holder_holds ds (g u) b in
        let c : g t ≤ x = omega (arith, y.to, before_suc ds (holder ds (g t)), before_mono ds (suc (holder ds (g t))) i (omega arith)) in
        let d : x ≤ g u = omega (arith, z.from, before_mono ds i (holder ds (g u)) k) in
        let m = hits t u x o c d in
        let q : i ≡ holder ds x = holder_only ds x i (record { from = omega arith; to = omega arith }) in
        record { at = m.at; from = m.from; to = m.to; is = omega (arith, q, ap (holder ds) m.is) }
  ]
