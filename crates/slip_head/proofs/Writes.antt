-- A slip put number by number into lent bytes is the slip's bytes (`put_slip`); and how long the numbers before its pairs are, whichever the form is.
-- Assumes nothing.
use mathlib.Core.Path.{◌≡◌, refl, ap, sym, ◌∙◌}
use mathlib.Core.Bool.{Bool, true, false}
use mathlib.Core.List.{List, [], ◌++◌}
use Prim.Native.Nat.{ℕ, ◌+◌, ◌≤◌}
use native.Mathlib.Omega.{arith}
use native.Mathlib.Nat.{zero-add}
use lib.ListN.{length, drop, length-append}
use lib.Seq.{sets, sets-eq}
use Rattle.leb128.specs.Numbers.{groups, groups_in, writes}
use Rattle.leb128.proofs.Puts.{Put}
use Rattle.slip_head.specs.Bytes.{after_form, head_numbers, any_wide, form_for, form_of, slip_bytes}
use Rattle.slip_head.specs.declared.Head.{Head}

-- the bytes of a slip begin with the form that its numbers want
pub slip_form : (h : Head) (pairs : List ℕ) (wide : Bool) → any_wide (after_form h pairs) ≡ wide → slip_bytes h pairs ≡ writes (head_numbers (form_for wide) h pairs)
unfolding slip_bytes form_of
slip_form h pairs wide e = ap (λ (w : Bool). writes (head_numbers (form_for w) h pairs)) e

-- the numbers of a slip so put, after the form that they want, are its bytes, in the first places, and the rest is left
pub put_slip : (out₀ : List ℕ) (h : Head) (pairs : List ℕ) (wide : Bool) → any_wide (after_form h pairs) ≡ wide → (at : ℕ) (out : List ℕ)
    → length (slip_bytes h pairs) ≤ length out₀ → Put out₀ (head_numbers (form_for wide) h pairs) at out
    → (at ≡ length (slip_bytes h pairs)) × (out ≡ slip_bytes h pairs ++ drop (length (slip_bytes h pairs)) out₀)
put_slip out₀ h pairs wide form at out room p =
    let l : List ℕ = slip_bytes h pairs in
    let e : writes (head_numbers (form_for wide) h pairs) ≡ l = sym (slip_form h pairs wide form) in
    let fit : 0 + length l ≤ length out₀ = omega arith in
    let s : sets out₀ 0 l ≡ l ++ drop (0 + length l) out₀ = sets-eq l out₀ 0 fit in
    (p.past ∙ ap length e, p.bytes ∙ ap (sets out₀ 0) e ∙ (rw zero-add at s))

one : (wide : Bool) → length (groups (form_for wide)) ≡ 1
unfolding groups groups_in
one true = refl
one false = refl

-- how long the numbers before the pairs are
pub head_length : (wide : Bool) (h : Head) → length (writes (head_numbers (form_for wide) h [])) ≡ 1 + length (groups h.id) + length (groups h.scale) + length (groups h.a) + length (groups h.b) + length (groups h.pairs)
unfolding writes
head_length wide h = simp length-append (omega (arith, one wide))
