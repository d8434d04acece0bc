-- `slip_scan::find_slip` meets its contract: a case for each answer to the form.
-- Assumes nothing.
use mathlib.Core.Path.{◌≡◌, sym, ◌∙◌}
use mathlib.Core.List.{List}
use Prim.Native.Nat.{ℕ, ◌<◌}
use lib.Dec.{lit<, lit≤}
use lib.ListN.{get_or}
use Rattle.std.proofs.lemmas.Result.{err_from_is_err_and}
use Rattle.std.specs.Prelude.{Ok}
use Rattle.slip_scan.proofs.Rest.{form_one, form_two, form_old, form_other, form_none}
use Rattle.leb128.specs.Reading.{NumberRead, read_at}
use Rattle.leb128.specs.declared.number.Number.{Number}
use Rattle.leb128.proofs.Readings.{read_next}
use Rattle.slip_scan.proofs.find_slip.Goals as goal
use Rattle.slip_scan.proofs.find_slip.Goals.{else-any-via-then-any+else-form-eq2, else-any-via-else-any}

-- the place past the form is above 0
past : (bs : List ℕ) → ((x : ℕ) → get_or bs x 0 < 256) → (n : Number) → read_at 4 16 bs 0 ≡ Ok n → 0 < n.next
past bs are n q = (read_next 16 bs 0 4 n.value n.next (lit< tt) (lit≤ tt) are q).0

pub returns-in_err-form : goal.returns-in_err-form
returns-in_err-form c =
    let p = err_from_is_err_and c.from_residual.result c.from_residual.ensures.1 in
    rw (p.1, p.2) (sym (form_none _ _ _ c.number_at.ensures _ c.in_err-form.was))

pub find_rest-requires : goal.find_rest-requires
find_rest-requires c = past c.args.bytes.now (λ i. (c.type_inv.bytes i).fits) _ (sym c.number_at.ensures ∙ c.in_ok-form.was)

pub returns-then-form-eq1 : goal.returns-then-form-eq1
returns-then-form-eq1 c = c.find_rest.ensures ∙ sym (form_one _ _ _ c.number_at.ensures _ c.in_ok-form.was c.if-form-eq1.true)

pub find_wide-requires : goal.find_wide-requires
find_wide-requires c = past c.args.bytes.now (λ i. (c.type_inv.bytes i).fits) _ (sym c.number_at.ensures ∙ c.in_ok-form.was)

pub returns-then-form-eq2 : goal.returns-then-form-eq2
returns-then-form-eq2 c = c.find_wide.ensures ∙ sym (form_two _ _ _ c.number_at.ensures _ c.in_ok-form.was c.if-any.true c.if-form-eq2.true)

pub returns : goal.returns
returns c = elim c.else-any.branch [
  | else-any-via-then-any+else-form-eq2 w ↦ sym (form_other _ _ _ c.number_at.ensures _ c.in_ok-form.was c.if-form-eq1.false w.if-form-eq2.false)
  | else-any-via-else-any w ↦ sym (form_old _ _ _ c.number_at.ensures _ c.in_ok-form.was w.if-any.false c.if-form-eq1.false)
]
