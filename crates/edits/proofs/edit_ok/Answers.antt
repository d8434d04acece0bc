-- `edits::edit_ok` meets its contract: each return has what the tests before it told.
-- Assumes nothing.
use Prim.Native.Nat.{ℕ, ◌+◌}
use mathlib.Core.Path.{◌≡◌, sym, ap, ◌∙◌}
use native.Mathlib.Omega.{arith}
use lib.Dec.{ltb}
use Rattle.bigendian.proofs.Halves.{kept}
use Rattle.edits.specs.Edits.{start_of, start_ok, edit_ok}
use Rattle.edits.specs.declared.Edit.{Edit}
use Rattle.edits.specs.declared.EditStart.{EditStart}
use Rattle.edits.proofs.Signs.{from_mag}
use Rattle.edits.proofs.Turns.{ok_zero, ok_rate, ok_start}
use Rattle.edits.proofs.edit_ok.Goals as goal

-- an entry whose duration and rate are right is as its place is
answer : (scale movie total : ℕ) (e : Edit) {p r : EditStart} → (e.duration ≡ 0 → ⊥) → e.rate ≡ 65536 → r ≡ start_of e.media → p ≡ r →
    edit_ok scale movie total e ≡ start_ok scale movie total e.duration p
answer scale movie total e z t k q = ok_start scale movie total e z t (q ∙ k)

pub returns-then-d-eq0 : goal.returns-then-d-eq0
returns-then-d-eq0 c = sym (ok_zero _ _ _ _ c.if-d-eq0.true)

pub returns-then-rate-ne65536 : goal.returns-then-rate-ne65536
returns-then-rate-ne65536 c = sym (ok_rate _ _ _ _ c.if-d-eq0.false c.if-rate-ne65536.true)

pub overflow_add-last : goal.overflow_add-last
overflow_add-last c =
    let known : c.start_of-p.result ≡ start_of c.args.e.media = c.start_of-p.ensures ∙ ap start_of (kept c.args.e.media (omega (arith, c.requires))) in
    omega (arith, from_mag c.args.e.media _ (sym c.in-From.is ∙ known), c.requires, c.scaled.ensures.1)

pub returns-in-From : goal.returns-in-From
returns-in-From c =
    let known : c.start_of-p.result ≡ start_of c.args.e.media = c.start_of-p.ensures ∙ ap start_of (kept c.args.e.media (omega (arith, c.requires))) in
    ap (λ (x : ℕ). ltb (c.in-From.m + x) c.args.total) c.scaled.ensures.0
    ∙ sym (answer _ _ _ c.args.e c.if-d-eq0.false c.if-rate-ne65536.false known (sym c.in-From.is))

pub returns-in-Empty : goal.returns-in-Empty
returns-in-Empty c =
    let known : c.start_of-p.result ≡ start_of c.args.e.media = c.start_of-p.ensures ∙ ap start_of (kept c.args.e.media (omega (arith, c.requires))) in
    sym (answer _ _ _ c.args.e c.if-d-eq0.false c.if-rate-ne65536.false known (sym c.in-Empty.is))

pub returns-in-Wrong : goal.returns-in-Wrong
returns-in-Wrong c =
    let known : c.start_of-p.result ≡ start_of c.args.e.media = c.start_of-p.ensures ∙ ap start_of (kept c.args.e.media (omega (arith, c.requires))) in
    sym (answer _ _ _ c.args.e c.if-d-eq0.false c.if-rate-ne65536.false known (sym c.in-Wrong.is))
