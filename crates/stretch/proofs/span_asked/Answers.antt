-- `stretch::span_asked` meets its contract: the refusal, or what the tables of the trak say.
-- Assumes nothing.
use Prim.Native.Nat.{ℕ}
use mathlib.Core.Path.{refl, ap, ◌∙◌}
use mathlib.Core.List.{List}
use Rattle.refusals.proofs.Numbers.{passed}
use Rattle.movie.proofs.Refused.{code_err, code_ok}
use Rattle.questions.proofs.Asking.{ask_body, ask_parts}
use Rattle.spans.specs.Spans.{span_in}
use Rattle.spans.proofs.Spanning.{span_is}
use Rattle.stretch.specs.Spans.{span_of_ask}
use Rattle.stretch.proofs.Spanning.{usable, film_span, err_span, ok_span}
use Rattle.stretch.proofs.span_asked.Goals as goal

pub returns-in_err-asked : goal.returns-in_err-asked
returns-in_err-asked c = rw (passed c.from_residual.result _ c.from_residual.ensures.1) (film_span _ _ _ _ _ _ (code_err _ _ _ c.of.ensures.refusal c.in_err-asked.was))

pub returns-in_err-span : goal.returns-in_err-span
unfolding span_of_ask
returns-in_err-span c =
    let o = c.of.ensures in
    let q = c.in_ok-asked.was in
    let z = code_ok _ _ _ o.refusal q in
    let d = ask_body _ _ _ _ o _ q _ refl in
    let p = ask_parts _ _ _ _ o _ q _ refl in
    rw (passed c.from_residual-in_err-span.result _ c.from_residual-in_err-span.ensures.1)
    (err_span _ _ _ _ _ z _ (span_is _ _ _ _ _ _ _ (usable _ _ _ _ z d) p.stts p.stsz refl c.span_of_ask.ensures ∙ ap (λ (t : List ℕ). span_in t c.args.a.0 c.args.b.0) d) _ c.in_err-span.was)

pub returns : goal.returns
unfolding span_of_ask
returns c =
    let o = c.of.ensures in
    let q = c.in_ok-asked.was in
    let z = code_ok _ _ _ o.refusal q in
    let d = ask_body _ _ _ _ o _ q _ refl in
    let p = ask_parts _ _ _ _ o _ q _ refl in
    ok_span _ _ _ _ _ z _ (span_is _ _ _ _ _ _ _ (usable _ _ _ _ z d) p.stts p.stsz refl c.span_of_ask.ensures ∙ ap (λ (t : List ℕ). span_in t c.args.a.0 c.args.b.0) d) _ c.in_ok-span.was _ (o.trak _ q)
