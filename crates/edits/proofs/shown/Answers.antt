-- `edits::shown` meets its contract, by the place that the media time stands for.
-- Assumes nothing.
use Prim.Native.Nat.{ℕ, ◌+◌}
use mathlib.Core.Path.{◌≡◌, sym, ap, ◌∙◌}
use native.Mathlib.Omega.{arith}
use Rattle.bigendian.proofs.Halves.{kept}
use Rattle.edits.specs.Edits.{start_of, placed, shown_at}
use Rattle.edits.proofs.Signs.{from_mag}
use Rattle.edits.proofs.shown.Goals as goal

pub overflow_add-place : goal.overflow_add-place
overflow_add-place c =
    let known : c.start_of-p.result ≡ start_of c.args.media = c.start_of-p.ensures ∙ ap start_of (kept c.args.media c.ranges.media.sfits) in
    omega (arith, from_mag c.args.media _ (sym c.in-From.is ∙ known), c.requires, c.scaled.ensures.1)

pub returns-in-From : goal.returns-in-From
returns-in-From c =
    let a = c.args in
    let known : c.start_of-p.result ≡ start_of c.args.media = c.start_of-p.ensures ∙ ap start_of (kept c.args.media c.ranges.media.sfits) in
    c.within.ensures ∙ ap (λ (x : ℕ). placed a.total (c.in-From.m + x)) c.scaled.ensures.0
    ∙ ap (shown_at a.scale a.movie a.total a.t) (sym c.in-From.is ∙ known)

pub returns-in-Empty : goal.returns-in-Empty
returns-in-Empty c =
    let a = c.args in
    let known : c.start_of-p.result ≡ start_of c.args.media = c.start_of-p.ensures ∙ ap start_of (kept c.args.media c.ranges.media.sfits) in
    ap (shown_at a.scale a.movie a.total a.t) (sym c.in-Empty.is ∙ known)

pub returns-in-Wrong : goal.returns-in-Wrong
returns-in-Wrong c =
    let a = c.args in
    let known : c.start_of-p.result ≡ start_of c.args.media = c.start_of-p.ensures ∙ ap start_of (kept c.args.media c.ranges.media.sfits) in
    ap (shown_at a.scale a.movie a.total a.t) (sym c.in-Wrong.is ∙ known)
