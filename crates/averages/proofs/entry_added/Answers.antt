-- `averages::entry_added` meets its contract, by the place that the media time stands for: the last place of an entry that is right lies below the total.
-- Assumes nothing.
use Prim.Native.Nat.{ℕ, ◌+◌, ◌-◌, ◌<◌}
use mathlib.Core.Path.{◌≡◌, sym, ap, ◌∙◌}
use mathlib.Core.List.{List, [], ◌∷◌}
use native.Mathlib.Omega.{arith}
use Rattle.bigendian.proofs.Halves.{kept}
use Rattle.lists.specs.Lists.{sum}
use Rattle.runs.specs.Runs.{per_sample}
use Rattle.words.specs.Words.{sizes}
use Rattle.edits.specs.Edits.{start_of, in_media}
use Rattle.edits.specs.declared.Edit.{Edit}
use Rattle.edits.specs.declared.EditStart.{EditStart}
use Rattle.edits.proofs.Sentences.{ok_from}
use Rattle.averages.specs.Averages.{range_at, covered_from, covered_by}
use Rattle.averages.specs.Computed.{added_all}
use Rattle.averages.proofs.Covers.{added_one}
use Rattle.averages.proofs.entry_added.Goals as goal

-- what is covered from the place that the media time stands for
covers : (ds zs : List ℕ) (scale movie : ℕ) (e : Edit) {p r : EditStart} → r ≡ start_of e.media → p ≡ r →
    added_all ds zs (covered_from scale movie ds e.duration p) ≡ added_all ds zs (covered_by scale movie ds e)
covers ds zs scale movie e k q = ap (λ x. added_all ds zs (covered_from scale movie ds e.duration x)) (q ∙ k)

pub last_place-last-requires : goal.last_place-last-requires
last_place-last-requires c =
    let known : c.start_of-p.result ≡ start_of c.args.e.media = c.start_of-p.ensures ∙ ap start_of (kept c.args.e.media (omega (arith, c.requires.1))) in
    let last : let a = c.args in
    (0 < a.e.duration) × (c.in-From.m + in_media a.scale a.movie (a.e.duration - 1) < sum (per_sample a.stts.now)) = ok_from _ _ _ c.args.e _ c.requires.2 (sym c.in-From.is ∙ known) in
    ((last).0, omega (arith, (last).1, c.requires.0.total_fits))

pub overflow_cast-m : goal.overflow_cast-m
overflow_cast-m c =
    let known : c.start_of-p.result ≡ start_of c.args.e.media = c.start_of-p.ensures ∙ ap start_of (kept c.args.e.media (omega (arith, c.requires.1))) in
    let last : let a = c.args in
    (0 < a.e.duration) × (c.in-From.m + in_media a.scale a.movie (a.e.duration - 1) < sum (per_sample a.stts.now)) = ok_from _ _ _ c.args.e _ c.requires.2 (sym c.in-From.is ∙ known) in
    omega (arith, (last).1, c.requires.0.total_fits)

pub added_between-requires : goal.added_between-requires
added_between-requires c =
    let known : c.start_of-p.result ≡ start_of c.args.e.media = c.start_of-p.ensures ∙ ap start_of (kept c.args.e.media (omega (arith, c.requires.1))) in
    let last : let a = c.args in
    (0 < a.e.duration) × (c.in-From.m + in_media a.scale a.movie (a.e.duration - 1) < sum (per_sample a.stts.now)) = ok_from _ _ _ c.args.e _ c.requires.2 (sym c.in-From.is ∙ known) in
    (c.requires.0, omega (arith, c.last_place-last.ensures), omega (arith, (last).1, c.last_place-last.ensures))

pub returns-in-From : goal.returns-in-From
returns-in-From c =
    let a = c.args in
    let known : c.start_of-p.result ≡ start_of c.args.e.media = c.start_of-p.ensures ∙ ap start_of (kept c.args.e.media (omega (arith, c.requires.1))) in
    let ds = per_sample a.stts.now in
    let zs = sizes a.stsz.now in
    let m = c.in-From.m in (
      c.added_between.ensures.0
          ∙ added_one ds zs (range_at ds m c.last_place-last.result.0)
          ∙ ap (λ (x : ℕ). added_all ds zs (range_at ds m x ∷ [])) c.last_place-last.ensures
          ∙ covers (per_sample a.stts.now) (sizes a.stsz.now) a.scale a.movie a.e known (sym c.in-From.is),
      c.added_between.ensures.1,
      c.added_between.ensures.2,
    )

pub returns-in-Empty : goal.returns-in-Empty
returns-in-Empty c =
    let a = c.args in
    let known : c.start_of-p.result ≡ start_of c.args.e.media = c.start_of-p.ensures ∙ ap start_of (kept c.args.e.media (omega (arith, c.requires.1))) in
    (covers (per_sample a.stts.now) (sizes a.stsz.now) a.scale a.movie a.e known (sym c.in-Empty.is), omega arith, omega arith)

pub returns-in-Wrong : goal.returns-in-Wrong
returns-in-Wrong c =
    let a = c.args in
    let known : c.start_of-p.result ≡ start_of c.args.e.media = c.start_of-p.ensures ∙ ap start_of (kept c.args.e.media (omega (arith, c.requires.1))) in
    (covers (per_sample a.stts.now) (sizes a.stsz.now) a.scale a.movie a.e known (sym c.in-Wrong.is), omega arith, omega arith)
