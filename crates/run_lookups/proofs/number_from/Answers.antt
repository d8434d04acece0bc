-- `run_lookups::number_from` meets its contract: each way out is that of the lookup in the whole table.
-- Assumes nothing.
use Rattle.std.proofs.Common.{◌*◌, length, drop, sym, refl, ap, ◌∙◌, arith, length-drop}
use Rattle.time_questions.proofs.Mapping.{number_long}
use Rattle.run_lookups.proofs.From.{found_in, hit_few, hit_in, number_passed, from_outside, from_past, from_found, not_above, refused_from, number_by}
use Rattle.run_lookups.proofs.number_from.Goals as goal

pub returns-then-stts-gt4294967295 : goal.returns-then-stts-gt4294967295
returns-then-stts-gt4294967295 c = refused_from _ _ _ _ _ (λ cs ts. number_long _ _ _ c.if-stts-gt4294967295.true)

pub returns-then-samples-passed : goal.returns-then-samples-passed
returns-then-samples-passed c =
    let i = c.last_upto-i.result in
    let f = found_in i _ c.requires.0 c.last_upto-i.ensures.1 in
    refused_from _ _ _ _ _ (λ cs ts. number_passed _ i _ _ _ (c.number_at-passed.ensures ∙ cs i f) (c.number_at-start.ensures ∙ ts i f) (not_above _ c.args.points.now _ i _ _ ts f c.last_upto-i.ensures.2 c.number_at-start.ensures) _ c.if-stts-gt4294967295.false c.if-samples-passed.true)

pub returns-then-time-start : goal.returns-then-time-start
returns-then-time-start c =
    let i = c.last_upto-i.result in
    let f = found_in i _ c.requires.0 c.last_upto-i.ensures.1 in
    refused_from _ _ _ _ _ (λ cs ts. absurd (omega (arith, not_above _ c.args.points.now _ i _ _ ts f c.last_upto-i.ensures.2 c.number_at-start.ensures, c.if-time-start.true)))

pub look_up-requires : goal.look_up-requires
look_up-requires c = omega (arith, ap length c.after.ensures, length-drop (512 * c.last_upto-i.result) c.args.stts.now, c.if-stts-gt4294967295.false)

pub returns-then-samples-passed-2 : goal.returns-then-samples-passed-2
returns-then-samples-passed-2 c =
    let i = c.last_upto-i.result in
    let f = found_in i _ c.requires.0 c.last_upto-i.ensures.1 in
    refused_from _ _ _ _ _ (λ cs ts. from_past _ i _ _ _ (c.number_at-passed.ensures ∙ cs i f) (c.number_at-start.ensures ∙ ts i f) (not_above _ c.args.points.now _ i _ _ ts f c.last_upto-i.ensures.2 c.number_at-start.ensures) _ c.if-stts-gt4294967295.false _ (rw c.after.ensures at c.look_up.ensures) _ c.in-Some.is c.if-samples-passed-2.true)

pub overflow_cast-result-in-Some : goal.overflow_cast-result-in-Some
overflow_cast-result-in-Some c = record { fits = omega (arith, found_in _ _ c.requires.0 c.last_upto-i.ensures.1, c.requires) }

pub overflow_add-result-in-Some-2 : goal.overflow_add-result-in-Some-2
overflow_add-result-in-Some-2 c =
    let e = hit_few (drop (512 * c.last_upto-i.result) c.args.stts.now) _ _ (sym c.in-Some.is ∙ rw c.after.ensures at c.look_up.ensures) in
    record { fits = omega (arith, e.0, e.1, length-drop (512 * c.last_upto-i.result) c.args.stts.now, c.if-stts-gt4294967295.false) }

pub returns-else-samples-passed-2 : goal.returns-else-samples-passed-2
returns-else-samples-passed-2 c =
    let i = c.last_upto-i.result in
    let f = found_in i _ c.requires.0 c.last_upto-i.ensures.1 in
    let e = hit_in c.args.stts.now i _ _ (sym c.in-Some.is ∙ rw c.after.ensures at c.look_up.ensures) in
    number_by _ _ _ _ _ _ _ (omega arith) (omega (arith, c.if-samples-passed-2.false, c.if-samples-passed.false)) (omega (arith, e.0)) (omega (arith, e.1))
    (λ cs ts. from_found _ i _ _ _ (c.number_at-passed.ensures ∙ cs i f) (c.number_at-start.ensures ∙ ts i f) (not_above _ c.args.points.now _ i _ _ ts f c.last_upto-i.ensures.2 c.number_at-start.ensures) _ c.if-stts-gt4294967295.false _ (rw c.after.ensures at c.look_up.ensures) _ c.in-Some.is c.if-samples-passed-2.false _ _ refl refl)

pub returns-in-None : goal.returns-in-None
returns-in-None c =
    let i = c.last_upto-i.result in
    let f = found_in i _ c.requires.0 c.last_upto-i.ensures.1 in
    refused_from _ _ _ _ _ (λ cs ts. from_outside _ i _ _ _ (c.number_at-passed.ensures ∙ cs i f) (c.number_at-start.ensures ∙ ts i f) (not_above _ c.args.points.now _ i _ _ ts f c.last_upto-i.ensures.2 c.number_at-start.ensures) _ c.if-stts-gt4294967295.false _ (rw c.after.ensures at c.look_up.ensures) c.in-None.is)
