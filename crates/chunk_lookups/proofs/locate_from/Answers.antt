-- `chunk_lookups::locate_from` meets its contract: the place past the checkpoint, with the chunks that are passed.
-- Assumes nothing.
use Rattle.std.proofs.Common.{◌*◌, length, ap, ◌∙◌, arith, length-drop}
use Rattle.chunk_lookups.proofs.From.{found_in, located_past, located_early, located_late}
use Rattle.chunk_lookups.proofs.locate_from.Goals as goal

pub returns-then-index-passed : goal.returns-then-index-passed
returns-then-index-passed c =
    let u = c.last_upto-i in
    record {
      answer = located_early _ _ _ _ _ u.result _ u.ensures.4 c.number_at-passed.ensures _ c.locate.ensures c.if-index-passed.true;
      right = λ cs ts b. c.locate.ensures;
    }

pub locate-found-requires : goal.locate-found-requires
locate-found-requires c = omega (arith, ap length c.after.ensures, length-drop (768 * c.last_upto-i.result) c.args.stsc.now, c.requires.0)

pub returns : goal.returns
returns c =
    let u = c.last_upto-i in
    let a = c.args in
    let i = found_in u.result _ c.requires.1 u.ensures.1 in
    let n = c.number_at-passed.ensures in
    let m = c.number_at.ensures in
    let h = c.if-index-passed.false in
    let f = rw c.after.ensures at c.locate-found.ensures in
    record {
      answer = located_late a.stsc.now a.points.now a.count a.chunks a.index u.result _ u.ensures.4 n h _ m _ f _ c.wrapping_add_u64.ensures.value;
      right = λ cs ts b. located_past a.stsc.now _ u.result _ _ _ (m ∙ cs u.result i) (n ∙ ts u.result i) h b _ f _ c.wrapping_add_u64.ensures.value;
    }
