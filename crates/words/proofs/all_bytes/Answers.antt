-- `words::all_bytes` meets its contract: the sizes are listed, or their sum is a product.
-- Assumes nothing.
use mathlib.Core.Path.{◌≡◌, sym, ap, ◌∙◌}
use native.Mathlib.Omega.{arith}
use lib.ListN.{length, length-drop}
use Rattle.lists.specs.Lists.{sum}
use Rattle.lists.proofs.Laws.{wide_mul}
use Rattle.words.specs.Words.{words_in, sizes}
use Rattle.words.proofs.Sums.{all_common_sum}
use Rattle.words.proofs.Turns.{sizes_listed, length_words}
use Rattle.words.proofs.all_bytes.Goals as goal

pub sum_words-requires : goal.sum_words-requires
sum_words-requires c = omega (arith, c.requires, ap length c.after.ensures, length-drop 20 c.args.stsz.now)

pub returns-then-every-eq0 : goal.returns-then-every-eq0
returns-then-every-eq0 c =
    let a = c.after in
    let e : sizes c.args.stsz.now ≡ words_in a.result.now = sizes_listed _ c.u32_at-every.ensures c.if-every-eq0.true ∙ sym (ap words_in a.ensures) in
    (c.sum_words.ensures.0 ∙ sym (ap sum e), omega (arith, c.sum_words.ensures.1, ap length e, length_words a.result.now))

pub overflow_mul-result : goal.overflow_mul-result
overflow_mul-result c = record { fits = wide_mul (omega (arith, c.u32_at.type_inv)) c.u32_at-every.type_inv }

pub returns : goal.returns
returns c = all_common_sum _ c.u32_at-every.ensures c.if-every-eq0.false c.u32_at.ensures c.u32_at-every.type_inv
