-- `words::bytes_between` meets its contract: the sizes are listed, or each is the common one up to the number of samples.
-- Assumes nothing.
use mathlib.Core.Path.{sym, ap, ◌∙◌}
use native.Mathlib.Omega.{arith}
use Rattle.lists.specs.Lists.{between}
use Rattle.lists.proofs.Laws.{wide_mul}
use Rattle.words.specs.Words.{words_in}
use Rattle.words.proofs.Sums.{common_sum, common_few}
use Rattle.words.proofs.Turns.{sizes_listed}
use Rattle.words.proofs.bytes_between.Goals as goal

pub returns-then-each-eq0 : goal.returns-then-each-eq0
returns-then-each-eq0 c =
    let a = c.args in (
      c.listed_between.ensures.0
          ∙ ap (λ l. between (words_in l) a.from a.to) c.after.ensures
          ∙ sym (ap (λ l. between l a.from a.to) (sizes_listed a.stsz.now c.u32_at-each.ensures c.if-each-eq0.true)),
      c.listed_between.ensures.1,
    )

pub overflow_mul-result : goal.overflow_mul-result
overflow_mul-result c = record { fits = wide_mul (omega (arith, c.saturating_sub.type_inv)) c.u32_at-each.type_inv }

pub returns : goal.returns
returns c =
    let z = c.if-each-eq0.false in
    let n = c.u32_at.ensures in
    let a = c.args in (
      common_sum _ c.u32_at-each.ensures z n a.from a.to c.min-end.ensures c.saturating_sub.ensures,
      common_few a.stsz.now c.u32_at-each.ensures z n a.from a.to c.min-end.ensures c.saturating_sub.ensures c.u32_at-each.type_inv,
    )
