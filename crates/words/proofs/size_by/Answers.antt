-- `words::size_by` meets its contract: the size is listed, or it is the common one up to the number of samples.
-- Assumes nothing.
use mathlib.Core.Path.{◌≡◌, sym, ap, ◌∙◌}
use lib.ListN.{get_or}
use Rattle.bigendian.specs.BigEndian.{u32_at}
use Rattle.words.specs.Words.{words_in}
use Rattle.words.proofs.Sums.{common_at, common_past}
use Rattle.words.proofs.Turns.{sizes_listed}
use Rattle.words.proofs.size_by.Goals as goal

pub returns-then-head-eq0 : goal.returns-then-head-eq0
returns-then-head-eq0 c =
    let common : c.args.head.common ≡ u32_at c.args.stsz.now 12 = ap (λ h. h.common) c.requires in
    c.word_at.ensures
    ∙ ap (λ l. get_or (words_in l) c.args.index 0) c.after.ensures
    ∙ sym (ap (λ l. get_or l c.args.index 0) (sizes_listed c.args.stsz.now (common) c.if-head-eq0.true))

pub returns-then-index-head : goal.returns-then-index-head
returns-then-index-head c =
    let samples : c.args.head.samples ≡ u32_at c.args.stsz.now 16 = ap (λ h. h.samples) c.requires in
    let common : c.args.head.common ≡ u32_at c.args.stsz.now 12 = ap (λ h. h.common) c.requires in
    sym (common_at _ (common) c.if-head-eq0.false (samples) _ c.if-index-head.true)

pub returns-else-index-head : goal.returns-else-index-head
returns-else-index-head c =
    let samples : c.args.head.samples ≡ u32_at c.args.stsz.now 16 = ap (λ h. h.samples) c.requires in
    let common : c.args.head.common ≡ u32_at c.args.stsz.now 12 = ap (λ h. h.common) c.requires in
    sym (common_past _ (common) c.if-head-eq0.false (samples) _ c.if-index-head.false)
