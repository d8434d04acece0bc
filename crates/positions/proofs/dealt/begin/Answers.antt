-- `positions::dealt::begin` meets its contract: each way out is one of the definition's.
-- Assumes nothing.
use mathlib.Core.Path.{◌≡◌, sym, ap, ◌∙◌}
use native.Mathlib.Omega.{arith}
use lib.ListN.{get_or}
use Rattle.words.specs.Words.{chunk_offsets}
use Rattle.words.proofs.Turns.{offsets_of}
use Rattle.positions.specs.Dealing.{begun, ahead_of}
use Rattle.positions.proofs.Dealing.{begun_none, begun_some, begun_offset, begun_rest, none_ahead, too_high, some_ahead}
use Rattle.positions.proofs.dealt.begin.Goals as goal

pub returns-then-head-chunk : goal.returns-then-head-chunk
returns-then-head-chunk c = none_ahead c.args.d c.requires.1 ∙ ap ahead_of (begun_none _ _ _ _ c.if-head-chunk.true)

pub returns-then-offset-gt9223372036854775807 : goal.returns-then-offset-gt9223372036854775807
returns-then-offset-gt9223372036854775807 c =
    let offset : let a = c.args in c.number_in-offset.result ≡ get_or (chunk_offsets a.offsets.now) a.d.chunk 0 = c.number_in-offset.ensures ∙ sym (ap (λ os. get_or os c.args.d.chunk 0) (offsets_of c.args.offsets.now c.requires.0 c.after.ensures)) in
    too_high (begun c.args.stsc.now c.args.offsets.now c.args.head.chunks c.args.d) (omega (arith, begun_offset c.args.stsc.now c.args.offsets.now c.args.head.chunks c.args.d c.if-head-chunk.false, offset, c.if-offset-gt9223372036854775807.true))

pub returns-then-c-eq0 : goal.returns-then-c-eq0
returns-then-c-eq0 c = none_ahead (begun c.args.stsc.now c.args.offsets.now c.args.head.chunks c.args.d) (begun_rest _ _ _ _ c.if-head-chunk.false ∙ sym (ap (λ r. r.per) c.ready-c.ensures.0) ∙ c.if-c-eq0.true)

pub returns : goal.returns
returns c =
    let offset : let a = c.args in c.number_in-offset.result ≡ get_or (chunk_offsets a.offsets.now) a.d.chunk 0 = c.number_in-offset.ensures ∙ sym (ap (λ os. get_or os c.args.d.chunk 0) (offsets_of c.args.offsets.now c.requires.0 c.after.ensures)) in
    some_ahead _ c.if-c-eq0.false c.if-offset-gt9223372036854775807.false ∙ ap ahead_of (begun_some _ _ _ _ c.if-head-chunk.false _ _ _ c.ready-c.ensures.0 c.pass-cursor.ensures (offset))
