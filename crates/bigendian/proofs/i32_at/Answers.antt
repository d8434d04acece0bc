-- `bigendian::i32_at` meets its contract: 32 bits as a signed number, kept in 64.
-- Assumes nothing.
use mathlib.Core.Path.{◌≡◌, ap, ◌∙◌}
use Rattle.bigendian.specs.BigEndian.{signed32}
use Rattle.bigendian.proofs.Halves.{as_signed, kept, kept32}
use Rattle.bigendian.proofs.i32_at.Goals as goal

pub returns : goal.returns
returns c =
    let e : c.from.result ≡ c.cast_signed.result = c.from.ensures ∙ kept32 c.cast_signed.result c.cast_signed.type_inv in
    rw (kept c.from.result c.from.type_inv, e)
    (c.cast_signed.ensures ∙ (as_signed c.u32_at.result c.u32_at.type_inv ∙ ap signed32 c.u32_at.ensures), c.cast_signed.type_inv)
