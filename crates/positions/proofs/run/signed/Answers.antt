-- `positions::run::signed` meets its contract: 32 bits as a signed number, kept in 64.
-- Assumes nothing.
use mathlib.Core.Path.{◌≡◌, ◌∙◌}
use Rattle.bigendian.proofs.Halves.{as_signed, kept, kept32}
use Rattle.positions.proofs.run.signed.Goals as goal

pub returns : goal.returns
returns c =
    let e : c.from.result ≡ c.cast_signed.result = c.from.ensures ∙ kept32 c.cast_signed.result c.cast_signed.type_inv in
    rw (kept c.from.result c.from.type_inv, e) (c.cast_signed.ensures ∙ as_signed c.args.n c.ranges.n.fits, c.cast_signed.type_inv)
