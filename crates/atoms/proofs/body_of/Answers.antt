-- `atoms::body_of` meets its contract: an atom shorter than its header has no body, and of any other the body is the rest.
-- Assumes nothing.
use mathlib.Core.Path.{ap, sym, ◌∙◌}
use native.Mathlib.Omega.{arith}
use lib.ListN.{drop, drop_of_length-le}
use Rattle.bigendian.proofs.Parts.{rest}
use Rattle.atoms.specs.Atoms.{body_of}
use Rattle.atoms.proofs.body_of.Goals as goal

pub header-h-requires : goal.header-h-requires
header-h-requires c = tt

pub returns-then-atom-h : goal.returns-then-atom-h
unfolding body_of
returns-then-atom-h c =
    let h = c.header-h in
    let a = c.args.atom.now in
    sym (drop_of_length-le a {i = h.result} (omega arith)) ∙ ap (λ n. drop n a) h.ensures

pub returns-else-atom-h : goal.returns-else-atom-h
unfolding body_of
returns-else-atom-h c =
    let h = c.header-h in
    let a = c.args.atom.now in
    rest h.result a ∙ ap (λ n. drop n a) h.ensures
