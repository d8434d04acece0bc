-- `compact_tree::header_of` meets its contract: what stands before the body is the header.
-- Assumes nothing.
use mathlib.Core.Path.{ap, ◌∙◌}
use native.Mathlib.Omega.{arith}
use lib.ListN.{length, take}
use Prim.Native.Nat.{◌-◌}
use Rattle.atoms.specs.Atoms.{header_of, body_of}
use Rattle.compact_tree.proofs.Putting.{before_rest, body_shorter}
use Rattle.compact_tree.proofs.header_of.Goals as goal

pub body_of-requires : goal.body_of-requires
body_of-requires c = tt

pub overflow_sub-atom : goal.overflow_sub-atom
overflow_sub-atom c = omega (arith, ap length c.body_of.ensures, body_shorter c.args.atom.now)

pub front-requires : goal.front-requires
front-requires c = tt

pub returns : goal.returns
unfolding body_of
returns c =
    let a = c.args.atom.now in
    c.front.ensures ∙ ap (λ b. take (length a - length b) a) c.body_of.ensures ∙ before_rest (header_of a) a
