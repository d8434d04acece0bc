-- `atoms::is_container` meets its contract: in each arm the kind is known.
-- Assumes nothing.
use native.Mathlib.Omega.{arith}
use Rattle.std.proofs.lemmas.Grind.{common_steps}
use mathlib.Core.Logic.{◌⊎◌, inl, inr, ⊎_elim}
use Rattle.atoms.specs.Kinds.{container}
use Rattle.atoms.proofs.is_container.Goals as goal

pub returns-in-1836019574 : goal.returns-in-1836019574
unfolding container
returns-in-1836019574 c = rw c.in-1836019574.is

pub returns-in-1953653099 : goal.returns-in-1953653099
unfolding container
returns-in-1953653099 c = rw c.in-1953653099.is

pub returns-in-1701082227 : goal.returns-in-1701082227
unfolding container
returns-in-1701082227 c = ⊎_elim (λ e. rw e) (λ e. rw e) c.in-1701082227.is

pub returns-in-1835626086 : goal.returns-in-1835626086
unfolding container
returns-in-1835626086 c = rw c.in-1835626086.is

pub returns-in-1937007212 : goal.returns-in-1937007212
unfolding container
returns-in-1937007212 c = ⊎_elim (λ e. rw e) (λ e. rw e) c.in-1937007212.is

pub returns-in_default : goal.returns-in_default
unfolding container
returns-in_default c = grind (arith, common_steps)
