-- `feature_checks::code_index` meets its contract: each arm has its code.
-- Assumes nothing.
use native.Mathlib.Omega.{arith}
use mathlib.Core.Path.{sym}
use Rattle.feature_checks.specs.Bounds.{index_in}
use Rattle.feature_checks.proofs.Codes.{other_code}
use Rattle.feature_checks.proofs.code_index.Goals as goal

pub returns-in-1635153506 : goal.returns-in-1635153506
unfolding index_in
returns-in-1635153506 c = rw c.in-1635153506.is

pub returns-in-1635148130 : goal.returns-in-1635148130
unfolding index_in
returns-in-1635148130 c = rw c.in-1635148130.is

pub returns-in-1836474994 : goal.returns-in-1836474994
unfolding index_in
returns-in-1836474994 c = rw c.in-1836474994.is

pub returns-in-1835098738 : goal.returns-in-1835098738
unfolding index_in
returns-in-1835098738 c = rw c.in-1835098738.is

pub returns-in-1986424947 : goal.returns-in-1986424947
unfolding index_in
returns-in-1986424947 c = rw c.in-1986424947.is

pub returns-in-1953919866 : goal.returns-in-1953919866
unfolding index_in
returns-in-1953919866 c = rw c.in-1953919866.is

pub returns-in_default : goal.returns-in_default
returns-in_default c = sym (other_code _ (λ e. omega arith) (λ e. omega arith) (λ e. omega arith) (λ e. omega arith) (λ e. omega arith) (λ e. omega arith))
