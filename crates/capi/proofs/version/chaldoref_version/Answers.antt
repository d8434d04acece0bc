-- `capi::version::chaldoref_version` meets its contract.
-- Assumes nothing.
use mathlib.Core.Path.{refl}
use Rattle.capi.proofs.version.chaldoref_version.Goals as goal

pub returns : goal.returns
returns c = refl
