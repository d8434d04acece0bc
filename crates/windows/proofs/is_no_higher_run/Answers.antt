-- `windows::is_no_higher_run` meets its contract: each test is one of the definition's.
-- Assumes nothing.
use borrow.Author.Tests.{lt-ltb, le-ltb, le-leb, lt-leb}
use Rattle.windows.specs.Windows.{no_higher_run}
use Rattle.windows.proofs.is_no_higher_run.Goals as goal

pub returns-then-scale-rest : goal.returns-then-scale-rest
unfolding no_higher_run
returns-then-scale-rest c = rw (le-leb _ _ c.if-scale-rest.true)

pub returns-then-span-scale : goal.returns-then-span-scale
unfolding no_higher_run
returns-then-span-scale c = rw (lt-leb _ _ c.if-scale-rest.false, lt-ltb _ _ c.if-span-scale.true)

pub returns : goal.returns
unfolding no_higher_run
returns c = rw (lt-leb _ _ c.if-scale-rest.false, le-ltb _ _ c.if-span-scale.false) c.is_no_higher.ensures
