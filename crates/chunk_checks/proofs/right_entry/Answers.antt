-- `chunk_checks::right_entry` meets its contract: the tests are those of the definition.
-- Assumes nothing.
use mathlib.Core.Path.{sym}
use native.Mathlib.Omega.{arith}
use borrow.Author.Tests.{le-leb, lt-leb, eq-eqb, ne_eqb}
use Rattle.chunk_checks.proofs.right_entry.Goals as goal

pub returns-then-next-first : goal.returns-then-next-first
returns-then-next-first c = let a = c.args in sym (rw (le-leb a.next a.first (omega arith)))

pub returns-then-per-eq0 : goal.returns-then-per-eq0
returns-then-per-eq0 c =
    let a = c.args in
    sym (rw (lt-leb a.next a.first (omega arith), eq-eqb a.per 0 c.if-per-eq0.true))

pub returns-then-id-eq0 : goal.returns-then-id-eq0
returns-then-id-eq0 c =
    let a = c.args in
    sym (rw (lt-leb a.next a.first (omega arith), ne_eqb a.per 0 c.if-per-eq0.false, eq-eqb a.id 0 c.if-id-eq0.true))

pub returns : goal.returns
returns c =
    let a = c.args in
    sym (rw (lt-leb a.next a.first (omega arith), ne_eqb a.per 0 c.if-per-eq0.false, ne_eqb a.id 0 c.if-id-eq0.false))
