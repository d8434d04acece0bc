-- `chunks::pass` meets its contract: what remains is what `span` says.
-- Assumes nothing.
use Rattle.chunks.proofs.pass.Goals as goal

pub returns : goal.returns
returns c = let a = c.args.c in λ i. record { at = a.at; remaining = c.span.ensures i; per = a.per; description = a.description }
