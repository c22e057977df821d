-- `lookups::names::cells_from` meets its contract.
-- Assumes nothing.
use Rattle.lookups.proofs.Naming.{part_past, part_rest, part_within}
use Rattle.lookups.proofs.names.cells_from.Goals as goal

pub returns-then-t-at : goal.returns-then-t-at
returns-then-t-at c = part_past c.args.t.now c.args.at c.args.n c.if-t-at.true

pub returns-then-t-at-2 : goal.returns-then-t-at-2
returns-then-t-at-2 c = part_rest c.args.t.now c.args.at c.args.n c.if-t-at-2.true

pub returns-else-t-at-2 : goal.returns-else-t-at-2
returns-else-t-at-2 c = part_within c.args.t.now c.args.at c.args.n
