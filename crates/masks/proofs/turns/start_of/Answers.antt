use Rattle.masks.proofs.Rules.{start_given, start_auto}
use Rattle.masks.proofs.turns.start_of.Goals as goal

pub returns-then-cell_of-eq-NUMBER : goal.returns-then-cell_of-eq-NUMBER
returns-then-cell_of-eq-NUMBER c = start_given _ _ _ _ c.cell_of.ensures c.if-cell_of-eq-NUMBER.true c.cell_of-then-cell_of-eq-NUMBER.ensures

pub returns : goal.returns
returns c = start_auto _ _ _ c.cell_of.ensures c.if-cell_of-eq-NUMBER.false
