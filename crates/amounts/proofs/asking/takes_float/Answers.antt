-- `amounts::asking::takes_float` meets its contract.
-- Assumes nothing.
use mathlib.Core.Path.{refl}
use Rattle.scopes.proofs.Taking.{float_none, float_in}
use Rattle.amounts.proofs.asking.takes_float.Goals as goal

pub returns-then-cell_of-ne-FLOAT : goal.returns-then-cell_of-ne-FLOAT
returns-then-cell_of-ne-FLOAT c = float_none _ _ _ _ _ c.cell_of.ensures c.if-cell_of-ne-FLOAT.true

pub returns : goal.returns
returns c = float_in _ c.args.d.now c.args.j _ _ c.cell_of.ensures c.if-cell_of-ne-FLOAT.false _ c.float_at-f.ensures _ _ refl c.in_floats.ensures
