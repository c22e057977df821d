-- `amounts::asking::takes_number` meets its contract.
-- Assumes nothing.
use mathlib.Core.Path.{refl}
use Rattle.scopes.proofs.Taking.{number_below, number_above, number_in, number_out}
use Rattle.amounts.proofs.asking.takes_number.Goals as goal

pub returns-then-code-lt-UINT32 : goal.returns-then-code-lt-UINT32
returns-then-code-lt-UINT32 c = number_below _ _ _ _ _ c.cell_of-code.ensures c.if-code-lt-UINT32.true

pub returns-then-code-gt-INT64 : goal.returns-then-code-gt-INT64
returns-then-code-gt-INT64 c = number_above _ _ _ _ _ c.cell_of-code.ensures c.if-code-gt-INT64.true

pub returns-then-in_type : goal.returns-then-in_type
returns-then-in_type c = number_in _ c.args.d.now c.args.j _ _ c.cell_of-code.ensures c.if-code-lt-UINT32.false c.if-code-gt-INT64.false _ c.number_at-n.ensures _ _ _ c.in_type.ensures c.if-in_type.true refl c.in_range.ensures

pub returns : goal.returns
returns c = number_out _ _ _ _ _ c.cell_of-code.ensures c.if-code-lt-UINT32.false c.if-code-gt-INT64.false _ c.number_at-n.ensures _ c.in_type.ensures c.if-in_type.false
