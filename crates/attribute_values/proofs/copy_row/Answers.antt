use native.Mathlib.Omega.{arith}
use Rattle.attribute_values.proofs.Copying.{copy_none, copy_all}
use Rattle.attribute_values.proofs.copy_row.Goals as goal

pub returns-then-out-put_value : goal.returns-then-out-put_value
returns-then-out-put_value c = copy_none c.put_value.ensures c.if-out-put_value.true

pub returns : goal.returns
returns c = copy_all c.put_value.ensures (omega (arith, c.well_formed)) (omega arith) c.put_value-length.ensures
