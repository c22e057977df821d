use Rattle.writing.proofs.Heads.{wrote_number, wrote_other}
use native.Mathlib.Omega.{arith}
use Rattle.writing.proofs.values.put_value.Goals as goal

pub returns-then-cell_of-eq-NUMBER : goal.returns-then-cell_of-eq-NUMBER
returns-then-cell_of-eq-NUMBER c = wrote_number _ _ _ _ _ _ c.cell_of.ensures (omega arith) c.cell_of-negative.ensures c.cell_of-amount.ensures c.put_decimal.ensures

pub returns : goal.returns
returns c = wrote_other _ _ _ _ _ _ c.cell_of.ensures (omega arith) c.cell_of-place.ensures c.cell_of-length.ensures c.put_part.ensures
