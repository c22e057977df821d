use Rattle.amounts.proofs.Rowwise.{row_same}
use Rattle.amounts.proofs.noting.note_range.Goals as goal

pub returns-then-get-eq0 : goal.returns-then-get-eq0
returns-then-get-eq0 c = row_same _ _ _ _

pub returns-then-cell_of-eq-FLOAT : goal.returns-then-cell_of-eq-FLOAT
returns-then-cell_of-eq-FLOAT c = c.note_floats.ensures _
