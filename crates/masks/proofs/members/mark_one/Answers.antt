use native.Mathlib.Omega.{arith}
use Rattle.masks.proofs.Markings.{no_task, no_reference, no_room, no_column, marked}
use Rattle.masks.proofs.members.mark_one.Goals as goal

pub returns-then-cell_of-ne-TASK : goal.returns-then-cell_of-ne-TASK
returns-then-cell_of-ne-TASK c = no_task _ _ _ _ _ _ c.cell_of.ensures c.if-cell_of-ne-TASK.true

pub returns-then-cell_of-ne-OBJECT : goal.returns-then-cell_of-ne-OBJECT
returns-then-cell_of-ne-OBJECT c = no_reference _ _ _ _ _ _ c.cell_of-2.ensures c.if-cell_of-ne-OBJECT.true

pub returns-then-last-ge-MOST : goal.returns-then-last-ge-MOST
returns-then-last-ge-MOST c = no_room _ _ _ _ _ c.if-last-ge-MOST.true

pub returns-then-x-ge-MOST : goal.returns-then-x-ge-MOST
returns-then-x-ge-MOST c = no_column _ _ _ _ _ _ c.cell_of-x.ensures c.if-x-ge-MOST.true

pub returns : goal.returns
returns c = marked _ _ _ _ _ _ _ _ (omega arith) c.cell_of.ensures c.if-cell_of-ne-TASK.false c.cell_of-2.ensures c.if-cell_of-ne-OBJECT.false c.cell_of-x.ensures (omega arith) (omega arith)
