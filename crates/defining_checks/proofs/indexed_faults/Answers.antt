-- `indexed_faults` meets its contract: the index is made first. Assumes nothing.
use Rattle.defining_checks.proofs.Turns.{stage_code}
use Rattle.defining_checks.proofs.indexed_faults.Goals as goal

pub shape_of-x : goal.shape_of-x
shape_of-x c = c.x-1.given

pub shape_of-b : goal.shape_of-b
shape_of-b c = c.b-1.given

pub returns : goal.returns
returns c = stage_code _ _ _ _ _ _ _ _ _ _ _ _ _ _ _ _ _ _ _ _ _ c.requires.0 c.requires.1 c.index.ensures c.one_too_many-limit.ensures c.least_of-rows.ensures c.version_fault-v.ensures c.fault_if-a.ensures c.rows_fault-r.ensures c.rows_fault-c.ensures c.sooner.ensures c.sooner-2.ensures c.sooner-3.ensures
