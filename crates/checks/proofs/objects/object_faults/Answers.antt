use mathlib.Core.Path.{refl}
use Rattle.checks.proofs.Applications.{objects_answer}
use Rattle.checks.proofs.objects.object_faults.Goals as goal

pub returns : goal.returns
returns c = objects_answer _ _ _ _ _ _ _ _ _ _ _ _ _ _ _ _ _ _ _ c.check_parts-b.result c.too_few-a.ensures c.least_of-n.ensures c.check_parts-b.ensures refl c.room_fault-c.ensures c.room_fault-d.ensures c.sooner.ensures c.firsts-y.ensures c.name_fault-e.ensures c.sooner-2.ensures c.sooner-3.ensures c.sooner-f.ensures refl refl
