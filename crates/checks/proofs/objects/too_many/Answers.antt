use Rattle.checks.proofs.Turns.{too_many_is}
use Rattle.checks.proofs.objects.too_many.Goals as goal

pub returns : goal.returns
returns c = too_many_is _ _ _ _ _ _ _ _ c.of-kind.ensures c.get-n.ensures c.most.ensures c.is_full.ensures c.fault_if.ensures
