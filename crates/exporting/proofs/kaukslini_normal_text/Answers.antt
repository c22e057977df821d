use Rattle.exporting.proofs.Calling.{normal_thirty, normal_rules}
use Rattle.exporting.proofs.kaukslini_normal_text.Goals as goal

pub returns-then-fault-eq-LONG_TEXTS : goal.returns-then-fault-eq-LONG_TEXTS
returns-then-fault-eq-LONG_TEXTS c = normal_thirty _ _ c.fault_of-fault.ensures c.if-fault-eq-LONG_TEXTS.true

pub returns : goal.returns
returns c = normal_rules _ _ c.fault_of-fault.ensures c.if-fault-eq-LONG_TEXTS.false c.write_alone.ensures
