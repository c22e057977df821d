use borrow.Author.Rules.{rules}
use Rattle.exporting.proofs.Calling.{value_thirty, value_rules}
use Rattle.exporting.proofs.kaukslini_value.Goals as goal

pub returns-then-fault-eq-LONG_TEXTS : goal.returns-then-fault-eq-LONG_TEXTS
returns-then-fault-eq-LONG_TEXTS c = value_thirty _ _ c.fault_of-fault.ensures c.if-fault-eq-LONG_TEXTS.true

pub returns : goal.returns
returns c = value_rules _ _ c.fault_of-fault.ensures c.if-fault-eq-LONG_TEXTS.false c.value-v.ensures.rules c.value_told.ensures
