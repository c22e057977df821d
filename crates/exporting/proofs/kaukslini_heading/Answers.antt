use Rattle.exporting.proofs.Headings.{heading_thirty, heading_rules}
use Rattle.exporting.proofs.kaukslini_heading.Goals as goal

pub returns-then-fault-eq-LONG_TEXTS : goal.returns-then-fault-eq-LONG_TEXTS
returns-then-fault-eq-LONG_TEXTS c = heading_thirty _ _ c.fault_of-fault.ensures c.if-fault-eq-LONG_TEXTS.true

pub returns : goal.returns
returns c = heading_rules _ _ c.fault_of-fault.ensures c.if-fault-eq-LONG_TEXTS.false c.heading_alone.ensures
