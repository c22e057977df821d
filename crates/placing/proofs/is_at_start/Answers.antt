use Rattle.placing.proofs.Rowwise.{start_one, start_nineteen, start_twenty, start_last}
use Rattle.placing.proofs.is_at_start.Goals as goal

pub returns-then-number-eq-SHORT_TABLES : goal.returns-then-number-eq-SHORT_TABLES
returns-then-number-eq-SHORT_TABLES c = start_one _ c.if-number-eq-SHORT_TABLES.true

pub returns-then-number-eq-MANY_VALUES : goal.returns-then-number-eq-MANY_VALUES
returns-then-number-eq-MANY_VALUES c = start_nineteen _ c.if-number-eq-SHORT_TABLES.false c.if-number-eq-MANY_VALUES.true

pub returns-then-number-eq-SHORT_OUTPUT : goal.returns-then-number-eq-SHORT_OUTPUT
returns-then-number-eq-SHORT_OUTPUT c = start_twenty _ c.if-number-eq-SHORT_TABLES.false c.if-number-eq-MANY_VALUES.false c.if-number-eq-SHORT_OUTPUT.true

pub returns : goal.returns
returns c = start_last _ c.if-number-eq-SHORT_TABLES.false c.if-number-eq-MANY_VALUES.false c.if-number-eq-SHORT_OUTPUT.false
