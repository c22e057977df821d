-- `resolving::values::value_of` meets its contract: by the word's code, each answer its own law.
-- Assumes nothing.
use Rattle.resolving.proofs.Valuing.{value_number, value_string, value_float, value_true, value_false, value_auto, value_no_default, value_name}
use Rattle.resolving.proofs.values.value_of.Goals as goal

pub returns-then-code-eq-NUMERAL : goal.returns-then-code-eq-NUMERAL
returns-then-code-eq-NUMERAL c = value_number c.if-code-eq-NUMERAL.true c.number_value.ensures

pub returns-then-code-eq-QUOTED : goal.returns-then-code-eq-QUOTED
returns-then-code-eq-QUOTED c = value_string c.if-code-eq-QUOTED.true

pub returns-then-code-eq-TRUE : goal.returns-then-code-eq-TRUE
returns-then-code-eq-TRUE c = value_true c.if-code-eq-TRUE.true

pub returns-then-code-eq-FALSE : goal.returns-then-code-eq-FALSE
returns-then-code-eq-FALSE c = value_false c.if-code-eq-FALSE.true

pub returns-then-code-eq-AUTO : goal.returns-then-code-eq-AUTO
returns-then-code-eq-AUTO c = value_auto c.if-code-eq-AUTO.true

pub returns-then-code-eq-NO_DEFAULT : goal.returns-then-code-eq-NO_DEFAULT
returns-then-code-eq-NO_DEFAULT c = value_no_default c.if-code-eq-NO_DEFAULT.true

pub returns-then-code-eq-FLOATING : goal.returns-then-code-eq-FLOATING
returns-then-code-eq-FLOATING c = value_float c.if-code-eq-FLOATING.true

pub returns : goal.returns
returns c = value_name c.if-code-eq-NUMERAL.false c.if-code-eq-QUOTED.false c.if-code-eq-TRUE.false c.if-code-eq-FALSE.false c.if-code-eq-AUTO.false c.if-code-eq-NO_DEFAULT.false c.if-code-eq-FLOATING.false c.named_value.ensures
