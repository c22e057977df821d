-- `judging::values::is_name` meets its contract.
-- Assumes nothing.
use Rattle.judging.proofs.Judgements.{code_number, code_string, code_ordinary, code_float, code_other}
use mathlib.Core.Path.{sym}
use Rattle.judging.proofs.values.is_name.Goals as goal

pub returns-then-code-eq-NUMERAL : goal.returns-then-code-eq-NUMERAL
returns-then-code-eq-NUMERAL c = sym (code_number c.args.code c.if-code-eq-NUMERAL.true)

pub returns-then-code-eq-QUOTED : goal.returns-then-code-eq-QUOTED
returns-then-code-eq-QUOTED c = sym (code_string c.args.code c.if-code-eq-NUMERAL.false c.if-code-eq-QUOTED.true)

pub returns-then-code-eq0 : goal.returns-then-code-eq0
returns-then-code-eq0 c = sym (code_ordinary c.args.code c.if-code-eq-NUMERAL.false c.if-code-eq-QUOTED.false c.if-code-eq0.true)

pub returns-then-code-eq-FLOATING : goal.returns-then-code-eq-FLOATING
returns-then-code-eq-FLOATING c = sym (code_float c.args.code c.if-code-eq-NUMERAL.false c.if-code-eq-QUOTED.false c.if-code-eq0.false c.if-code-eq-FLOATING.true)

pub returns : goal.returns
returns c = sym (code_other c.args.code c.if-code-eq-NUMERAL.false c.if-code-eq-QUOTED.false c.if-code-eq0.false c.if-code-eq-FLOATING.false)
