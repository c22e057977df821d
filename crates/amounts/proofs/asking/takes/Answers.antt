-- `amounts::asking::takes` meets its contract.
-- Assumes nothing.
use Rattle.scopes.proofs.Taking.{takes_numeral, takes_floating}
use Rattle.amounts.proofs.asking.takes.Goals as goal

pub returns-then-code-eq-NUMERAL : goal.returns-then-code-eq-NUMERAL
returns-then-code-eq-NUMERAL c = takes_numeral _ _ _ _ _ _ _ c.if-code-eq-NUMERAL.true c.takes_number.ensures

pub returns-then-code-eq-FLOATING : goal.returns-then-code-eq-FLOATING
returns-then-code-eq-FLOATING c = takes_floating _ _ _ _ _ _ _ c.if-code-eq-FLOATING.true c.takes_float.ensures

pub returns : goal.returns
returns c = c.takes_word.ensures c.if-code-eq-NUMERAL.false c.if-code-eq-FLOATING.false _ _
