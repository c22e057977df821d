-- `lookups::takes_word` meets its contract: each code by its law. Assumes nothing.
use Rattle.scopes.proofs.Taking.{takes_3, takes_4, takes_quoted, takes_1, takes_2, takes-other, takes_name}
use borrow.Author.Rules.{rules}
use Rattle.scopes.proofs.lookups.takes_word.Goals as goal

pub returns-then-code-eq-AUTO : goal.returns-then-code-eq-AUTO
returns-then-code-eq-AUTO c = takes_3 _ _ _ _ _ c.if-code-eq-AUTO.true c.cell_of.ensures

pub returns-then-code-eq-NO_DEFAULT : goal.returns-then-code-eq-NO_DEFAULT
returns-then-code-eq-NO_DEFAULT c = takes_4 _ _ _ _ c.if-code-eq-NO_DEFAULT.true

pub returns-then-code-eq-QUOTED : goal.returns-then-code-eq-QUOTED
returns-then-code-eq-QUOTED c = takes_quoted _ _ _ _ _ c.cell_of-t.ensures c.if-code-eq-QUOTED.true

pub returns-then-code-eq-TRUE : goal.returns-then-code-eq-TRUE
returns-then-code-eq-TRUE c = takes_1 _ _ _ _ _ c.cell_of-t.ensures c.if-code-eq-TRUE.true

pub returns-then-code-eq-FALSE : goal.returns-then-code-eq-FALSE
returns-then-code-eq-FALSE c = takes_2 _ _ _ _ _ c.cell_of-t.ensures c.if-code-eq-FALSE.true

pub returns-then-t-ne-ENUM : goal.returns-then-t-ne-ENUM
returns-then-t-ne-ENUM c = takes-other _ _ _ _ _ c.cell_of-t.ensures c.if-code-eq-AUTO.false c.if-code-eq-NO_DEFAULT.false c.if-code-eq-QUOTED.false c.if-code-eq-TRUE.false c.if-code-eq-FALSE.false c.if-t-ne-ENUM.true

pub returns : goal.returns
returns c = takes_name _ _ _ _ _ c.cell_of-t.ensures c.if-code-eq-AUTO.false c.if-code-eq-NO_DEFAULT.false c.if-code-eq-QUOTED.false c.if-code-eq-TRUE.false c.if-code-eq-FALSE.false c.if-t-ne-ENUM.false
