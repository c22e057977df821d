use Rattle.grammar.proofs.Rules.{name_taken, name_no}
use mathlib.Core.Path.{sym, ◌∙◌}
use Rattle.grammar.proofs.lookahead.expect_name.Goals as goal

pub returns-then-is_name : goal.returns-then-is_name
returns-then-is_name c = name_taken (sym c.is_name.ensures ∙ c.if-is_name.true) c.advance.ensures

pub returns-else-is_name : goal.returns-else-is_name
returns-else-is_name c = name_no (sym c.is_name.ensures ∙ c.if-is_name.false) c.refuse.ensures
