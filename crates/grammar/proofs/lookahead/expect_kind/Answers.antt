use Rattle.grammar.proofs.Rules.{kind_taken, kind_no}
use mathlib.Core.Path.{sym, ◌∙◌}
use Rattle.grammar.proofs.lookahead.expect_kind.Goals as goal

pub returns-then-is_kind : goal.returns-then-is_kind
returns-then-is_kind c = kind_taken (sym c.is_kind.ensures ∙ c.if-is_kind.true) c.advance.ensures

pub returns-else-is_kind : goal.returns-else-is_kind
returns-else-is_kind c = kind_no (sym c.is_kind.ensures ∙ c.if-is_kind.false) c.refuse.ensures
