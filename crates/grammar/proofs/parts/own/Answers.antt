use native.Mathlib.Omega.{arith}
use borrow.Author.Rules.{rules}
use Rattle.grammar.proofs.Rules.{own_words, own_fits, own_no}
use mathlib.Core.Path.{sym, ◌∙◌}
use Rattle.grammar.proofs.parts.own.Goals as goal

pub returns-in-3 : goal.returns-in-3
returns-in-3 c = own_words _ (omega arith) (omega arith) c.advance.ensures

pub returns-then-is_own : goal.returns-then-is_own
returns-then-is_own c = own_fits _ (sym c.is_own.ensures ∙ c.if-is_own.true) c.advance-then-is_own.ensures

pub returns-else-is_own : goal.returns-else-is_own
returns-else-is_own c = own_no _ (search rules) (search rules) (sym c.is_own.ensures ∙ c.if-is_own.false) c.refuse.ensures
