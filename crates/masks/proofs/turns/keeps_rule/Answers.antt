use mathlib.Core.Path.{sym, ◌∙◌}
use Rattle.masks.proofs.Rules.{rule_given, rule_many, rule_clash, single_positive}
use Rattle.masks.proofs.turns.keeps_rule.Goals as goal

pub returns-then-cell_of-eq-NUMBER : goal.returns-then-cell_of-eq-NUMBER
returns-then-cell_of-eq-NUMBER c = rule_given _ _ _ _ _ _ c.cell_of.ensures _ c.if-cell_of-eq-NUMBER.true c.cell_of-g.ensures

pub returns-then-not-is_single : goal.returns-then-not-is_single
returns-then-not-is_single c = rule_many _ _ _ _ _ _ c.cell_of.ensures c.if-cell_of-eq-NUMBER.false (sym c.is_single.ensures ∙ c.if-not-is_single.true)

pub has_power-requires : goal.has_power-requires
has_power-requires c = single_positive _ (sym c.is_single.ensures ∙ c.if-not-is_single.false)

pub returns : goal.returns
returns c = rule_clash _ _ _ _ _ _ c.cell_of.ensures c.if-cell_of-eq-NUMBER.false (sym c.is_single.ensures ∙ c.if-not-is_single.false) _ _ c.taken_bits.ensures c.has_power.ensures
