use Rattle.reading.proofs.Deciding.{by_first, by_second, by_third}
use mathlib.Core.Path.{sym, ◌∙◌}
use Rattle.reading.proofs.stages.Goals as goal

pub returns-then-is_some : goal.returns-then-is_some
returns-then-is_some c = by_first _ _ _ _ c.definition_faults-a.ensures _ _ _ _ _ _ (sym c.is_some.ensures ∙ c.if-is_some.true)

pub returns-then-is_some-2 : goal.returns-then-is_some-2
returns-then-is_some-2 c = by_second _ _ _ _ c.definition_faults-a.ensures (sym c.is_some.ensures ∙ c.if-is_some.false) _ _ c.least_of-n.ensures c.firsts-x.ensures _ c.object_faults-b.ensures _ _ _ _ _ _ (sym c.is_some-2.ensures ∙ c.if-is_some-2.true)

pub returns : goal.returns
returns c = by_third _ _ _ _ c.definition_faults-a.ensures (sym c.is_some.ensures ∙ c.if-is_some.false) _ _ c.least_of-n.ensures c.firsts-x.ensures _ c.object_faults-b.ensures (sym c.is_some-2.ensures ∙ c.if-is_some-2.false) _ _ _ _ _ c.merge.ensures
