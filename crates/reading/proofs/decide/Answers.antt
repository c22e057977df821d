use Rattle.reading.proofs.Deciding.{decides_early, decides_late}
use mathlib.Core.Path.{refl, sym, ◌∙◌}
use Rattle.reading.proofs.decide.Goals as goal

pub returns-then-is_some : goal.returns-then-is_some
returns-then-is_some c = decides_early _ _ _ _ _ _ _ _ _ _ _ refl refl c.walk-w.ensures c.grammar_fault-g.ensures _ _ (sym c.is_some.ensures ∙ c.if-is_some.true)

pub shape_of-d : goal.shape_of-d
shape_of-d c = c.walk-w.ensures.sizes.definitions

pub shape_of-e : goal.shape_of-e
shape_of-e c = c.walk-w.ensures.sizes.enumerators

pub returns : goal.returns
returns c = decides_late _ _ _ _ _ _ _ _ _ _ _ refl refl c.walk-w.ensures c.grammar_fault-g.ensures refl refl _ (sym c.is_some.ensures ∙ c.if-is_some.false) c.stages.ensures
