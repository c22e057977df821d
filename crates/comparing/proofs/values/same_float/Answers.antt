use Rattle.comparing.proofs.Countings.{floats_apart, floats_equal}
use mathlib.Core.Path.{sym, ◌∙◌}
use Rattle.comparing.proofs.values.same_float.Goals as goal

pub returns-then-not-at_most : goal.returns-then-not-at_most
returns-then-not-at_most c = floats_apart _ _ _ _ _ _ _ _ _ _ c.cell_of.ensures c.cell_of-2.ensures c.float_at-x.ensures c.float_at-y.ensures (sym c.at_most.ensures ∙ c.if-not-at_most.true)

pub returns : goal.returns
returns c = floats_equal _ _ _ _ _ _ _ _ _ _ c.cell_of.ensures c.cell_of-2.ensures c.float_at-x.ensures c.float_at-y.ensures _ (sym c.at_most.ensures ∙ c.if-not-at_most.false) c.at_most-2.ensures
