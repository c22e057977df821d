use native.Mathlib.Omega.{arith}
use Rattle.rows.proofs.Searches.{find_stop, find_more, find_end}
use mathlib.Core.Path.{refl, sym, ◌∙◌}
use Rattle.attribute_values.proofs.objects.find_object.Goals as goal

pub returns-then-is_called : goal.returns-then-is_called
returns-then-is_called c = sym (find_stop _ _ c.loop-i.i (omega arith) (sym c.is_called.ensures ∙ c.if-is_called.true)) ∙ c.loop-i.invariant

pub loop-i-preserved : goal.loop-i-preserved
loop-i-preserved c = sym (find_more _ _ c.loop-i.i (omega arith) (sym c.is_called.ensures ∙ c.if-is_called.false)) ∙ c.loop-i.invariant

pub returns : goal.returns
returns c = sym (find_end _ _ c.loop-i.i (omega arith)) ∙ c.loop-i.invariant
