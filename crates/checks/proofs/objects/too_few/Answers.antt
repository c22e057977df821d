use Rattle.meaning.specs.Kinds.{fewest}
use mathlib.Core.Path.{refl, sym, ◌∙◌, ap}
use native.Mathlib.Omega.{arith}
use Rattle.rows.proofs.Orders.{found_some, found_none}
use Rattle.checks.proofs.Turns.{lacks_here, lacks_more, lacks_end}
use Rattle.checks.proofs.objects.too_few.Goals as goal

pub returns-then-counts-i : goal.returns-then-counts-i
returns-then-counts-i c = found_some _ (c.loop-i.i) _ _ (sym (c.loop-i.invariant) ∙ lacks_here _ (c.loop-i.i) _ (omega arith) (c.least.ensures ∙ ap fewest (c.of-kind.ensures)) (c.if-counts-i.true))

pub loop-i-preserved : goal.loop-i-preserved
loop-i-preserved c = sym (lacks_more _ (c.loop-i.i) _ (omega arith) (c.least.ensures ∙ ap fewest (c.of-kind.ensures)) (c.if-counts-i.false)) ∙ c.loop-i.invariant

pub returns : goal.returns
returns c = found_none _ _ _ (sym (c.loop-i.invariant) ∙ lacks_end _ (c.loop-i.i) (omega arith))
