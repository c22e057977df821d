use native.Mathlib.Omega.{arith}
use Rattle.attribute_values.proofs.Seeking.{loop_stop, loop_other, loop_pass, loop_done}
use mathlib.Core.Path.{refl, sym, ◌∙◌}
use Rattle.attribute_values.proofs.entries.find_named.Goals as goal

pub loop-k-init : goal.loop-k-init
loop-k-init c = (omega arith, refl)

pub loop-k-preserved-then-not-is_named : goal.loop-k-preserved-then-not-is_named
loop-k-preserved-then-not-is_named c = (omega (arith, c.loop-k.invariant.0), loop_pass _ _ c.args.e c.loop-k.k c.loop-k.n _ c.loop-k.invariant.1 (omega arith) (sym c.is_named.ensures ∙ c.if-not-is_named.true))

pub returns-then-is_picked : goal.returns-then-is_picked
returns-then-is_picked c = loop_stop _ _ c.args.e c.loop-k.k c.loop-k.n _ c.loop-k.invariant.1 (omega arith) (sym c.is_named.ensures ∙ c.if-not-is_named.false) (sym c.is_picked.ensures ∙ c.if-is_picked.true)

pub loop-k-preserved : goal.loop-k-preserved
loop-k-preserved c = (omega (arith, c.loop-k.invariant.0), loop_other _ _ c.args.e c.loop-k.k c.loop-k.n _ c.loop-k.invariant.1 (omega arith) (sym c.is_named.ensures ∙ c.if-not-is_named.false) (sym c.is_picked.ensures ∙ c.if-is_picked.false))

pub returns : goal.returns
returns c = loop_done _ _ c.args.e c.loop-k.k c.loop-k.n _ c.loop-k.invariant.1 (omega arith)

pub overflow_add-n : goal.overflow_add-n
overflow_add-n c = omega (arith, c.loop-k.invariant.0)
