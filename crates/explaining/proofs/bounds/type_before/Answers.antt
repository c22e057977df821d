-- `explaining::bounds::type_before` meets its contract: what is left to read decides the code as the whole text does.
-- Assumes nothing.
use mathlib.Core.Path.{sym, ◌∙◌}
use native.Mathlib.Omega.{arith}
use Rattle.token.proofs.Steps.{found_fits}
use Rattle.explaining.proofs.TypeWords.{left_start, left_late, left_bad, left_end, left_on, left_past}
use Rattle.explaining.proofs.bounds.type_before.Goals as goal

pub loop-at-init : goal.loop-at-init
loop-at-init c = left_start _ _

pub returns-then-place-t : goal.returns-then-place-t
returns-then-place-t c = left_late _ _ _ _ _ _ (sym c.step.ensures ∙ c.in-Found.is) c.if-place-t.true c.loop-at.invariant

pub loop-at-smaller : goal.loop-at-smaller
loop-at-smaller c = omega (arith, found_fits _ _ _ _ (sym c.step.ensures ∙ c.in-Found.is))

pub loop-at-preserved : goal.loop-at-preserved
loop-at-preserved c = left_on _ _ _ _ _ _ _ (sym c.step.ensures ∙ c.in-Found.is) c.if-place-t.false c.code_after-code.ensures c.loop-at.invariant

pub returns-in-Refused : goal.returns-in-Refused
returns-in-Refused c = left_bad _ _ _ _ _ (sym c.step.ensures ∙ c.in-Refused.is) c.loop-at.invariant

pub returns-in-End : goal.returns-in-End
returns-in-End c = left_end _ _ _ _ _ (sym c.step.ensures ∙ c.in-End.is) c.loop-at.invariant

pub returns : goal.returns
returns c = left_past c.args.text.now c.args.place _ c.loop-at.at (omega arith) c.loop-at.invariant
