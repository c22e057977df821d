use Rattle.mending.proofs.Endings.{ending_start, ending_rest, ending-found, ending-on}
use Rattle.token.proofs.Steps.{found_fits}
use native.Mathlib.Omega.{arith}
use mathlib.Core.Path.{sym, ◌∙◌}
use Rattle.mending.proofs.statements.statement_end.Goals as goal

pub loop-t-init : goal.loop-t-init
loop-t-init c = ending_start _ _

pub returns-then-is_last : goal.returns-then-is_last
returns-then-is_last c = ending-found c.loop-t.invariant _ _ _ (sym c.step.ensures ∙ c.in-Found.is) c.punctuator_of-b.ensures _ c.is_last.ensures c.if-is_last.true

pub open_after-depth-requires : goal.open_after-depth-requires
open_after-depth-requires c =
    let o = found_fits _ _ _ _ (sym c.step.ensures ∙ c.in-Found.is) in
    omega (arith, c.loop-t.invariant.low, o.after, o.long, o.next, o.inside, c.well_formed)

pub loop-t-smaller : goal.loop-t-smaller
loop-t-smaller c = let o = found_fits _ _ _ _ (sym c.step.ensures ∙ c.in-Found.is) in omega (arith, o.after, o.long, o.next, o.inside)

pub loop-t-preserved : goal.loop-t-preserved
loop-t-preserved c = ending-on c.loop-t.invariant _ _ _ (sym c.step.ensures ∙ c.in-Found.is) c.punctuator_of-b.ensures _ c.is_last.ensures c.if-is_last.false _ c.open_after-depth.ensures

pub returns : goal.returns
returns c = ending_rest c.loop-t.invariant (λ t k e. c.in_default.not-Found t k (c.step.ensures ∙ e))
