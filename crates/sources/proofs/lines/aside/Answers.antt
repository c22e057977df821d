use mathlib.Core.Path.{refl, sym, ◌∙◌, ap}
use native.Mathlib.Omega.{arith}
use Rattle.sources.specs.Lines.{aside}
use Rattle.sources.proofs.Asides.{aside_stay, aside_next, aside_on, aside_inside}
use Rattle.sources.proofs.lines.aside.Goals as goal

pub loop-i-init : goal.loop-i-init
loop-i-init c = refl

pub returns-then-next-i : goal.returns-then-next-i
returns-then-next-i c = sym (aside_stay _ c.loop-i.i (sym c.aside_at-next.ensures ∙ c.if-next-i.true)) ∙ c.loop-i.invariant

pub loop-i-smaller : goal.loop-i-smaller
loop-i-smaller c = let h = aside_on c.args.line.now c.loop-i.i (λ e. c.if-next-i.false (c.aside_at-next.ensures ∙ e)) in let k = aside_inside c.args.line.now c.loop-i.i (λ e. c.if-next-i.false (c.aside_at-next.ensures ∙ e)) in omega arith

pub loop-i-preserved : goal.loop-i-preserved
loop-i-preserved c = ap (aside _) c.aside_at-next.ensures ∙ sym (aside_next _ c.loop-i.i (λ e. c.if-next-i.false (c.aside_at-next.ensures ∙ e))) ∙ c.loop-i.invariant
