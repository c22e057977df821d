use mathlib.Core.Path.{refl, sym, ◌∙◌}
use native.Mathlib.Omega.{arith}
use Rattle.blocks.proofs.Ranges.{after_later, after_inside}
use Rattle.statement_causes.proofs.Seeking.{seeking_start, seeking_stop, seeking-inside, seeking-more, seeking_end}
use Rattle.statement_causes.proofs.+seek.Goals as goal

pub loop-k-init : goal.loop-k-init
loop-k-init t c = (omega arith, seeking_start _ _ _ _ _ _ _ _ _)

pub returns-then-touches : goal.returns-then-touches
returns-then-touches t c = seeking_stop _ _ _ _ _ _ _ _ _ c.loop-k.k c.loop-k-test.true c.loop-k.invariant.1 (sym c.touches.ensures ∙ c.if-touches.true)

pub seek-inner-requires : goal.seek-inner-requires
seek-inner-requires t c = (omega (arith, c.after-next.ensures, after_later c.args.st.now c.loop-k.k c.args.end c.loop-k-test.true, after_inside c.args.st.now c.loop-k.k c.args.end, c.loop-k.invariant.0, c.decreases), c.requires)

pub returns-then-inner : goal.returns-then-inner
returns-then-inner t c = seeking-inside _ _ _ _ _ _ _ _ _ c.loop-k.k c.loop-k-test.true c.loop-k.invariant.1 (sym c.touches.ensures ∙ c.if-touches.false) c.after-next.result c.scope_inside-under.result c.seek-inner.result c.after-next.ensures c.scope_inside-under.ensures c.seek-inner.ensures c.if-inner.true

pub loop-k-smaller : goal.loop-k-smaller
loop-k-smaller t c = omega (arith, c.after-next.ensures, after_later c.args.st.now c.loop-k.k c.args.end c.loop-k-test.true, after_inside c.args.st.now c.loop-k.k c.args.end)

pub loop-k-preserved : goal.loop-k-preserved
loop-k-preserved t c = (omega (arith, c.after-next.ensures, after_later c.args.st.now c.loop-k.k c.args.end c.loop-k-test.true, c.loop-k.invariant.0), seeking-more _ _ _ _ _ _ _ _ _ c.loop-k.k c.loop-k-test.true c.loop-k.invariant.1 (sym c.touches.ensures ∙ c.if-touches.false) c.after-next.result c.scope_inside-under.result c.seek-inner.result c.after-next.ensures c.scope_inside-under.ensures c.seek-inner.ensures c.if-inner.false)

pub returns : goal.returns
returns t c = seeking_end _ _ _ _ _ _ _ _ _ c.loop-k.k _ c.loop-k-test.false refl c.loop-k.invariant.1
