use Prim.Native.Nat.{◌*◌}
use mathlib.Core.Path.{sym, ◌∙◌, ap}
use native.Mathlib.Omega.{arith}
use Rattle.sources.specs.Texts.{fitting}
use Rattle.sources.proofs.Tellings.{fits, on_two}
use Rattle.sources.proofs.Numberings.{span_first, span_here, span_next, span_last}
use Rattle.sources.proofs.parts.span_of.Goals as goal

pub loop-k-init : goal.loop-k-init
loop-k-init c = (omega arith, omega arith, c.requires, span_first _ _)

pub overflow_add-from : goal.overflow_add-from
overflow_add-from c = let f = fits _ c.loop-k.at _ (c.loop-k.k * 2) (omega arith) c.loop-k.invariant.2 in omega arith

pub overflow_add-to-in-loop-k : goal.overflow_add-to-in-loop-k
overflow_add-to-in-loop-k c = let f = fits _ c.loop-k.at _ (c.loop-k.k * 2) (omega arith) c.loop-k.invariant.2 in omega arith

pub returns-then-k-number : goal.returns-then-k-number
returns-then-k-number c = let f = fits _ c.loop-k.at _ (c.loop-k.k * 2) (omega arith) c.loop-k.invariant.2 in sym (span_here _ c.loop-k.at _ (c.loop-k.k * 2) _ f.two_left (omega arith)) ∙ c.loop-k.invariant.3

pub loop-k-preserved : goal.loop-k-preserved
loop-k-preserved c = let f = fits _ c.loop-k.at _ (c.loop-k.k * 2) (omega arith) c.loop-k.invariant.2 in (omega arith, omega arith, ap (fitting c.args.buffer.now _) (on_two _ c.loop-k.k) ∙ f.more, sym (span_next _ c.loop-k.at _ c.loop-k.k (omega arith) f.two_left) ∙ c.loop-k.invariant.3)

pub returns : goal.returns
returns c = sym (span_last _ _ c.loop-k.at c.args.lengths.now _ c.loop-k.k (omega arith) c.loop-k.invariant.2) ∙ c.loop-k.invariant.3
