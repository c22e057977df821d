use Prim.Native.Nat.{◌*◌}
use mathlib.Core.Path.{refl, sym, ◌∙◌, ap}
use native.Mathlib.Omega.{arith}
use Rattle.sources.specs.Texts.{fitting, find_name}
use Rattle.token.proofs.Codes.{same_pointwise}
use Rattle.sources.proofs.Tellings.{fits, find_here, find_next, find_last, on_two}
use Rattle.sources.proofs.finding.find_name.Goals as goal

pub loop-number-init : goal.loop-number-init
unfolding find_name
loop-number-init c = (omega arith, c.requires, refl)

pub overflow_add-from : goal.overflow_add-from
overflow_add-from c = let f = fits _ c.loop-number.at _ (c.loop-number.number * 2) (omega arith) c.loop-number.invariant.1 in omega arith

pub overflow_add-to-in-loop-number : goal.overflow_add-to-in-loop-number
overflow_add-to-in-loop-number c = let f = fits _ c.loop-number.at _ (c.loop-number.number * 2) (omega arith) c.loop-number.invariant.1 in omega arith

pub slice_bounds-eq-end : goal.slice_bounds-eq-end
slice_bounds-eq-end c = let f = fits _ c.loop-number.at _ (c.loop-number.number * 2) (omega arith) c.loop-number.invariant.1 in omega arith

pub returns-then-eq : goal.returns-then-eq
returns-then-eq c = let f = fits _ c.loop-number.at _ (c.loop-number.number * 2) (omega arith) c.loop-number.invariant.1 in sym (find_here _ c.loop-number.number c.loop-number.at _ (c.loop-number.number * 2) _ f.two_left (sym (same_pointwise _ _) ∙ sym c.eq.ensures ∙ c.if-eq.true)) ∙ c.loop-number.invariant.2

pub loop-number-preserved : goal.loop-number-preserved
loop-number-preserved c = let f = fits _ c.loop-number.at _ (c.loop-number.number * 2) (omega arith) c.loop-number.invariant.1 in (omega arith, ap (fitting c.args.buffer.now _) (on_two _ c.loop-number.number) ∙ f.more, sym (find_next _ c.loop-number.at _ c.loop-number.number _ f.two_left (sym (same_pointwise _ _) ∙ sym c.eq.ensures ∙ c.if-eq.false)) ∙ c.loop-number.invariant.2)

pub returns : goal.returns
returns c = sym (find_last _ c.loop-number.number c.loop-number.at c.args.lengths.now _ (omega arith) c.loop-number.invariant.1) ∙ c.loop-number.invariant.2
