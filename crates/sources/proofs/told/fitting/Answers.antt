use Prim.Native.Nat.{◌*◌}
use mathlib.Core.Path.{refl, sym, ◌∙◌, ap}
use native.Mathlib.Omega.{arith}
use Rattle.sources.specs.Texts.{fitting}
use Rattle.sources.proofs.Tellings.{fit_last, fit_name, fit_text, fit_long, fit_more, on_two}
use Rattle.sources.proofs.told.fitting.Goals as goal

pub loop-k-init : goal.loop-k-init
loop-k-init c = (omega arith, refl)

pub returns-then-buffer-at : goal.returns-then-buffer-at
returns-then-buffer-at c = sym (fit_name _ c.loop-k.at _ (c.loop-k.k * 2) (omega arith) (omega arith)) ∙ c.loop-k.invariant.1

pub returns-then-buffer-at-2 : goal.returns-then-buffer-at-2
returns-then-buffer-at-2 c = sym (fit_text _ c.loop-k.at _ (c.loop-k.k * 2) (omega arith) (omega arith)) ∙ c.loop-k.invariant.1

pub returns-then-t-gt-LONGEST : goal.returns-then-t-gt-LONGEST
returns-then-t-gt-LONGEST c = sym (fit_long _ c.loop-k.at _ (c.loop-k.k * 2) (omega arith) (omega arith) (omega arith) (omega arith)) ∙ c.loop-k.invariant.1

pub loop-k-preserved : goal.loop-k-preserved
loop-k-preserved c = (omega arith, ap (fitting c.args.buffer.now _) (on_two _ c.loop-k.k) ∙ sym (fit_more _ c.loop-k.at _ (c.loop-k.k * 2) (omega arith) (omega arith) (omega arith) (omega arith)) ∙ c.loop-k.invariant.1)

pub returns : goal.returns
returns c = fit_last _ c.loop-k.at _ c.loop-k.k (omega arith) ∙ c.loop-k.invariant.1
