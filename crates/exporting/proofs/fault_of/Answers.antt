use native.Mathlib.Omega.{arith}
use Rattle.exporting.proofs.Alone.{number_small}
use Rattle.sources.specs.declared.Expansion.{Expansion}
use mathlib.Core.Path.{ap}
use Rattle.exporting.proofs.fault_of.Goals as goal

pub overflow_cast-result : goal.overflow_cast-result
overflow_cast-result c = let q = ap (λ (y : Expansion). y.number) c.expand-e.ensures.result in let h = number_small c.args.text.now in omega (arith, q, h)

pub returns : goal.returns
returns c = ap (λ (y : Expansion). y.number) c.expand-e.ensures.result
