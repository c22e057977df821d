-- `judging::values::own_fault` meets its contract.
-- Assumes nothing.
use mathlib.Core.Path.{◌∙◌, ap}
use Rattle.rows.specs.Order.{sooner as sooner-of}
use Rattle.judging.proofs.Judgements.{own_by}
use Rattle.judging.proofs.values.own_fault.Goals as goal

pub again-requires : goal.again-requires
again-requires c = (c.requires.1.ranks, c.requires.2)

pub value_fault-b-requires : goal.value_fault-b-requires
value_fault-b-requires c = (c.requires.0, c.requires.1, c.requires.3)

pub returns : goal.returns
returns c = λ f x y b a h q. c.sooner.ensures ∙ ap (λ g. sooner-of g c.value_fault-b.result) c.fault_if-a.ensures ∙ own_by a c.cell_of-name.result c.again.result c.value_fault-b.result b c.cell_of-name.ensures (c.again.ensures f x y b a h q) (c.value_fault-b.ensures f x y a)
