use Rattle.std.proofs.Common.{sym, ◌∙◌}
use Rattle.implementation.proofs.Implementing.{all, specs_on, specs_gone}
use Rattle.implementation.proofs.Noting.{noted}
use Rattle.implementation.specs.Places.{AllRows}
use Rattle.filling.proofs.Filling.{going}
use Rattle.grammar.proofs.Rules.{kind_less}
use Rattle.grammar.specs.Grammar.{specs}
use Rattle.implementation.proofs.specs.Goals as goal

pub loop-kind-init : goal.loop-kind-init
loop-kind-init c = going all specs AllRows

pub loop-kind-smaller : goal.loop-kind-smaller
loop-kind-smaller c = kind_less (sym c.is_kind.ensures ∙ c.loop-kind-test.true) c.spec-spot.ensures.fills.meets

pub loop-kind-preserved : goal.loop-kind-preserved
loop-kind-preserved c = specs_on c.loop-kind.invariant (sym c.is_kind.ensures ∙ c.loop-kind-test.true) c.kind_number-kind.ensures (noted _ _ (record { marks = c.loop-kind.marks; places = c.loop-kind.places; again = c.loop-kind.again }) c.cell-mark.ensures c.with_place-p.ensures c.again_at-g.ensures c.with_cell-q.ensures) c.spec-spot.ensures

pub shape_of-d : goal.shape_of-d
shape_of-d c = c.loop-kind.invariant.does.1.0.size

pub shape_of-e : goal.shape_of-e
shape_of-e c = c.loop-kind.invariant.does.1.1.size

pub returns : goal.returns
returns c = specs_gone c.loop-kind.invariant (sym c.is_kind.ensures ∙ c.loop-kind-test.false)
