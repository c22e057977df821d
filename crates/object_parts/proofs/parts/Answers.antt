use Rattle.object_parts.proofs.Applied.{all, parts_on, parts_gone}
use Rattle.object_parts.specs.Rows.{AllRows}
use Rattle.filling.proofs.Filling.{going}
use Rattle.grammar.proofs.Rules.{kind_less}
use Rattle.grammar.specs.Grammar.{objects}
use mathlib.Core.Path.{sym, ◌∙◌}
use Rattle.object_parts.proofs.parts.Goals as goal

pub loop-kind-init : goal.loop-kind-init
loop-kind-init c = going all objects AllRows

pub loop-kind-smaller : goal.loop-kind-smaller
loop-kind-smaller c = kind_less (sym c.is_kind.ensures ∙ c.loop-kind-test.true) c.part-passed.ensures.fills.meets

pub loop-kind-preserved : goal.loop-kind-preserved
loop-kind-preserved c = parts_on c.loop-kind.invariant (sym c.is_kind.ensures ∙ c.loop-kind-test.true) c.kind_number-kind.ensures c.one_more-more.ensures c.part-passed.ensures

pub shape_of-p : goal.shape_of-p
shape_of-p c = c.loop-kind.invariant.does.1.size

pub shape_of-s : goal.shape_of-s
shape_of-s c = c.loop-kind.invariant.does.1.lines.1.size

pub returns : goal.returns
returns c = parts_gone c.loop-kind.invariant (sym c.is_kind.ensures ∙ c.loop-kind-test.false)
