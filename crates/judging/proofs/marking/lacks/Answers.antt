-- `judging::marking::lacks` meets its contract.
-- Assumes nothing.
use Rattle.judging.proofs.Lacking.{passed_start, passed_stop, passed_more, passed_none, passed_end, found_low, found_high}
use Rattle.judging.specs.Promises.{LacksRow}
use mathlib.Core.Path.{sym, ◌∙◌, subst}
use native.Mathlib.Omega.{arith}
use Rattle.judging.proofs.marking.lacks.Goals as goal

pub loop-i-init : goal.loop-i-init
loop-i-init c = passed_start _ _ _ _ _ _ _ _

pub returns-in_default : goal.returns-in_default
returns-in_default c = passed_none _ _ _ _ _ _ _ _ _ (sym c.find_under.ensures ∙ c.in_default.is) c.loop-i.invariant

pub lacks_row-requires : goal.lacks_row-requires
lacks_row-requires c = c.requires

pub returns-then-lacks_row : goal.returns-then-lacks_row
returns-then-lacks_row c = passed_stop _ _ _ _ _ _ _ _ _ _ (sym c.find_under.ensures ∙ c.in-Some.is) (subst (λ b. LacksRow c.args.text.now c.args.d.now c.args.st.now c.args.missing.now c.in-Some.j c.args.from c.args.end b) c.if-lacks_row.true c.lacks_row.ensures)

pub overflow_add-i : goal.overflow_add-i
overflow_add-i c = omega (arith, found_high _ _ _ _ _ (sym c.find_under.ensures ∙ c.in-Some.is))

pub loop-i-smaller : goal.loop-i-smaller
loop-i-smaller c = omega (arith, found_low _ _ _ _ _ (sym c.find_under.ensures ∙ c.in-Some.is), found_high _ _ _ _ _ (sym c.find_under.ensures ∙ c.in-Some.is))

pub loop-i-preserved : goal.loop-i-preserved
loop-i-preserved c = passed_more _ _ _ _ _ _ _ _ _ _ (sym c.find_under.ensures ∙ c.in-Some.is) (subst (λ b. LacksRow c.args.text.now c.args.d.now c.args.st.now c.args.missing.now c.in-Some.j c.args.from c.args.end b) c.if-lacks_row.false c.lacks_row.ensures) c.loop-i.invariant

pub returns : goal.returns
returns c = passed_end _ _ _ _ _ _ _ _ c.loop-i.i (omega arith) c.loop-i.invariant
