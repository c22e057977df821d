use mathlib.Core.Path.{sym, ◌∙◌, subst}
use native.Mathlib.Omega.{arith}
use Rattle.statement_causes.specs.Promises.{MissesRow}
use Rattle.blocks.specs.Blocks.{IsStated}
use Rattle.statement_causes.proofs.Missings.{misses_nowhere, over_none, over_stop, over_more, over_end, found_low, found_high, row_stated, row_no_size, row_no_default, row_default}
use Rattle.statement_causes.proofs.+missing_missing_of.Goals as goal

pub missing-returns-then-key-eq0 : goal.missing-returns-then-key-eq0
missing-returns-then-key-eq0 t c = misses_nowhere _ _ _ _ _ _ _ _ _ c.if-key-eq0.true

pub missing-returns-in_default : goal.missing-returns-in_default
missing-returns-in_default t c = over_none _ _ _ _ _ _ _ _ _ c.loop-i.i c.if-key-eq0.false (sym c.find_row.ensures ∙ c.in_default.is) c.loop-i.invariant

pub missing-missing_of-r-requires : goal.missing-missing_of-r-requires
missing-missing_of-r-requires t c = (omega (arith, c.decreases, found_high _ _ _ _ _ (sym c.find_row.ensures ∙ c.in-Some.is)), c.requires)

pub missing-returns-then-r-ne0 : goal.missing-returns-then-r-ne0
missing-returns-then-r-ne0 t c = over_stop _ _ _ _ _ _ _ _ _ c.loop-i.i _ c.missing_of-r.result (sym c.find_row.ensures ∙ c.in-Some.is) c.missing_of-r.ensures c.if-r-ne0.true c.if-key-eq0.false

pub missing-overflow_add-i : goal.missing-overflow_add-i
missing-overflow_add-i t c = omega (arith, found_high _ _ _ _ _ (sym c.find_row.ensures ∙ c.in-Some.is))

pub missing-loop-i-smaller : goal.missing-loop-i-smaller
missing-loop-i-smaller t c = omega (arith, found_low _ _ _ _ _ (sym c.find_row.ensures ∙ c.in-Some.is), found_high _ _ _ _ _ (sym c.find_row.ensures ∙ c.in-Some.is))

pub missing-loop-i-preserved : goal.missing-loop-i-preserved
missing-loop-i-preserved t c = over_more _ _ _ _ _ _ _ _ _ c.loop-i.i _ c.missing_of-r.result (sym c.find_row.ensures ∙ c.in-Some.is) c.missing_of-r.ensures c.if-r-ne0.false c.loop-i.invariant

pub missing-returns : goal.missing-returns
missing-returns t c = over_end _ _ _ _ _ _ _ _ _ c.loop-i.i c.if-key-eq0.false c.loop-i-test.false c.loop-i.invariant

pub missing_of-returns-then-is_stated : goal.missing_of-returns-then-is_stated
missing_of-returns-then-is_stated t c = row_stated _ _ _ _ _ _ _ _ c.cell_of-name.result c.cell_of-size.result c.cell_of-name.ensures c.cell_of-size.ensures (subst (λ b. IsStated c.args.text.now c.args.st.now c.args.from c.args.end c.cell_of-name.result c.cell_of-size.result b) c.if-is_stated.true c.is_stated.ensures)

pub missing_of-returns-then-len-eq0 : goal.missing_of-returns-then-len-eq0
missing_of-returns-then-len-eq0 t c = subst (λ r. MissesRow c.args.text.now c.args.d.now c.args.e.now c.args.st.now c.args.z c.args.j c.args.from c.args.end r) (sym c.single_place.ensures) (row_no_size _ _ _ _ _ _ _ _ c.cell_of-name.result c.cell_of-size.result c.cell_of-name.ensures c.cell_of-size.ensures (subst (λ b. IsStated c.args.text.now c.args.st.now c.args.from c.args.end c.cell_of-name.result c.cell_of-size.result b) c.if-is_stated.false c.is_stated.ensures) (sym c.cell_of-len.ensures ∙ c.if-len-eq0.true))

pub missing_of-returns-then-cell_of-eq-NO_DEFAULT : goal.missing_of-returns-then-cell_of-eq-NO_DEFAULT
missing_of-returns-then-cell_of-eq-NO_DEFAULT t c = subst (λ r. MissesRow c.args.text.now c.args.d.now c.args.e.now c.args.st.now c.args.z c.args.j c.args.from c.args.end r) (sym c.single_place-then-cell_of-eq-NO_DEFAULT.ensures) (row_no_default _ _ _ _ _ _ _ _ c.cell_of-name.result c.cell_of-size.result c.cell_of-name.ensures c.cell_of-size.ensures (subst (λ b. IsStated c.args.text.now c.args.st.now c.args.from c.args.end c.cell_of-name.result c.cell_of-size.result b) c.if-is_stated.false c.is_stated.ensures) (sym c.cell_of.ensures ∙ c.if-cell_of-eq-NO_DEFAULT.true))

pub missing_of-returns : goal.missing_of-returns
missing_of-returns t c = row_default _ _ _ _ _ _ _ _ c.cell_of-name.result c.cell_of-size.result c.cell_of-name.ensures c.cell_of-size.ensures (subst (λ b. IsStated c.args.text.now c.args.st.now c.args.from c.args.end c.cell_of-name.result c.cell_of-size.result b) c.if-is_stated.false c.is_stated.ensures) c.cell_of-at.result c.cell_of-len.result c.word_under-key.result c.missing.result c.cell_of-at.ensures c.cell_of-len.ensures c.if-len-eq0.false (λ y. c.if-cell_of-eq-NO_DEFAULT.false (c.cell_of.ensures ∙ y)) c.word_under-key.ensures c.missing.ensures
