-- `judging::marking::needs` meets its contract.
-- Assumes nothing.
use Rattle.lookups.proofs.Blocks.{firsts_empty}
use mathlib.Core.Path.{refl, sym, ◌∙◌, subst}
use mathlib.Core.Bool.{true, false}
use Rattle.judging.proofs.Lacking.{needs_no_size, needs_no_default, taking, needs_nothing, needs_under}
use Rattle.judging.specs.Promises.{Lacks}
use Rattle.token.specs.Find.{bit}
use Rattle.judging.proofs.marking.needs.Goals as goal

pub returns-then-len-eq0 : goal.returns-then-len-eq0
returns-then-len-eq0 c = λ o f x c' m a. c.single.ensures ∙ needs_no_size c' a (sym c.cell_of-len.ensures ∙ c.if-len-eq0.true)

pub returns-then-code-eq-NO_DEFAULT : goal.returns-then-code-eq-NO_DEFAULT
returns-then-code-eq-NO_DEFAULT c = λ o f x c' m a. c.single-then-code-eq-NO_DEFAULT.ensures ∙ needs_no_default c' a (sym c.cell_of-code.ensures ∙ c.if-code-eq-NO_DEFAULT.true)

pub returns-then-key-eq0 : goal.returns-then-key-eq0
returns-then-key-eq0 c = λ o f x c' m a. needs_nothing c' a (taking c' a c.cell_of-at.result c.cell_of-len.result c.word_under-key.result c.cell_of-at.ensures c.cell_of-len.ensures c.if-len-eq0.false (λ y. c.if-code-eq-NO_DEFAULT.false (c.cell_of-code.ensures ∙ y)) c.word_under-key.ensures) c.if-key-eq0.true

pub lacks-requires : goal.lacks-requires
lacks-requires c = (c.requires.1, firsts_empty _ _ _ _ _ refl)

pub returns-then-lacks : goal.returns-then-lacks
unfolding bit
returns-then-lacks c = λ o f x c' m a. needs_under c' a c.args.missing.now true (taking c' a c.cell_of-at.result c.cell_of-len.result c.word_under-key.result c.cell_of-at.ensures c.cell_of-len.ensures c.if-len-eq0.false (λ y. c.if-code-eq-NO_DEFAULT.false (c.cell_of-code.ensures ∙ y)) c.word_under-key.ensures) c.if-key-eq0.false m (subst (λ b. Lacks c.args.text.now c.args.d.now c.args.st.now c.args.missing.now c.args.j c.word_under-key.result 0 0 b) c.if-lacks.true c.lacks.ensures)

pub returns : goal.returns
unfolding bit
returns c = λ o f x c' m a. needs_under c' a c.args.missing.now false (taking c' a c.cell_of-at.result c.cell_of-len.result c.word_under-key.result c.cell_of-at.ensures c.cell_of-len.ensures c.if-len-eq0.false (λ y. c.if-code-eq-NO_DEFAULT.false (c.cell_of-code.ensures ∙ y)) c.word_under-key.ensures) c.if-key-eq0.false m (subst (λ b. Lacks c.args.text.now c.args.d.now c.args.st.now c.args.missing.now c.args.j c.word_under-key.result 0 0 b) c.if-lacks.false c.lacks.ensures)
