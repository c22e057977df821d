-- `judging::judge`, `judging::judge_block` and `judging::judge_one` meet their contracts: the rows of a block in braces are fewer.
-- Assumes nothing.
use native.Mathlib.Omega.{arith}
use mathlib.Core.Path.{refl, sym, ◌∙◌, subst}
use Rattle.scopes.specs.Promises.{FindsDefinition}
use Rattle.blocks.proofs.Ranges.{after_later, after_inside}
use Rattle.judging.proofs.Judgements.{judging_start, judging_step, judging_end, block_by, block_empty, one_undefined, one_fault, one_inside, under_at}
use Rattle.lookups.proofs.Blocks.{firsts_empty, firsts_none}
use Rattle.judging.proofs.+judge_judge_block_judge_one.Goals as goal

pub judge-loop-k-init : goal.judge-loop-k-init
judge-loop-k-init t c = (omega arith, judging_start _ _ _ _ _ _ _ _ _ _)

pub judge-judge_one-f-requires : goal.judge-judge_one-f-requires
judge-judge_one-f-requires t c = (omega (arith, c.after-next.ensures, after_later c.args.st.now c.loop-k.k c.args.end c.loop-k-test.true, after_inside c.args.st.now c.loop-k.k c.args.end, c.loop-k.invariant.0, c.decreases), (omega (arith, c.after-next.ensures, after_later c.args.st.now c.loop-k.k c.args.end c.loop-k-test.true, after_inside c.args.st.now c.loop-k.k c.args.end, c.loop-k.invariant.0, c.decreases), c.requires.0, c.requires.1))

pub judge-loop-k-smaller : goal.judge-loop-k-smaller
judge-loop-k-smaller t c = omega (arith, c.after-next.ensures, after_later c.args.st.now c.loop-k.k c.args.end c.loop-k-test.true, after_inside c.args.st.now c.loop-k.k c.args.end)

pub judge-loop-k-preserved : goal.judge-loop-k-preserved
judge-loop-k-preserved t c = (omega (arith, c.after-next.ensures, after_later c.args.st.now c.loop-k.k c.args.end c.loop-k-test.true, c.loop-k.invariant.0), judging_step _ _ _ _ _ _ _ _ _ _ c.loop-k.k c.after-next.result c.loop-k.best c.judge_one-f.result c.sooner-best.result c.after-next.ensures c.sooner-best.ensures c.loop-k-test.true c.judge_one-f.ensures c.loop-k.invariant.1)

pub judge-returns : goal.judge-returns
judge-returns t c = judging_end _ _ _ _ _ _ _ _ _ _ c.loop-k.k c.loop-k.best c.loop-k-test.false c.loop-k.invariant.1

pub judge_block-lack_fault-requires : goal.judge_block-lack_fault-requires
judge_block-lack_fault-requires t c = (c.requires.named.ranks, firsts_empty _ _ _ _ _ refl, c.requires.owners)

pub judge_block-returns-then-end-from : goal.judge_block-returns-then-end-from
judge_block-returns-then-end-from t c = block_empty _ _ _ _ _ _ _ _ _ _ _ c.lack_fault.result c.if-end-from.true c.lack_fault.ensures

pub judge_block-lack_fault-a-requires : goal.judge_block-lack_fault-a-requires
judge_block-lack_fault-a-requires t c = (c.requires.named.ranks, firsts_empty _ _ _ _ _ refl, c.requires.owners)

pub judge_block-judge-b-requires : goal.judge_block-judge-b-requires
judge_block-judge-b-requires t c = (omega (arith, c.decreases), (c.requires, firsts_empty _ _ _ _ _ refl))

pub judge_block-sooner-requires : goal.judge_block-sooner-requires
judge_block-sooner-requires t c = tt

pub judge_block-returns-then-end-from-lt8 : goal.judge_block-returns-then-end-from-lt8
judge_block-returns-then-end-from-lt8 t c = block_by _ _ _ _ _ _ _ _ _ _ _ c.lack_fault-a.result c.judge-b.result c.sooner.result c.sooner.ensures c.lack_fault-a.ensures c.judge-b.ensures

pub judge_block-fill_firsts-requires : goal.judge_block-fill_firsts-requires
judge_block-fill_firsts-requires t c = firsts_none _ _ _ _ 64

pub judge_block-lack_fault-a-requires-then-z-lt-FEW : goal.judge_block-lack_fault-a-requires-then-z-lt-FEW
judge_block-lack_fault-a-requires-then-z-lt-FEW t c = (c.requires.named.ranks, c.fill_firsts.ensures, c.requires.owners)

pub judge_block-judge-b-requires-then-z-lt-FEW : goal.judge_block-judge-b-requires-then-z-lt-FEW
judge_block-judge-b-requires-then-z-lt-FEW t c = (omega (arith, c.decreases), (c.requires, c.fill_firsts.ensures))

pub judge_block-returns-then-z-lt-FEW : goal.judge_block-returns-then-z-lt-FEW
judge_block-returns-then-z-lt-FEW t c = block_by _ _ _ _ _ _ _ _ _ _ _ c.lack_fault-a-then-z-lt-FEW.result c.judge-b-then-z-lt-FEW.result c.sooner-then-z-lt-FEW.result c.sooner-then-z-lt-FEW.ensures c.lack_fault-a-then-z-lt-FEW.ensures c.judge-b-then-z-lt-FEW.ensures

pub judge_block-fill_firsts-requires-2 : goal.judge_block-fill_firsts-requires-2
judge_block-fill_firsts-requires-2 t c = firsts_none _ _ _ _ 513

pub judge_block-lack_fault-a-requires-2 : goal.judge_block-lack_fault-a-requires-2
judge_block-lack_fault-a-requires-2 t c = (c.requires.named.ranks, c.fill_firsts-2.ensures, c.requires.owners)

pub judge_block-judge-b-requires-2 : goal.judge_block-judge-b-requires-2
judge_block-judge-b-requires-2 t c = (omega (arith, c.decreases), (c.requires, c.fill_firsts-2.ensures))

pub judge_block-returns : goal.judge_block-returns
judge_block-returns t c = block_by _ _ _ _ _ _ _ _ _ _ _ c.lack_fault-a-2.result c.judge-b-2.result c.sooner-2.result c.sooner-2.ensures c.lack_fault-a-2.ensures c.judge-b-2.ensures

pub judge_one-find_definition-requires : goal.judge_one-find_definition-requires
judge_one-find_definition-requires t c = c.requires.1.named.definitions

pub judge_one-returns-in_default : goal.judge_one-returns-in_default
judge_one-returns-in_default t c = one_undefined _ _ _ _ _ _ _ _ _ _ _ _ c.cell_of-name.result c.cell_of-size.result c.cell_of-name.ensures c.cell_of-size.ensures (subst (λ r. FindsDefinition c.args.text.now c.args.d.now c.args.z.definitions c.args.key c.cell_of-name.result c.cell_of-size.result r) c.in_default.is c.find_definition.ensures)

pub judge_one-word_under-under-requires : goal.judge_one-word_under-under-requires
judge_one-word_under-under-requires t c = c.requires.1.named.enumerators

pub judge_one-own_fault-f-requires : goal.judge_one-own_fault-f-requires
judge_one-own_fault-f-requires t c = (c.requires.1.known, c.requires.1.named, c.requires.2, under_at _ _ _ c.args.st.now _ _ c.args.k _ _ _ c.cell_of-at.ensures c.cell_of-len.ensures c.word_under-under.ensures)

pub judge_one-returns-then-is_some : goal.judge_one-returns-then-is_some
judge_one-returns-then-is_some t c = one_fault _ _ _ _ _ _ _ _ _ _ _ _ c.cell_of-name.result c.cell_of-size.result c.cell_of-name.ensures c.cell_of-size.ensures _ c.own_fault-f.result (subst (λ r. FindsDefinition c.args.text.now c.args.d.now c.args.z.definitions c.args.key c.cell_of-name.result c.cell_of-size.result r) c.in-Some.is c.find_definition.ensures) c.own_fault-f.ensures (sym c.is_some.ensures ∙ c.if-is_some.true)

pub judge_one-overflow_add-k : goal.judge_one-overflow_add-k
judge_one-overflow_add-k t c = omega (arith, c.requires, c.ranges.next)

pub judge_one-judge_block-requires : goal.judge_one-judge_block-requires
judge_one-judge_block-requires t c = (omega (arith, c.decreases, c.requires), c.requires.1)

pub judge_one-returns : goal.judge_one-returns
judge_one-returns t c = one_inside _ _ _ _ _ _ _ _ _ _ _ _ c.cell_of-name.result c.cell_of-size.result c.cell_of-name.ensures c.cell_of-size.ensures _ c.cell_of-at.result c.cell_of-len.result c.word_under-under.result c.own_fault-f.result c.judge_block.result (subst (λ r. FindsDefinition c.args.text.now c.args.d.now c.args.z.definitions c.args.key c.cell_of-name.result c.cell_of-size.result r) c.in-Some.is c.find_definition.ensures) c.own_fault-f.ensures (sym c.is_some.ensures ∙ c.if-is_some.false) c.cell_of-at.ensures c.cell_of-len.ensures c.word_under-under.ensures c.judge_block.ensures
