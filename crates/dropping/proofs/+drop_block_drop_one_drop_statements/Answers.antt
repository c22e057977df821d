-- `dropping::drop_block`, `dropping::drop_one` and `dropping::drop_statements` meet their contracts: the rows of a block in braces are fewer.
-- Assumes nothing.
use Rattle.dropping.proofs.Droppings.{dropping_start, dropping_step, dropping_end, block_empty, one_alone, one_inside, one_kept, one_marked}
use Rattle.lookups.proofs.Blocks.{firsts_empty, firsts_none}
use Rattle.blocks.proofs.Ranges.{after_later, after_inside}
use mathlib.Core.Path.{refl}
use native.Mathlib.Omega.{arith}
use Rattle.dropping.proofs.+drop_block_drop_one_drop_statements.Goals as goal

pub drop_block-returns-then-end-from : goal.drop_block-returns-then-end-from
drop_block-returns-then-end-from t c = block_empty _ _ _ _ _ _ _ _ _ _ c.if-end-from.true

pub drop_block-overflow_sub-end : goal.drop_block-overflow_sub-end
drop_block-overflow_sub-end t c = omega arith

pub drop_block-drop_statements-requires : goal.drop_block-drop_statements-requires
drop_block-drop_statements-requires t c = (omega (arith, c.decreases), (c.requires, firsts_empty _ _ _ _ _ refl))

pub drop_block-shape_of-marks-then-end-from-lt8 : goal.drop_block-shape_of-marks-then-end-from-lt8
drop_block-shape_of-marks-then-end-from-lt8 t c = omega (arith, c.drop_statements.auto)

pub drop_block-returns-then-end-from-lt8 : goal.drop_block-returns-then-end-from-lt8
drop_block-returns-then-end-from-lt8 t c = c.drop_statements.ensures

pub drop_block-fill_firsts-requires : goal.drop_block-fill_firsts-requires
drop_block-fill_firsts-requires t c = firsts_none _ _ _ _ 64

pub drop_block-drop_statements-requires-then-z-lt-FEW : goal.drop_block-drop_statements-requires-then-z-lt-FEW
drop_block-drop_statements-requires-then-z-lt-FEW t c = (omega (arith, c.decreases), (c.requires, c.fill_firsts.ensures))

pub drop_block-shape_of-marks-then-z-lt-FEW : goal.drop_block-shape_of-marks-then-z-lt-FEW
drop_block-shape_of-marks-then-z-lt-FEW t c = omega (arith, c.drop_statements-then-z-lt-FEW.auto)

pub drop_block-returns-then-z-lt-FEW : goal.drop_block-returns-then-z-lt-FEW
drop_block-returns-then-z-lt-FEW t c = c.drop_statements-then-z-lt-FEW.ensures

pub drop_block-fill_firsts-requires-2 : goal.drop_block-fill_firsts-requires-2
drop_block-fill_firsts-requires-2 t c = firsts_none _ _ _ _ 513

pub drop_block-drop_statements-requires-2 : goal.drop_block-drop_statements-requires-2
drop_block-drop_statements-requires-2 t c = (omega (arith, c.decreases), (c.requires, c.fill_firsts-2.ensures))

pub drop_block-shape_of-marks : goal.drop_block-shape_of-marks
drop_block-shape_of-marks t c = omega (arith, c.drop_statements-2.auto)

pub drop_block-returns : goal.drop_block-returns
drop_block-returns t c = c.drop_statements-2.ensures

pub drop_one-overflow_add-k : goal.drop_one-overflow_add-k
drop_one-overflow_add-k t c = omega (arith, c.requires.0, c.ranges.next)

pub drop_one-drop_alone-requires : goal.drop_one-drop_alone-requires
drop_one-drop_alone-requires t c = (c.requires.1.named, c.requires.2)

pub drop_one-shape_of-marks-then-next-k : goal.drop_one-shape_of-marks-then-next-k
drop_one-shape_of-marks-then-next-k t c = omega (arith, c.drop_alone.auto)

pub drop_one-returns-then-next-k : goal.drop_one-returns-then-next-k
drop_one-returns-then-next-k t c = one_alone _ _ _ _ _ _ _ _ _ _ _ _ _ (omega (arith, c.requires.0, c.if-next-k.true)) c.drop_alone.ensures

pub drop_one-verdict_on-requires : goal.drop_one-verdict_on-requires
drop_one-verdict_on-requires t c = (c.requires.1, c.requires.2)

pub drop_one-returns-in-Ok : goal.drop_one-returns-in-Ok
drop_one-returns-in-Ok t c = one_inside _ _ _ _ _ _ _ _ _ _ _ c.in-Ok.under c.in-Ok.ensures _ _ c.drop_block.ensures

pub drop_one-returns-then-number-gt-STATED_AGAIN : goal.drop_one-returns-then-number-gt-STATED_AGAIN
drop_one-returns-then-number-gt-STATED_AGAIN t c = one_kept _ _ _ _ _ _ _ _ _ _ _ c.in-Err.number c.in-Err.ensures _ (omega (arith, c.if-number-gt-STATED_AGAIN.true))

pub drop_one-returns-else-number-gt-STATED_AGAIN : goal.drop_one-returns-else-number-gt-STATED_AGAIN
drop_one-returns-else-number-gt-STATED_AGAIN t c = one_marked _ _ _ _ _ _ _ _ _ _ _ c.in-Err.number c.in-Err.ensures _ _ c.cell_of-name.result c.cell_of-name.ensures (omega (arith, c.if-number-gt-STATED_AGAIN.false)) c.mark.ensures

pub drop_statements-loop-k-init : goal.drop_statements-loop-k-init
drop_statements-loop-k-init t c = (omega arith, refl, dropping_start _ _ _ _ _ _ _ _ _ _)

pub drop_statements-after-next-requires : goal.drop_statements-after-next-requires
drop_statements-after-next-requires t c = tt

pub drop_statements-drop_one-requires : goal.drop_statements-drop_one-requires
drop_statements-drop_one-requires t c = (omega (arith, c.after-next.ensures, after_later c.args.st.now c.loop-k.k c.args.end c.loop-k-test.true, after_inside c.args.st.now c.loop-k.k c.args.end, c.loop-k.invariant.0, c.decreases), (omega (arith, c.after-next.ensures, after_later c.args.st.now c.loop-k.k c.args.end c.loop-k-test.true, c.loop-k.invariant.0), c.requires.0, c.requires.1))

pub drop_statements-loop-k-smaller : goal.drop_statements-loop-k-smaller
drop_statements-loop-k-smaller t c = omega (arith, c.after-next.ensures, after_later c.args.st.now c.loop-k.k c.args.end c.loop-k-test.true, after_inside c.args.st.now c.loop-k.k c.args.end)

pub drop_statements-loop-k-preserved : goal.drop_statements-loop-k-preserved
drop_statements-loop-k-preserved t c = (omega (arith, c.after-next.ensures, after_later c.args.st.now c.loop-k.k c.args.end c.loop-k-test.true, c.loop-k.invariant.0), omega (arith, c.drop_one.auto, c.loop-k.invariant.1), dropping_step _ _ _ _ _ _ _ _ _ c.loop-k.k c.after-next.result _ _ _ c.after-next.ensures c.loop-k-test.true c.drop_one.ensures c.loop-k.invariant.2)

pub drop_statements-shape_of-marks : goal.drop_statements-shape_of-marks
drop_statements-shape_of-marks t c = c.loop-k.invariant.1

pub drop_statements-returns : goal.drop_statements-returns
drop_statements-returns t c = dropping_end _ _ _ _ _ _ _ _ _ c.loop-k.k _ _ c.loop-k-test.false c.loop-k.invariant.2
