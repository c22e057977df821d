-- `explaining::lines::line_feeds` meets its contract: what is counted and what is left to count are the whole.
-- Assumes nothing.
use Rattle.explaining.proofs.Counting.{feed_most, feeds_more, feeds_end}
use lib.ListN.{get_or}
use native.Mathlib.Omega.{arith}
use Rattle.explaining.proofs.lines.line_feeds.Goals as goal

pub overflow_add-n : goal.overflow_add-n
overflow_add-n c = omega (arith, feed_most (get_or c.args.bytes.now c.loop-b.b-index 0))

pub loop-b-preserved : goal.loop-b-preserved
loop-b-preserved c = (omega (arith, feed_most (get_or c.args.bytes.now c.loop-b.b-index 0)), omega (arith, feeds_more c.args.bytes.now c.loop-b.b-index (omega arith)))

pub returns : goal.returns
returns c = omega (arith, feeds_end c.args.bytes.now c.loop-b.b-index (omega arith))
