-- `explaining::characters::count` meets its contract: what is counted and what is left to count are the whole.
-- Assumes nothing.
use Rattle.explaining.proofs.Letters.{start_most, starts_more, starts_end}
use lib.ListN.{get_or}
use native.Mathlib.Omega.{arith}
use Rattle.explaining.proofs.characters.count.Goals as goal

pub overflow_add-n : goal.overflow_add-n
overflow_add-n c = omega (arith, start_most (get_or c.args.bytes.now c.loop-b.b-index 0))

pub loop-b-preserved : goal.loop-b-preserved
loop-b-preserved c = (omega (arith, start_most (get_or c.args.bytes.now c.loop-b.b-index 0)), omega (arith, starts_more c.args.bytes.now c.loop-b.b-index (omega arith)))

pub returns : goal.returns
returns c = omega (arith, starts_end c.args.bytes.now c.loop-b.b-index (omega arith))
