-- `explaining::lines::line_of` meets its contract: the LF before the place are counted.
-- Assumes nothing.
use Rattle.explaining.proofs.Counting.{feeds_most, line_is_of}
use lib.Seq.{length-take-le}
use lib.ListN.{take}
use native.Mathlib.Omega.{arith}
use Rattle.explaining.proofs.lines.line_of.Goals as goal

pub overflow_add-result : goal.overflow_add-result
overflow_add-result c = omega (arith, feeds_most (take c.args.at c.args.text.now), length-take-le c.args.at c.args.text.now (omega arith))

pub returns : goal.returns
returns c = line_is_of _ _ _ c.line_feeds-n.ensures
