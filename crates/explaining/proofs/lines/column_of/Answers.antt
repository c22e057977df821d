use native.Mathlib.Omega.{arith}
use Rattle.explaining.proofs.Starts.{start_low, column_is, column_most}
use Rattle.explaining.proofs.lines.column_of.Goals as goal

pub slice_bounds-characters-count : goal.slice_bounds-characters-count
slice_bounds-characters-count c = omega (arith, start_low c.args.text.now c.args.at)

pub slice_bounds-characters-start : goal.slice_bounds-characters-start
slice_bounds-characters-start c = omega (arith, start_low c.args.text.now c.args.at)

pub overflow_add-result : goal.overflow_add-result
overflow_add-result c = omega (arith, c.characters-count.ensures, column_most c.args.text.now c.args.at c.line_start-start.result (omega arith))

pub returns : goal.returns
returns c = column_is _ _ _ _ c.line_start-start.ensures c.characters-count.ensures
