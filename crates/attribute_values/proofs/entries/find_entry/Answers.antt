use lib.Seq.{length-take-le}
use mathlib.Core.Path.{sym}
use native.Mathlib.Omega.{arith}
use Rattle.attribute_values.proofs.Stepping.{found_high, entry_is}
use Rattle.attribute_values.proofs.entries.find_entry.Goals as goal

pub slice_bounds-find_named-end : goal.slice_bounds-find_named-end
slice_bounds-find_named-end c = sym (length-take-le _ _ (omega (arith, c.find_byte-q.ensures, found_high 91 c.args.step.now 0 (omega arith))))

pub slice_bounds-find_named-count : goal.slice_bounds-find_named-count
slice_bounds-find_named-count c = omega (arith, c.find_byte-q.ensures, found_high 91 c.args.step.now 0 (omega arith))

pub slice_bounds-find_named-start : goal.slice_bounds-find_named-start
slice_bounds-find_named-start c = omega (arith, c.find_byte-q.ensures, found_high 91 c.args.step.now 0 (omega arith))

pub returns : goal.returns
returns c = entry_is _ _ _ _ _ _ _ _ _ _ c.find_byte-q.ensures c.find_named.ensures
