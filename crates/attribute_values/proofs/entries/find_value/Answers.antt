use native.Mathlib.Omega.{arith}
use Rattle.attribute_values.proofs.Stepping.{found_low, found_high, path_lost, path_end, path_on, entry_below}
use mathlib.Core.Path.{refl, sym, ◌∙◌}
use Rattle.attribute_values.proofs.entries.find_value.Goals as goal

pub loop-k-init : goal.loop-k-init
loop-k-init c = (omega arith, refl)

pub slice_bounds-find_entry-count : goal.slice_bounds-find_entry-count
slice_bounds-find_entry-count c = omega (arith, c.find_byte-dot.ensures, found_low 46 c.args.path.now c.loop-k.at)

pub slice_bounds-find_entry-start : goal.slice_bounds-find_entry-start
slice_bounds-find_entry-start c = omega (arith, c.find_byte-dot.ensures, found_low 46 c.args.path.now c.loop-k.at)

pub slice_bounds-find_entry-end : goal.slice_bounds-find_entry-end
slice_bounds-find_entry-end c = omega (arith, c.find_byte-dot.ensures, found_high 46 c.args.path.now c.loop-k.at c.loop-k.invariant.0)

pub returns-in_default : goal.returns-in_default
returns-in_default c = path_lost _ _ _ _ c.args.path.now c.loop-k.at c.loop-k.from c.loop-k.sort c.loop-k.row c.loop-k.invariant.0 _ c.find_byte-dot.ensures _ c.loop-k.invariant.1 (sym c.in_default.is ∙ c.find_entry.ensures)

pub returns-then-path-dot : goal.returns-then-path-dot
returns-then-path-dot c = path_end _ _ _ _ c.args.path.now c.loop-k.at c.loop-k.from c.loop-k.sort c.loop-k.row c.loop-k.invariant.0 _ c.find_byte-dot.ensures _ c.loop-k.invariant.1 _ (sym c.in-Some.is ∙ c.find_entry.ensures) c.if-path-dot.true

pub loop-k-preserved : goal.loop-k-preserved
loop-k-preserved c = (omega arith, path_on _ _ _ _ c.args.path.now c.loop-k.at c.loop-k.from c.loop-k.sort c.loop-k.row c.loop-k.invariant.0 _ c.find_byte-dot.ensures _ c.loop-k.invariant.1 _ (sym c.in-Some.is ∙ c.find_entry.ensures) c.if-path-dot.false)

pub overflow_add-from : goal.overflow_add-from
overflow_add-from c = omega (arith, entry_below _ _ _ _ _ _ _ _ _ (sym c.in-Some.is ∙ c.find_entry.ensures))

pub loop-k-smaller : goal.loop-k-smaller
loop-k-smaller c = omega (arith, c.find_byte-dot.ensures, found_low 46 c.args.path.now c.loop-k.at)
