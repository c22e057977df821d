use native.Mathlib.Omega.{arith}
use Rattle.sources.proofs.Notings.{start, below_none, cell_inside, stop_small, line_fits, line_small, note_ends, note_goes, note_kept}
use lib.ListN.{length, length-set}
use mathlib.Core.Path.{refl, sym, ◌∙◌}
use Prim.Native.Nat.{◌<◌}
use Rattle.sources.proofs.noting.note_text.Goals as goal

pub loop-fault-init : goal.loop-fault-init
loop-fault-init c = (omega arith, refl, start 0 refl, below_none _ _)

pub cell_for-cell-requires : goal.cell_for-cell-requires
cell_for-cell-requires c = (c.requires.number, omega arith)

pub event_at-requires : goal.event_at-requires
event_at-requires c = (c.requires.told, c.loop-fault.invariant.0)

pub packed-requires : goal.packed-requires
packed-requires c = let o = stop_small _ _ _ _ c.requires.told c.requires.short c.loop-fault.invariant.0 _ _ (sym c.event_at.ensures ∙ c.in-Stop.is) in (omega arith, (omega arith, o))

pub offset_bounds-notes-cell : goal.offset_bounds-notes-cell
offset_bounds-notes-cell c = let i = cell_inside _ c.loop-fault.from c.requires.number (omega arith) in omega arith

pub bounds-notes-cell : goal.bounds-notes-cell
bounds-notes-cell c = let i = cell_inside _ c.loop-fault.from c.requires.number (omega arith) in omega arith

pub shape_of-notes-in-Stop : goal.shape_of-notes-in-Stop
shape_of-notes-in-Stop c = length-set c.loop-fault.notes c.cell_for-cell.result c.packed.result ∙ c.loop-fault.invariant.1

pub returns-in-Stop : goal.returns-in-Stop
returns-in-Stop c = let i = cell_inside _ c.loop-fault.from c.requires.number (omega arith) in let room : c.cell_for-cell.result < length c.loop-fault.notes = omega arith in note_ends _ _ _ _ _ _ _ _ _ room c.cell_for-cell.ensures c.loop-fault.invariant.2 c.loop-fault.invariant.3 _ _ (sym c.event_at.ensures ∙ c.in-Stop.is) c.packed.ensures

pub packed-requires-in-Include : goal.packed-requires-in-Include
packed-requires-in-Include c = line_small _ _ _ _ c.requires.told c.requires.short c.loop-fault.invariant.0 _ (sym c.event_at.ensures ∙ c.in-Include.is)

pub offset_bounds-notes-cell-in-Include : goal.offset_bounds-notes-cell-in-Include
offset_bounds-notes-cell-in-Include c = let i = cell_inside _ c.loop-fault.from c.requires.number (omega arith) in omega arith

pub bounds-notes-cell-in-Include : goal.bounds-notes-cell-in-Include
bounds-notes-cell-in-Include c = let i = cell_inside _ c.loop-fault.from c.requires.number (omega arith) in omega arith

pub loop-fault-smaller : goal.loop-fault-smaller
loop-fault-smaller c = let v = line_fits _ _ _ _ c.requires.told c.requires.short c.loop-fault.invariant.0 _ (sym c.event_at.ensures ∙ c.in-Include.is) in let f = v.first in let g = v.hash in let h = v.after in let z = v.last in omega arith

pub loop-fault-preserved : goal.loop-fault-preserved
loop-fault-preserved c = let v = line_fits _ _ _ _ c.requires.told c.requires.short c.loop-fault.invariant.0 _ (sym c.event_at.ensures ∙ c.in-Include.is) in let f = v.first in let g = v.hash in let h = v.after in let z = v.last in let i = cell_inside _ c.loop-fault.from c.requires.number (omega arith) in let room : c.cell_for-cell.result < length c.loop-fault.notes = omega arith in (z, length-set c.loop-fault.notes c.cell_for-cell.result c.packed-in-Include.result ∙ c.loop-fault.invariant.1, note_goes _ _ _ _ _ _ _ _ _ room c.cell_for-cell.ensures c.loop-fault.invariant.2 c.loop-fault.invariant.3 _ (sym c.event_at.ensures ∙ c.in-Include.is) c.packed-in-Include.ensures (omega arith), note_kept _ _ _ _ _ _ _ _ _ room c.cell_for-cell.ensures c.loop-fault.invariant.2 c.loop-fault.invariant.3)
