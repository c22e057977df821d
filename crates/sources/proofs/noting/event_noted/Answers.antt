use native.Mathlib.Omega.{arith}
use Rattle.sources.proofs.Notings.{cell_inside, at_note}
use Rattle.sources.specs.Notes.{event_back}
use Rattle.sources.proofs.noting.event_noted.Goals as goal

pub offset_bounds-notes-cell : goal.offset_bounds-notes-cell
offset_bounds-notes-cell c = let i = cell_inside _ _ c.requires.1.0 c.requires.1.1.0 in omega arith

pub bounds-notes-cell : goal.bounds-notes-cell
bounds-notes-cell c = let i = cell_inside _ _ c.requires.1.0 c.requires.1.1.0 in omega arith

pub returns : goal.returns
returns c = at_note _ _ c.args.notes.now _ _ _ _ c.cell_for-cell.ensures c.event_back.ensures
