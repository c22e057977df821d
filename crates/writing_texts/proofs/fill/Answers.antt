use native.Mathlib.Omega.{arith}
use Rattle.writing_texts.proofs.Told.{thirty_writes, write_fills}
use Rattle.reading_texts.proofs.Told.{room_inside, two_told, small_number}
use lib.Seq.{length-take-le}
use mathlib.Core.Path.{sym, refl}
use Rattle.writing_texts.proofs.fill.Goals as goal

pub returns-then-e-eq-LONG_TEXTS : goal.returns-then-e-eq-LONG_TEXTS
returns-then-e-eq-LONG_TEXTS c = thirty_writes _ _ _ _ _ _ _ c.expand_to_read-e.ensures _ _ _ _ _ _ _ _ _ _ c.if-e-eq-LONG_TEXTS.true c.requires.1.1 c.clear.ensures c.clear-then-e-eq-LONG_TEXTS.ensures c.clear-then-e-eq-LONG_TEXTS-2.ensures c.clear-then-e-eq-LONG_TEXTS-3.ensures c.refusal.ensures

pub bounds-lengths-1 : goal.bounds-lengths-1
bounds-lengths-1 c = let h = two_told _ _ _ _ _ _ _ c.expand_to_read-e.ensures c.requires.0 c.requires.1.0 c.if-e-eq-LONG_TEXTS.false in omega arith

pub slice_bounds-write_expanded-end : goal.slice_bounds-write_expanded-end
slice_bounds-write_expanded-end c = room_inside _ _ _ _ _ _ _ c.expand_to_read-e.ensures c.requires.0 c.requires.1.0 c.if-e-eq-LONG_TEXTS.false

pub slice_bounds-write_expanded-end-2 : goal.slice_bounds-write_expanded-end-2
slice_bounds-write_expanded-end-2 c = sym (length-take-le _ _ (room_inside _ _ _ _ _ _ _ c.expand_to_read-e.ensures c.requires.0 c.requires.1.0 c.if-e-eq-LONG_TEXTS.false))

pub overflow_cast-e : goal.overflow_cast-e
overflow_cast-e c = let h = small_number _ _ _ _ _ _ _ c.expand_to_read-e.ensures c.requires.0 c.requires.1.0 c.if-e-eq-LONG_TEXTS.false in omega arith

pub returns : goal.returns
returns c = write_fills _ _ _ _ _ _ _ c.expand_to_read-e.ensures c.requires.0 c.requires.1.0 c.if-e-eq-LONG_TEXTS.false _ refl c.write_expanded.ensures
