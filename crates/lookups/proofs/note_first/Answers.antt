use Rattle.lookups.proofs.Blocks.{noted_past, noted_here, noted_not}
use Rattle.lookups.proofs.note_first.Goals as goal

pub returns-then-first-g : goal.returns-then-first-g
returns-then-first-g c = noted_past _ _ _ _ c.if-first-g.true

pub returns-then-first-g-2 : goal.returns-then-first-g-2
returns-then-first-g-2 c = noted_here _ _ _ _ c.if-first-g-2.true

pub returns-else-first-g-2 : goal.returns-else-first-g-2
returns-else-first-g-2 c = noted_not _ _ _ _ c.if-first-g-2.false
