-- `resolving::scanning::next_row` meets its contract: the rows before i give no value.
-- Assumes nothing.
use mathlib.Core.Path.{refl}
use native.Mathlib.Omega.{arith}
use Rattle.resolving.proofs.Passing.{passes_start, passes_more, row_here, row_none}
use Rattle.resolving.proofs.scanning.next_row.Goals as goal

pub next_under-i-requires : goal.next_under-i-requires
next_under-i-requires c = (c.requires.0, (c.requires.1.0, c.requires.1.1.0.room))

pub loop-i-init : goal.loop-i-init
loop-i-init c = (c.next_under-i.ensures.low, (c.next_under-i.ensures.high, (passes_start c.next_under-i.ensures, c.next_under-i.ensures.here)))

pub stirs-requires : goal.stirs-requires
stirs-requires c = (omega (arith, c.requires.1.1.0.room), c.requires.1.1.0, c.requires.1.1.1)

pub returns-then-stirs : goal.returns-then-stirs
returns-then-stirs c = row_here c.loop-i.invariant.0 c.loop-i.invariant.1.0 c.loop-i.invariant.1.1.0 c.loop-i.invariant.1.1.1

pub next_under-i-requires-in-loop-i : goal.next_under-i-requires-in-loop-i
next_under-i-requires-in-loop-i c = (c.requires.0, (omega arith, c.requires.1.1.0.room))

pub loop-i-smaller : goal.loop-i-smaller
loop-i-smaller c = omega (arith, c.next_under-i-in-loop-i.ensures.low)

pub loop-i-preserved : goal.loop-i-preserved
loop-i-preserved c = (omega (arith, c.next_under-i-in-loop-i.ensures.low), (c.next_under-i-in-loop-i.ensures.high, (passes_more c.loop-i.invariant.1.1.0 c.stirs.ensures c.if-stirs.false refl c.next_under-i-in-loop-i.ensures, c.next_under-i-in-loop-i.ensures.here)))

pub returns : goal.returns
returns c = row_none c.loop-i.invariant.0 c.loop-i.invariant.1.0 (omega arith) c.loop-i.invariant.1.1.0
