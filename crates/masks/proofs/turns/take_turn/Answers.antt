use native.Mathlib.Omega.{arith}
use Rattle.masks.proofs.Rules.{turn_given, turn_auto, turn_full}
use Rattle.masks.proofs.turns.take_turn.Goals as goal

pub returns-then-cell_of-eq-NUMBER : goal.returns-then-cell_of-eq-NUMBER
returns-then-cell_of-eq-NUMBER c = turn_given _ _ _ _ _ c.cell_of.ensures c.if-cell_of-eq-NUMBER.true

pub returns-then-k-lt-BITS : goal.returns-then-k-lt-BITS
returns-then-k-lt-BITS c = turn_auto _ _ _ _ _ c.cell_of.ensures c.if-cell_of-eq-NUMBER.false _ _ _ c.taken_bits.ensures c.lowest_zero-k.ensures c.if-k-lt-BITS.true c.power.ensures

pub returns : goal.returns
returns c = turn_full _ _ _ _ _ c.cell_of.ensures c.if-cell_of-eq-NUMBER.false _ _ c.taken_bits.ensures c.lowest_zero-k.ensures (omega arith)
