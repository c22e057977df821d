use native.Mathlib.Omega.{arith}
use mathlib.Core.Path.{refl}
use Rattle.masks.proofs.Rules.{turns_start, turns_more, turns_stop, turns_end}
use Rattle.masks.proofs.turns.take_turns.Goals as goal

pub loop-i-init : goal.loop-i-init
loop-i-init c = (refl, turns_start _ _ _ _)

pub returns-then-not-take_turn : goal.returns-then-not-take_turn
returns-then-not-take_turn c = turns_stop _ _ _ _ _ _ c.loop-i.i _ (omega arith) c.take_turn.ensures c.if-not-take_turn.true c.loop-i.invariant.1

pub loop-i-preserved : goal.loop-i-preserved
loop-i-preserved c = (omega arith, turns_more _ _ _ _ _ _ c.loop-i.i _ (omega arith) c.take_turn.ensures c.if-not-take_turn.false c.loop-i.invariant.1)

pub returns : goal.returns
returns c = turns_end _ _ _ _ _ c.loop-i.i (omega arith) c.loop-i.invariant.1
