use Rattle.masks.proofs.Rules.{Started}
use Rattle.masks.proofs.turns.start_masks.Given as goal

abbrev pub invariant-loop-i : goal.invariant-loop-i
invariant-loop-i l = Started l.given l.initial.masks l.masks l.i
