use Rattle.masks.proofs.Plannables.{Seeks}
use Rattle.masks.proofs.members.defines_mask.Given as goal

abbrev pub invariant-loop-j : goal.invariant-loop-j
invariant-loop-j l = Seeks l.text l.d l.place l.n l.j
