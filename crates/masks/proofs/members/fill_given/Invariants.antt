use Rattle.masks.specs.Members.{Filled}
use Rattle.masks.proofs.members.fill_given.Given as goal

abbrev pub invariant-loop-j : goal.invariant-loop-j
invariant-loop-j l = Filled l.text l.d l.v l.n l.rows l.j l.initial.given l.given
