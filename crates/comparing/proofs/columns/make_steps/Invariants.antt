use Rattle.comparing.specs.Columns.{Holds, step_of_row}
use Rattle.comparing.proofs.columns.make_steps.Given as goal

abbrev pub invariant-loop-i : goal.invariant-loop-i
invariant-loop-i l = Holds (step_of_row l.d l.v l.names l.places l.r) l.i l.out
