use Rattle.comparing.specs.Columns.{Holds, name_of}
use Rattle.comparing.proofs.names.number_names.Given as goal

abbrev pub invariant-loop-i : goal.invariant-loop-i
invariant-loop-i l = Holds (name_of l.fn.a.text.now l.fn.a.definitions.now l.x l.fn.b.text.now l.fn.b.definitions.now l.x2 l.fn.of.text.now l.fn.of.definitions.now) l.i l.h
