use Rattle.releases.proofs.Telling.{SecondGoing}
use Rattle.releases.proofs.matching.second_objects.Given as goal

abbrev pub invariant-loop-j : goal.invariant-loop-j
invariant-loop-j l = SecondGoing l.fn.a.side.text.now l.fn.a.side.objects.now l.fn.a.objects.now l.fn.b.side.text.now l.fn.b.side.objects.now l.fn.b.many l.initial.all l.all l.j
