use Rattle.releases.proofs.Telling.{FirstGoing}
use Rattle.releases.proofs.matching.first_objects.Given as goal

abbrev pub invariant-loop-i : goal.invariant-loop-i
invariant-loop-i l =
    FirstGoing l.fn.a.side.text.now l.fn.a.side.definitions.now l.fn.a.side.objects.now l.fn.a.side.values.now l.h l.fn.a.starts.now
    l.fn.b.side.text.now l.fn.b.side.definitions.now l.fn.b.side.objects.now l.fn.b.side.values.now l.h2 l.fn.b.objects.now l.fn.b.starts.now l.fn.a.many l.initial.all l.all l.i
