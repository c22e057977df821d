use Rattle.merging.proofs.Turns.{Gathering}
use Prim.Native.Nat.{◌-◌, ◌≤◌}
use Rattle.merging.proofs.objects.gather.Given as goal

abbrev pub invariant-loop-j : goal.invariant-loop-j
invariant-loop-j l = (l.parts ≤ l.j) × (l.j - l.i ≤ l.n - l.i) × Gathering l.p l.st l.x l.i l.n l.j l.initial.out l.m l.out l.row l.parts
