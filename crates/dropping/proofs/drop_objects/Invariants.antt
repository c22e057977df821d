use Rattle.dropping.proofs.Droppings.{DroppingObjects}
use lib.ListN.{length}
use Prim.Native.Nat.{◌-◌}
use mathlib.Core.Path.{◌≡◌}
use Rattle.dropping.proofs.drop_objects.Given as goal

abbrev pub invariant-loop-i : goal.invariant-loop-i
invariant-loop-i l = (length l.marks ≡ length l.initial.marks) × DroppingObjects l.text l.d l.e l.o l.st l.z l.places l.i l.initial.marks l.marks
