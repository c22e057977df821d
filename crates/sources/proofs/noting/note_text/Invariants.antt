use Rattle.sources.proofs.Notings.{UpTo, Below}
use lib.ListN.{length}
use mathlib.Core.Path.{◌≡◌}
use Prim.Native.Nat.{◌-◌, ◌*◌, ◌≤◌}
use Rattle.sources.proofs.noting.note_text.Given as goal

abbrev pub invariant-loop-fault : goal.invariant-loop-fault
invariant-loop-fault l = (l.from ≤ length l.text) × (length l.notes ≡ length l.initial.notes) × UpTo l.buffer l.lengths l.notes l.number l.text l.from × Below (l.number * 6554) l.initial.notes l.notes

abbrev pub decreases-loop-fault : goal.decreases-loop-fault
decreases-loop-fault l = length l.text - l.from
