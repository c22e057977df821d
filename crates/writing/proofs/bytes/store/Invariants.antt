use Prim.Native.Nat.{◌≤◌, ◌-◌}
use mathlib.Core.Path.{◌≡◌}
use lib.ListN.{length, drop}
use lib.Seq.{sets}
use Rattle.writing.proofs.bytes.store.Given as goal

abbrev pub invariant-loop-byte : goal.invariant-loop-byte
invariant-loop-byte l = (l.byte-index ≤ length l.bytes) × (length l.out ≡ length l.initial.out) × (sets l.out l.j (drop l.byte-index l.bytes) ≡ sets l.initial.out l.at l.bytes)
