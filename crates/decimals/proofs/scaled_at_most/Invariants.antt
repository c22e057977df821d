use lib.Dec.{leb}
use Prim.Native.Nat.{◌-◌, ◌*◌, ◌^◌}
use mathlib.Core.Path.{◌≡◌}
use Rattle.decimals.proofs.scaled_at_most.Given as goal

abbrev pub invariant-loop : goal.invariant-loop
invariant-loop l = leb (l.m * 10 ^ (l.power - l.counter)) l.bound ≡ leb (l.m * 10 ^ l.power) l.n
