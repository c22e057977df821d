use Prim.Native.Nat.{◌≤◌, ◌*◌}
use mathlib.Core.Path.{◌≡◌}
use lib.ListN.{length, drop}
use Rattle.sources.specs.Texts.{fitting}
use Rattle.sources.proofs.told.fitting.Given as goal

abbrev pub invariant-loop-k : goal.invariant-loop-k
invariant-loop-k l = (l.at ≤ length l.buffer) × (fitting l.buffer l.at (drop (l.k * 2) l.lengths) ≡ fitting l.buffer 0 l.lengths)
