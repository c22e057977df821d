use Prim.Native.Nat.{◌≤◌, ◌-◌, ◌*◌}
use mathlib.Core.Path.{◌≡◌}
use mathlib.Core.Bool.{true}
use lib.ListN.{length, drop}
use Rattle.sources.specs.Texts.{fitting}
use Rattle.sources.specs.Numbering.{span_from, span_of}
use Rattle.sources.proofs.parts.span_of.Given as goal

abbrev pub invariant-loop-k : goal.invariant-loop-k
invariant-loop-k l = (l.at ≤ length l.buffer) × (l.k ≤ l.number) × (fitting l.buffer l.at (drop (l.k * 2) l.lengths) ≡ true) × (span_from l.number l.at (drop (l.k * 2) l.lengths) (l.number - l.k) ≡ span_of l.lengths l.number)
