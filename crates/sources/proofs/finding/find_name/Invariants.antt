use Prim.Native.Nat.{◌≤◌, ◌*◌}
use mathlib.Core.Path.{◌≡◌}
use mathlib.Core.Bool.{true}
use lib.ListN.{length, drop}
use Rattle.sources.specs.Texts.{fitting, find_from, find_name}
use Rattle.sources.proofs.finding.find_name.Given as goal

abbrev pub invariant-loop-number : goal.invariant-loop-number
invariant-loop-number l = (l.at ≤ length l.buffer) × (fitting l.buffer l.at (drop (l.number * 2) l.lengths) ≡ true) × (find_from l.buffer l.number l.at (drop (l.number * 2) l.lengths) l.name ≡ find_name l.buffer l.lengths l.name)
