use Rattle.std.proofs.Common.{length, ◌≡◌}
use Rattle.oil_masks.proofs.read_list.Given as goal

abbrev pub invariant-loop-count : goal.invariant-loop-count
invariant-loop-count l = length l.list ≡ length l.initial.list
