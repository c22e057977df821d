-- `judging::judge`, `judging::judge_block` and `judging::judge_one` meet their contracts: the rows of a block in braces are fewer.
-- Assumes nothing.
use Prim.Native.Nat.{◌+◌, ◌*◌, ◌-◌, ◌≤◌}
use Rattle.judging.proofs.Judgements.{Judging}
use Rattle.judging.proofs.+judge_judge_block_judge_one.Given as goal

abbrev pub decreases-judge : goal.decreases-judge
decreases-judge l = 3 * (l.end - l.from) + 1

abbrev pub invariant-judge-loop-k : goal.invariant-judge-loop-k
invariant-judge-loop-k l = (l.from ≤ l.k) × Judging l.text l.d l.e l.o l.st l.known l.z l.key l.from l.end l.k l.best

abbrev pub decreases-judge-loop-k : goal.decreases-judge-loop-k
decreases-judge-loop-k l = l.end - l.k

abbrev pub decreases-judge_block : goal.decreases-judge_block
decreases-judge_block l = 3 * (l.end - l.from) + 2

abbrev pub decreases-judge_one : goal.decreases-judge_one
decreases-judge_one l = 3 * (l.next - l.k)
