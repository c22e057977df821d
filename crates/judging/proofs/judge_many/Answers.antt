use Rattle.judging.proofs.Readying.{blank_of, cleared_blank}
use native.Mathlib.Omega.{arith}
use Rattle.judging.proofs.judge_many.Goals as goal

pub judge_ranged-f-requires : goal.judge_ranged-f-requires
judge_ranged-f-requires c = (c.requires, blank_of 35840 (omega arith))

pub returns : goal.returns
returns c = record { judges = c.judge_ranged-f.ensures.judges; blank = cleared_blank _ _ _ c.judge_ranged-f.ensures.lends c.clear.ensures }
