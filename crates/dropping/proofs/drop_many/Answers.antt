use Rattle.judging.proofs.Readying.{blank_of}
use native.Mathlib.Omega.{arith}
use Rattle.dropping.proofs.drop_many.Goals as goal

pub drop_ranged-requires : goal.drop_ranged-requires
drop_ranged-requires c = (c.requires, blank_of 35840 (omega arith))
