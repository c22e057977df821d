use native.Mathlib.Omega.{arith}
use Rattle.comparing.proofs.Lined.{gathered}
use Rattle.comparing.proofs.couples.gather.Goals as goal

pub returns : goal.returns
returns c = gathered _ _ _ _ _ _ _ _ _ _ _ _ _ _ _ c.first_values-all.result c.second_values.result c.fill_back.ensures (omega arith) (omega arith) c.first_values-all.ensures c.second_values.ensures
