-- `names::name_number` meets its contract. Assumes nothing.
use native.Mathlib.Omega.{arith}
use Rattle.comparing.proofs.Numbered.{number_found, rank_inside}
use Rattle.comparing.proofs.names.name_number.Goals as goal

pub overflow_add-result : goal.overflow_add-result
overflow_add-result c = omega (arith, rank_inside _ _ _ _ _ c.requires.0 c.rank_of-first.ensures, rank_inside _ _ _ _ _ c.requires.1 c.rank_of-second.ensures)

pub returns : goal.returns
returns c = number_found _ _ _ _ _ _ _ _ _ c.requires.0 c.requires.1 c.rank_of-first.ensures c.rank_of-second.ensures
