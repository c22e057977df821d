use native.Mathlib.Omega.{arith}
use Rattle.releases.proofs.Telling.{prepared, prepared_indexes}
use Rattle.releases.proofs.compare_prepared.Goals as goal

pub compare_made-requires : goal.compare_made-requires
compare_made-requires c = (prepared_indexes _ _ _ _ _ _ _ _ _ _ _ _ _ _ _ _ _ _ _ _ c.prepare.ensures c.prepare-2.ensures c.requires.definitions c.requires.objects, (omega (arith, c.prepare.auto.x, c.requires.definitions.0), omega (arith, c.prepare-2.auto.x, c.requires.definitions.1)))

pub shape_of-x : goal.shape_of-x
shape_of-x c = c.prepare.auto.x

pub shape_of-y : goal.shape_of-y
shape_of-y c = c.prepare.auto.y

pub shape_of-st : goal.shape_of-st
shape_of-st c = c.prepare.auto.st

pub returns : goal.returns
returns c = prepared _ _ _ _ _ _ _ _ _ _ _ _ _ _ _ _ _ _ _ _ _ _ _ _ _ c.prepare.ensures c.prepare-2.ensures c.prepare.auto.x c.prepare.auto.y c.prepare.auto.st c.prepare-2.auto.x c.prepare-2.auto.y c.prepare-2.auto.st c.requires.definitions c.requires.objects c.compare_made.ensures
