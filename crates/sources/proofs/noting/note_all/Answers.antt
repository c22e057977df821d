use native.Mathlib.Omega.{arith}
use Rattle.sources.proofs.Notings.{all_none, all_eight}
use mathlib.Core.Path.{refl}
use Rattle.sources.proofs.noting.note_all.Goals as goal

pub loop-number-init : goal.loop-number-init
loop-number-init c = (refl, all_none _ _ _)

pub note_number-requires : goal.note_number-requires
note_number-requires c = (c.requires.0, (omega arith, omega arith))

pub loop-number-preserved : goal.loop-number-preserved
loop-number-preserved c = (omega arith, c.note_number.ensures c.loop-number.invariant.1)

pub returns : goal.returns
returns c = all_eight _ _ _ _ (omega arith) c.loop-number.invariant.1
