use mathlib.Core.Path.{refl}
use Rattle.reading.proofs.Finishing.{settles_too_many, settles_accepted}
use Rattle.reading.proofs.settle.Goals as goal

pub resolve_all-n-requires : goal.resolve_all-n-requires
resolve_all-n-requires c = c.requires

pub returns-then-n-gt-MOST : goal.returns-then-n-gt-MOST
returns-then-n-gt-MOST c = settles_too_many _ _ _ _ refl refl refl _ _ _ _ _ _ c.resolve_all-n.ensures _ _ c.if-n-gt-MOST.true c.clear.ensures c.refusal.ensures

pub returns : goal.returns
returns c = settles_accepted _ _ _ _ refl refl refl _ _ _ _ _ _ c.resolve_all-n.ensures _ _ _ c.if-n-gt-MOST.false c.copy_definitions.ensures c.copy_enumerators.ensures c.copy_objects.ensures
