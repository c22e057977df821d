use native.Mathlib.Omega.{arith}
use mathlib.Core.Path.{refl}
use lib.ListN.{length}
use Rattle.comparing.proofs.Columned.{backs_start, backs_next}
use Rattle.comparing.proofs.columns.fill_back.Goals as goal

pub loop-k-init : goal.loop-k-init
loop-k-init c = backs_start _ _ (length c.args.back.now) _ _ c.clear.ensures refl

pub loop-k-preserved : goal.loop-k-preserved
loop-k-preserved c = backs_next _ _ _ _ _ _ _ c.loop-k.invariant (omega arith) (omega arith) refl refl c.put_back.ensures
