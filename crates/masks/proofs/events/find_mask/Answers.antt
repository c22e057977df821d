use mathlib.Core.Path.{sym, ◌∙◌}
use native.Mathlib.Omega.{arith}
use Rattle.masks.proofs.Storing.{seek_stop, seek_more, seek_end}
use Rattle.masks.proofs.events.find_mask.Goals as goal

pub returns-then-is_mask : goal.returns-then-is_mask
returns-then-is_mask c = seek_stop _ _ c.loop-k.k (omega arith) (sym c.is_mask.ensures ∙ c.if-is_mask.true) c.loop-k.invariant

pub loop-k-preserved : goal.loop-k-preserved
loop-k-preserved c = seek_more _ _ c.loop-k.k (omega arith) (sym c.is_mask.ensures ∙ c.if-is_mask.false) c.loop-k.invariant

pub returns : goal.returns
returns c = seek_end _ _ c.loop-k.k (omega arith) c.loop-k.invariant
