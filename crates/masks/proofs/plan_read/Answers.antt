use Rattle.masks.proofs.Calls.{plan_not, plan_so}
use Rattle.masks.proofs.plan_read.Goals as goal

pub returns-then-not-defines_mask : goal.returns-then-not-defines_mask
returns-then-not-defines_mask c = plan_not _ c.defines_mask.ensures c.if-not-defines_mask.true _

pub returns : goal.returns
returns c = plan_so _ c.defines_mask.ensures c.if-not-defines_mask.false _ _ _ c.plan_rows.ensures
