use Rattle.masks.proofs.Calls.{check_not, check_so}
use Rattle.masks.proofs.check_read.Goals as goal

pub returns-then-not-defines_mask : goal.returns-then-not-defines_mask
returns-then-not-defines_mask c = check_not _ c.defines_mask.ensures c.if-not-defines_mask.true _

pub returns : goal.returns
returns c = check_so _ c.defines_mask.ensures c.if-not-defines_mask.false _ _ c.check_rows.ensures
