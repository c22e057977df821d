use Rattle.writing.proofs.Outputs.{puts_out, puts_none}
use native.Mathlib.Omega.{arith}
use Rattle.writing.proofs.put_out.Goals as goal

pub returns-then-out-normal_length : goal.returns-then-out-normal_length
returns-then-out-normal_length c = puts_none _ c.if-out-normal_length.true c.normal_length.ensures c.clear.ensures c.clear-then-out-normal_length.ensures c.clear-then-out-normal_length-2.ensures c.clear-then-out-normal_length-3.ensures

pub returns : goal.returns
returns c = puts_out c.write_normal-n.ensures _ _ (omega (arith, c.well_formed)) (omega arith) c.normal_length.ensures
