use Rattle.merging.proofs.Moving.{shift_low, shift_far, shift_high, shift_is}
use native.Mathlib.Omega.{arith}
use Rattle.merging.proofs.objects.shifted.Goals as goal

pub returns-then-a-from : goal.returns-then-a-from
returns-then-a-from c = shift_low _ _ _ (omega arith)

pub returns-then-d-gt-COUNTED : goal.returns-then-d-gt-COUNTED
returns-then-d-gt-COUNTED c = shift_far _ _ _ (omega arith) (omega arith)

pub returns-then-to-gt-COUNTED : goal.returns-then-to-gt-COUNTED
returns-then-to-gt-COUNTED c = shift_high _ _ _ (omega arith) (omega arith) (omega arith)

pub returns : goal.returns
returns c = shift_is _ _ _ (omega arith) (omega arith) (omega arith)
