use Rattle.writing.proofs.Decimals.{wrote_digit, wrote_digits}
use native.Mathlib.Omega.{arith}
use Rattle.writing.proofs.bytes.+put_digits.Goals as goal

pub returns-then-amount-lt10 : goal.returns-then-amount-lt10
returns-then-amount-lt10 t c = wrote_digit _ (omega arith) c.put_digit.ensures

pub returns : goal.returns
returns t c = wrote_digits c.args.amount (omega arith) (omega arith) c.put_digits-e.ensures c.put_digit-2.ensures
