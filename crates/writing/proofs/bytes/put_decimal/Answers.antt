use Rattle.writing.proofs.Decimals.{wrote_negative, wrote_positive}
use Rattle.writing.proofs.bytes.put_decimal.Goals as goal

pub returns-then-negative : goal.returns-then-negative
returns-then-negative c = wrote_negative _ _ c.if-negative.true c.put_bytes-e.ensures c.put_digits.ensures

pub returns : goal.returns
returns c = wrote_positive _ _ c.if-negative.false c.put_digits-2.ensures
