-- `amounts::noting::put_keys` meets its contract.
-- Assumes nothing.
use lib.ListN.{length-set}
use native.Mathlib.Omega.{arith}
use Rattle.amounts.proofs.Listings.{none_put, first_put}
use Rattle.amounts.proofs.noting.put_keys.Goals as goal

pub returns-then-not-has_key : goal.returns-then-not-has_key
returns-then-not-has_key c = none_put _ _ _ _ _

pub returns-then-l-eq0 : goal.returns-then-l-eq0
returns-then-l-eq0 c = none_put _ _ _ _ _

pub put_rest-requires : goal.put_rest-requires
put_rest-requires c = omega (arith, c.if-l-eq0.false, length-set c.args.l.now 0 c.key.result)

pub returns : goal.returns
returns c = first_put _ _ _ _ _ _ c.has_key.ensures c.if-not-has_key.false (omega (arith, c.if-l-eq0.false)) _ c.key.ensures _ _ c.put_rest.ensures

pub shape_of-l : goal.shape_of-l
shape_of-l c = (returns c).size
