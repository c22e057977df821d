use Rattle.amounts.proofs.Rowwise.{no_room, in_rise}
use lib.Seq.{length-take-le}
use mathlib.Core.Path.{sym}
use native.Mathlib.Omega.{arith}
use Rattle.amounts.proofs.Rises.{risen}
use Rattle.amounts.proofs.noting.put_sorted.Goals as goal

pub slice_bounds-rises-end-2 : goal.slice_bounds-rises-end-2
slice_bounds-rises-end-2 c = sym (length-take-le _ _ (omega (arith, c.put_keys-n.ensures.size, c.put_keys-n.ensures.inside)))

pub returns-then-rises : goal.returns-then-rises
returns-then-rises c = risen _ _ _ _ _ _ _ _ c.put_keys-n.ensures c.rises.ensures c.if-rises.true

pub returns-then-spare-n : goal.returns-then-spare-n
returns-then-spare-n c = no_room _ _ _ _ _ _ _ c.put_keys-n.ensures

pub slice_bounds-sort-end-2 : goal.slice_bounds-sort-end-2
slice_bounds-sort-end-2 c = sym (length-take-le _ _ (omega (arith, c.put_keys-n.ensures.size, c.put_keys-n.ensures.inside)))

pub returns : goal.returns
returns c = in_rise _ _ _ _ _ _ _ c.put_keys-n.ensures _ _ (omega (arith, c.if-spare-n.false)) c.sort.ensures
