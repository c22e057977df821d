use mathlib.Core.Path.{refl, sym, ◌∙◌}
use lib.ListN.{length-set}
use Rattle.rows.proofs.Stores.{stores_more, stores_past, stores_end}
use native.Mathlib.Omega.{arith}
use Rattle.writing.proofs.bytes.store.Goals as goal

pub loop-byte-init : goal.loop-byte-init
loop-byte-init c = (omega arith, refl, refl)

pub shape_of-out-then-out-j : goal.shape_of-out-then-out-j
shape_of-out-then-out-j c = c.loop-byte.invariant.1

pub returns-then-out-j : goal.returns-then-out-j
returns-then-out-j c = stores_past _ c.loop-byte.j _ c.loop-byte.byte-index (omega arith) ∙ c.loop-byte.invariant.2

pub loop-byte-preserved : goal.loop-byte-preserved
loop-byte-preserved c = (omega arith, simp length-set c.loop-byte.invariant.1, sym (stores_more _ c.loop-byte.j _ c.loop-byte.byte-index (omega arith)) ∙ c.loop-byte.invariant.2)

pub shape_of-out : goal.shape_of-out
shape_of-out c = c.loop-byte.invariant.1

pub returns : goal.returns
returns c = stores_end _ c.loop-byte.j _ c.loop-byte.byte-index (omega arith) ∙ c.loop-byte.invariant.2
