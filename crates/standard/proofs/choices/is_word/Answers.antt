use native.Mathlib.Omega.{arith}
use Rattle.standard.proofs.Choosing.{word_here, word_on, word_past}
use Rattle.standard.proofs.choices.is_word.Goals as goal

pub returns-then-same_bytes : goal.returns-then-same_bytes
returns-then-same_bytes c = word_here _ _ _ _ _ _ c.loop-k.invariant _ _ _ _ (omega arith) c.cell_of-at.ensures c.cell_of-len.ensures c.part.ensures.bytes c.same_bytes.ensures c.if-same_bytes.true

pub loop-k-preserved : goal.loop-k-preserved
loop-k-preserved c = word_on _ _ _ _ _ _ c.loop-k.invariant _ _ _ _ (omega arith) c.cell_of-at.ensures c.cell_of-len.ensures c.part.ensures.bytes c.same_bytes.ensures c.if-same_bytes.false

pub returns : goal.returns
returns c = word_past _ _ _ _ _ _ c.loop-k.invariant (omega arith)
