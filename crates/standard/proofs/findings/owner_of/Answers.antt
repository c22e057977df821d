use Rattle.standard.proofs.Owning.{own_kind, own_value}
use Rattle.standard.proofs.findings.owner_of.Goals as goal

pub returns-then-len-eq0 : goal.returns-then-len-eq0
returns-then-len-eq0 c = own_kind _ _ _ _ _ _ _ _ _ c.cell_of.ensures c.owner_of_kind-k.ensures _ c.cell_of-len.ensures c.if-len-eq0.true

pub returns : goal.returns
returns c = own_value _ _ _ _ _ _ _ _ _ c.cell_of.ensures c.owner_of_kind-k.ensures _ c.cell_of-len.ensures c.if-len-eq0.false _ _ _ _ _ _ c.cell_of-at.ensures c.cell_of-at2.ensures c.cell_of-len2.ensures c.part.ensures.bytes c.part-2.ensures.bytes c.step_into-u.ensures
