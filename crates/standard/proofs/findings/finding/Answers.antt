use Rattle.standard.proofs.Differing.{not_asked, is_absent, is-different, is_same}
use Rattle.standard.proofs.findings.finding.Goals as goal

pub returns-then-u-eq0 : goal.returns-then-u-eq0
returns-then-u-eq0 c = not_asked _ _ _ _ _ _ _ _ _ c.owner_of-u.ensures c.if-u-eq0.true

pub returns-in_default : goal.returns-in_default
returns-in_default c = is_absent _ _ _ _ _ _ _ _ _ c.owner_of-u.ensures c.if-u-eq0.false _ _ _ c.cell_of-at.ensures c.cell_of-len.ensures c.part.ensures.bytes _ c.find_attribute.ensures c.in_default.is

pub returns-then-differs : goal.returns-then-differs
returns-then-differs c = is-different _ _ _ _ _ _ _ _ _ c.owner_of-u.ensures c.if-u-eq0.false _ _ _ c.cell_of-at.ensures c.cell_of-len.ensures c.part.ensures.bytes _ c.find_attribute.ensures _ c.in-Some.is _ c.differs.ensures c.if-differs.true _ c.cell_of.ensures

pub returns : goal.returns
returns c = is_same _ _ _ _ _ _ _ _ _ c.owner_of-u.ensures c.if-u-eq0.false _ _ _ c.cell_of-at.ensures c.cell_of-len.ensures c.part.ensures.bytes _ c.find_attribute.ensures _ c.in-Some.is _ c.differs.ensures c.if-differs.false
