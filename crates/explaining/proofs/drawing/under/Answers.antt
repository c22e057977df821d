use Rattle.explaining.proofs.Glyphs.{under_tab, under_other}
use Rattle.explaining.proofs.drawing.under.Goals as goal

pub returns-then-b-eq9 : goal.returns-then-b-eq9
returns-then-b-eq9 c = under_tab _ _ c.if-b-eq9.true

pub returns : goal.returns
returns c = under_other _ _ c.if-b-eq9.false
