-- `explaining::drawing::shown` meets its contract: the tests tell whether the byte is a tab or printable.
-- Assumes nothing.
use Rattle.explaining.proofs.Glyphs.{shown_tab, shown_low, shown_high, shown_plain}
use Rattle.explaining.proofs.drawing.shown.Goals as goal

pub returns-then-b-eq9 : goal.returns-then-b-eq9
returns-then-b-eq9 c = shown_tab _ c.if-b-eq9.true

pub returns-then-b-lt32 : goal.returns-then-b-lt32
returns-then-b-lt32 c = shown_low _ c.if-b-eq9.false c.if-b-lt32.true

pub returns-then-b-gt126 : goal.returns-then-b-gt126
returns-then-b-gt126 c = shown_high _ c.if-b-eq9.false c.if-b-gt126.true

pub returns : goal.returns
returns c = shown_plain _ c.if-b-eq9.false c.if-b-lt32.false c.if-b-gt126.false
