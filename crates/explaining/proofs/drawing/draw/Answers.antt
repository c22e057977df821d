use mathlib.Core.Path.{◌∙◌}
use Rattle.explaining.proofs.Glyphs.{drawn_shown, drawn_before, drawn_marked}
use Rattle.explaining.proofs.drawing.draw.Goals as goal

pub returns-in-Shown : goal.returns-in-Shown
returns-in-Shown c = c.shown.ensures ∙ drawn_shown _ _ c.in-Shown.is

pub returns-in-Before : goal.returns-in-Before
returns-in-Before c = c.under.ensures ∙ drawn_before _ _ c.in-Before.is

pub returns-in-Marked : goal.returns-in-Marked
returns-in-Marked c = c.under-in-Marked.ensures ∙ drawn_marked _ _ c.in-Marked.is
