use mathlib.Core.Path.{sym}
use Rattle.sources.proofs.Singles.{aside_space, aside_tab, aside_last}
use Rattle.sources.proofs.lines.is_aside.Goals as goal

pub returns-then-b-eq32 : goal.returns-then-b-eq32
returns-then-b-eq32 c = sym (aside_space _ c.if-b-eq32.true)

pub returns-then-b-eq9 : goal.returns-then-b-eq9
returns-then-b-eq9 c = sym (aside_tab _ c.if-b-eq32.false c.if-b-eq9.true)

pub returns : goal.returns
returns c = sym (aside_last _ c.if-b-eq32.false c.if-b-eq9.false)
