-- `token::scan::find_byte` meets its contract: the place to be found from i on is that to be found from the start.
-- Assumes nothing.
use mathlib.Core.Path.{◌∙◌, sym}
use borrow.Author.Tests.{ne_eqb}
use Rattle.token.specs.Bytes.{find_byte}
use Rattle.token.proofs.Find.{find_next}
use borrow.Author.Rules.{rules}
use Rattle.token.proofs.scan.find_byte.Goals as goal

pub loop-i-preserved : goal.loop-i-preserved
unfolding find_byte
loop-i-preserved c =
    sym (find_next _ _ c.loop-i.i (search rules) (ne_eqb _ _ c.if-text-i.false)) ∙ c.loop-i.invariant
