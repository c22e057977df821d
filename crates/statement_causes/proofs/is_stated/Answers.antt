use mathlib.Core.Path.{subst}
use Rattle.blocks.specs.Blocks.{FindsStated}
use Rattle.blocks.proofs.Ranges.{is_stated}
use Rattle.statement_causes.proofs.is_stated.Goals as goal

pub returns-in-Some : goal.returns-in-Some
returns-in-Some c = is_stated c.args.at c.args.len (subst (λ r. FindsStated c.args.text.now c.args.st.now c.args.from c.args.end c.args.at c.args.len r) c.in-Some.is c.stated.ensures)

pub returns-in-None : goal.returns-in-None
returns-in-None c = is_stated c.args.at c.args.len (subst (λ r. FindsStated c.args.text.now c.args.st.now c.args.from c.args.end c.args.at c.args.len r) c.in-None.is c.stated.ensures)
