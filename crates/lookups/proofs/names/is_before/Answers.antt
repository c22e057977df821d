-- `lookups::names::is_before` meets its contract.
-- Assumes nothing.
use Prim.Native.Nat.{◌+◌, ◌*◌}
use lib.ListN.{get_or}
use mathlib.Core.Path.{subst}
use Rattle.blocks.specs.Blocks.{FindsStated}
use Rattle.blocks.proofs.Ranges.{before_first, before_none}
use Rattle.lookups.proofs.Naming.{statement_stated}
use Rattle.lookups.proofs.names.is_before.Goals as goal

pub returns-in-Some : goal.returns-in-Some
returns-in-Some c = before_first _ _ _ _ (subst (λ r. FindsStated c.args.text.now c.args.st.now c.args.from c.args.end (get_or c.args.st.now (c.args.k * 7 + 0) 0) (get_or c.args.st.now (c.args.k * 7 + 1) 0) r) c.in-Some.is (statement_stated _ _ _ _ c.requires.0 _ _ _ _ _ c.statement_ranks-ranks.ensures _ c.requires.1 c.row_stated.ensures))

pub returns-in-None : goal.returns-in-None
returns-in-None c = before_none _ _ _ (subst (λ r. FindsStated c.args.text.now c.args.st.now c.args.from c.args.end (get_or c.args.st.now (c.args.k * 7 + 0) 0) (get_or c.args.st.now (c.args.k * 7 + 1) 0) r) c.in-None.is (statement_stated _ _ _ _ c.requires.0 _ _ _ _ _ c.statement_ranks-ranks.ensures _ c.requires.1 c.row_stated.ensures))
