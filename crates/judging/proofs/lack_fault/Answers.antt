-- `judging::lack_fault` meets its contract.
-- Assumes nothing.
use Rattle.rows.specs.Table.{part}
use Rattle.sorting.specs.Sorted.{Tells}
use Rattle.judging.proofs.Judgements.{lack_none, lack_some, lack_unowned}
use Rattle.judging.specs.Promises.{LackFault}
use mathlib.Core.Path.{sym, subst}
use Rattle.judging.proofs.lack_fault.Goals as goal

pub returns-then-key-eq0 : goal.returns-then-key-eq0
returns-then-key-eq0 c = lack_none _ _ _ _ _ _ _ _ _ (c.if-key-eq0).true

pub lacks-requires : goal.lacks-requires
lacks-requires c = (c.requires.0, c.requires.1)

pub returns-then-is_owner : goal.returns-then-is_owner
returns-then-is_owner c = subst (λ r. LackFault (c.args).text.now (c.args).d.now (c.args).st.now (c.args).missing.now (c.args).z (c.args).key (c.args).from (c.args).end (c.args).owner r) (sym (c.fault_if).ensures) (lack_some _ _ _ _ _ _ _ _ _ (c.lacks).result (c.if-key-eq0).false (c.lacks).ensures)

pub returns : goal.returns
returns c = lack_unowned _ _ _ _ _ _ _ _ _ _ c.if-key-eq0.false c.requires.2 (subst (λ b. Tells (part c.args.names.now 4353 512) c.args.key b) c.if-is_owner.false c.is_owner.ensures)
