use Rattle.standard.proofs.Owning.{kind_absent, kind_there}
use Rattle.standard.proofs.findings.owner_of_kind.Goals as goal

pub returns-then-key-eq0 : goal.returns-then-key-eq0
returns-then-key-eq0 c = kind_absent _ _ _ c.get-key.ensures c.if-key-eq0.true

pub returns : goal.returns
returns c = kind_there _ _ _ c.get-key.ensures c.if-key-eq0.false
