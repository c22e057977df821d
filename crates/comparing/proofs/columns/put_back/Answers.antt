use Rattle.comparing.proofs.Columned.{put_none, put_past, put_one}
use Rattle.comparing.proofs.columns.put_back.Goals as goal

pub returns-then-p-eq0 : goal.returns-then-p-eq0
returns-then-p-eq0 c = put_none _ _ _ c.if-p-eq0.true

pub returns-then-back-p : goal.returns-then-back-p
returns-then-back-p c = put_past _ _ _ c.if-back-p.true

pub returns : goal.returns
returns c = put_one _ _ _ c.if-p-eq0.false
