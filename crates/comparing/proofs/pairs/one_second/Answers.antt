use Rattle.comparing.proofs.Seconds.{second_alone, second_met}
use Rattle.comparing.proofs.pairs.one_second.Goals as goal

pub returns-then-p-eq0 : goal.returns-then-p-eq0
returns-then-p-eq0 c = second_alone _ _ _ _ _ _ c.if-p-eq0.true c.and_one.ensures

pub returns : goal.returns
returns c = second_met _ _ _ _ _ c.if-p-eq0.false
