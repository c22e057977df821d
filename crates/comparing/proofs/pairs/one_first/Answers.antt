-- `comparing::pairs::one_first` meets its contract.
-- Assumes nothing.
-- src/pairs.rt:32:26
use Rattle.comparing.proofs.Pairing.{also_alone, also_same, also_both}
use Rattle.comparing.proofs.pairs.one_first.Goals as goal

-- src/pairs.rt:35:9
pub returns-then-p-eq0 : goal.returns-then-p-eq0
returns-then-p-eq0 c = also_alone _ _ _ _ _ _ _ _ _ _ _ _ c.if-p-eq0.true c.and_one.ensures

-- src/pairs.rt:38:9
pub returns-then-same_value : goal.returns-then-same_value
returns-then-same_value c = also_same _ _ _ _ _ _ _ _ _ _ _ _ c.if-p-eq0.false c.same_value.ensures c.if-same_value.true

-- src/pairs.rt:12:1
pub returns : goal.returns
returns c = also_both _ _ _ _ _ _ _ _ _ _ _ _ _ c.if-p-eq0.false c.same_value.ensures c.if-same_value.false c.and_one-2.ensures
