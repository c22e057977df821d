use Rattle.explaining.proofs.Letters.{after_none, after_bad, after_low, after-high, after_on}
use Rattle.explaining.proofs.characters.after.Goals as goal

pub returns-then-state-eq0 : goal.returns-then-state-eq0
returns-then-state-eq0 c = after_none _ _ c.if-state-eq0.true _ c.begun.ensures

pub returns-then-state-eq8 : goal.returns-then-state-eq8
returns-then-state-eq8 c = after_bad _ _ c.if-state-eq0.false c.if-state-eq8.true

pub returns-then-b-lowest : goal.returns-then-b-lowest
returns-then-b-lowest c = after_low _ _ c.if-state-eq0.false c.if-state-eq8.false _ c.lowest.ensures c.if-b-lowest.true

pub returns-then-highest-b : goal.returns-then-highest-b
returns-then-highest-b c = after-high _ _ c.if-state-eq0.false c.if-state-eq8.false _ c.lowest.ensures c.if-b-lowest.false _ c.highest.ensures c.if-highest-b.true

pub returns : goal.returns
returns c = after_on _ _ c.if-state-eq0.false c.if-state-eq8.false _ c.lowest.ensures c.if-b-lowest.false _ c.highest.ensures c.if-highest-b.false _ c.rest.ensures
