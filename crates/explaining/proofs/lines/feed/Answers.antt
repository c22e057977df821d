-- `explaining::lines::feed` meets its contract: the test tells whether the byte is LF.
-- Assumes nothing.
use Rattle.explaining.proofs.Counting.{feed_one, feed_none}
use Rattle.explaining.proofs.lines.feed.Goals as goal

pub returns-then-b-eq10 : goal.returns-then-b-eq10
returns-then-b-eq10 c = feed_one _ c.if-b-eq10.true

pub returns : goal.returns
returns c = feed_none _ c.if-b-eq10.false
