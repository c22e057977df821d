use Rattle.releases.specs.Starts.{one_more}
use Rattle.releases.proofs.starts.one_more.Goals as goal

pub returns : goal.returns
unfolding one_more
returns c = c.place_after.ensures
