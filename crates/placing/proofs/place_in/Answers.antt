use Rattle.placing.proofs.Rowwise.{place_lent, place_end}
use Rattle.placing.proofs.place_in.Goals as goal

pub returns-then-place-size : goal.returns-then-place-size
returns-then-place-size c = place_lent _ _ _ _ _ c.if-place-size.true c.get.ensures

pub returns : goal.returns
returns c = place_end _ _ _ _ c.if-place-size.false
