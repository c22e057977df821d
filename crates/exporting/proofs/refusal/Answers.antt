use Rattle.exporting.proofs.Telling.{refused_told}
use Rattle.exporting.proofs.refusal.Goals as goal

pub returns : goal.returns
returns c = refused_told _ _ _ _ _ _ _ _ c.renumbered-n.ensures c.least_of-own.ensures c.place_refused-p.ensures
