use Rattle.releases_texts.proofs.Told.{side_is}
use Rattle.releases_texts.proofs.side.Goals as goal

pub returns : goal.returns
returns c = side_is _ _ _ _ _ c.renumbered-n.ensures c.place_numbered-p.ensures
