use Rattle.lent_texts.proofs.Told.{refused_is}
use borrow.Author.Rules.{rules}
use Rattle.lent_texts.proofs.refused.Goals as goal

pub returns : goal.returns
returns c = refused_is _ _ _ _ _ _ c.renumbered-number.ensures c.place_refused-place.ensures
