use Rattle.standard.proofs.Heading.{names_at}
use Rattle.standard.proofs.name_at.Goals as goal

pub returns : goal.returns
returns c = names_at _ _ _ _ c.item_at-word.ensures c.item_at-name.ensures
