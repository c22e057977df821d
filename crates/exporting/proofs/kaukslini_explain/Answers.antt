use Rattle.exporting.proofs.Explaining.{explained_by}
use Rattle.exporting.proofs.kaukslini_explain.Goals as goal

pub returns : goal.returns
returns c = explained_by c.explain-e.ensures
