use Rattle.expecting.proofs.Verdicts.{passes_by}
use Rattle.expecting.proofs.passes.Goals as goal

pub returns : goal.returns
returns c = passes_by c.stage.ensures.answers c.is_ok.ensures.value
