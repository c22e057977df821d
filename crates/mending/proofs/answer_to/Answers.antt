use Rattle.mending.proofs.Wholes.{answers_to}
use Rattle.mending.proofs.answer_to.Goals as goal

pub returns : goal.returns
returns c = answers_to c.read-r.ensures.rules
