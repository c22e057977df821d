use Rattle.standard.proofs.Accepting.{answers_text}
use Rattle.standard.proofs.answer_of.Goals as goal

pub returns : goal.returns
returns c = answers_text c.read-r.ensures.rules
