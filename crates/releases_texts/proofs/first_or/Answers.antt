use Rattle.releases_texts.proofs.Told.{first_refuses, first_accepts}
use Rattle.releases_texts.proofs.first_or.Goals as goal

pub returns-in-Refused : goal.returns-in-Refused
returns-in-Refused c = first_refuses c.answer_of-answer.ensures c.in-Refused.is c.refused.ensures c.stopped.ensures

pub returns-in-Accepted : goal.returns-in-Accepted
returns-in-Accepted c = first_accepts c.answer_of-answer.ensures c.in-Accepted.is c.stopped-in-Accepted.ensures
