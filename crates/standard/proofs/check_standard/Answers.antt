use Rattle.standard.proofs.ByRules.{checks_rules}
use Rattle.standard.proofs.Accepting.{check_refused, check_accepts}
use Rattle.standard.proofs.check_standard.Goals as goal

pub returns-in-Refused : goal.returns-in-Refused
returns-in-Refused c = record { checks = (checks_rules (check_refused _ _ _ _ c.answer_of-answer.ensures c.in-Refused.is)).0; rules = (checks_rules (check_refused _ _ _ _ c.answer_of-answer.ensures c.in-Refused.is)).1 }

pub returns-in-Accepted : goal.returns-in-Accepted
returns-in-Accepted c = record { checks = (checks_rules (check_accepts _ _ _ c.answer_of-answer.ensures c.in-Accepted.is c.check_accepted.ensures)).0; rules = (checks_rules (check_accepts _ _ _ c.answer_of-answer.ensures c.in-Accepted.is c.check_accepted.ensures)).1 }
