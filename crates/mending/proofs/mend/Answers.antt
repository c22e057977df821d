use Rattle.mending.proofs.Wholes.{mends_refused, mends_not, mends_done}
use Rattle.mending.proofs.Judged.{mends_rules}
use borrow.Author.Rules.{rules}
use Rattle.mending.proofs.mend.Goals as goal

pub returns-in-Err : goal.returns-in-Err
returns-in-Err c = record { mends = (mends_rules (mends_refused _ _ _ c.in-Err.ensures)).0; rules = (mends_rules (mends_refused _ _ _ c.in-Err.ensures)).1 }

pub returns-in-Refused : goal.returns-in-Refused
returns-in-Refused c = record { mends = (mends_rules (mends_not c.in_default.ensures c.put_mended-n.ensures c.part-mended.ensures.bytes c.answer_to-answer.ensures _ _ _ _ _ c.in-Refused.is c.refusal_back-p.ensures)).0; rules = (mends_rules (mends_not c.in_default.ensures c.put_mended-n.ensures c.part-mended.ensures.bytes c.answer_to-answer.ensures _ _ _ _ _ c.in-Refused.is c.refusal_back-p.ensures)).1 }

pub returns-in-Accepted : goal.returns-in-Accepted
returns-in-Accepted c = record { mends = (mends_rules (mends_done c.in_default.ensures c.put_mended-n.ensures c.part-mended.ensures.bytes c.answer_to-answer.ensures _ _ _ c.in-Accepted.is c.put_out.ensures)).0; rules = (mends_rules (mends_done c.in_default.ensures c.put_mended-n.ensures c.part-mended.ensures.bytes c.answer_to-answer.ensures _ _ _ c.in-Accepted.is c.put_out.ensures)).1 }
