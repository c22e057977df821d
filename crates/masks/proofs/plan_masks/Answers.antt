use Rattle.masks.proofs.ByRules.{plans_rules}
use Rattle.masks.proofs.Accepting.{plan_refused, plan_accepted}
use Rattle.masks.proofs.plan_masks.Goals as goal

pub returns-in-Refused : goal.returns-in-Refused
returns-in-Refused c = record { plans = (plans_rules (plan_refused c.read_spanned-w.ensures.reads _ _ c.in-Refused.is _)).0; rules = (plans_rules (plan_refused c.read_spanned-w.ensures.reads _ _ c.in-Refused.is _)).1 }

pub returns-in-Accepted : goal.returns-in-Accepted
returns-in-Accepted c = record { plans = (plans_rules (plan_accepted c.read_spanned-w.ensures.reads c.in-Accepted.is _ _ _ c.plan_read.ensures)).0; rules = (plans_rules (plan_accepted c.read_spanned-w.ensures.reads c.in-Accepted.is _ _ _ c.plan_read.ensures)).1 }
