use Rattle.masks.proofs.ByRules.{checks_rules}
use Rattle.masks.proofs.Accepting.{check_refused, check_accepted}
use Rattle.masks.proofs.check_masks.Goals as goal

pub returns-in-Refused : goal.returns-in-Refused
returns-in-Refused c = record { checks = (checks_rules (check_refused c.read_spanned-w.ensures.reads _ _ c.in-Refused.is _)).0; rules = (checks_rules (check_refused c.read_spanned-w.ensures.reads _ _ c.in-Refused.is _)).1 }

pub returns-in-Accepted : goal.returns-in-Accepted
returns-in-Accepted c = record { checks = (checks_rules (check_accepted c.read_spanned-w.ensures.reads c.in-Accepted.is _ _ c.check_read.ensures)).0; rules = (checks_rules (check_accepted c.read_spanned-w.ensures.reads c.in-Accepted.is _ _ c.check_read.ensures)).1 }
