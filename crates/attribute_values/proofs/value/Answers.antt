use borrow.Author.Rules.{rules}
use Rattle.attribute_values.proofs.Accepting.{value_refused, value_accepted}
use Rattle.attribute_values.proofs.ByRules.{values_rules}
use Rattle.attribute_values.proofs.value.Goals as goal

pub returns-in-Refused : goal.returns-in-Refused
returns-in-Refused c = record { values = (values_rules (value_refused c.read_spanned-w.ensures.reads _ _ _ _ _ _ c.in-Refused.is)).0; rules = (values_rules (value_refused c.read_spanned-w.ensures.reads _ _ _ _ _ _ c.in-Refused.is)).1 }

pub returns-in-Accepted : goal.returns-in-Accepted
returns-in-Accepted c = record { values = (values_rules (value_accepted c.read_spanned-w.ensures.reads _ _ _ _ c.in-Accepted.is _ c.find_row-found.ensures c.copy_found.ensures)).0; rules = (values_rules (value_accepted c.read_spanned-w.ensures.reads _ _ _ _ c.in-Accepted.is _ c.find_row-found.ensures c.copy_found.ensures)).1 }
