use Rattle.writing_texts.proofs.Told.{refused_writes, accepted_writes}
use borrow.Author.Rules.{rules}
use Rattle.writing_texts.proofs.write_expanded.Goals as goal

pub returns-in-Refused : goal.returns-in-Refused
returns-in-Refused c = refused_writes _ _ _ _ _ _ _ _ c.requires c.write-r.ensures.rules c.in-Refused.is c.renumbered-n.ensures c.place_refused-p.ensures c.refusal.ensures

pub returns-in-Accepted : goal.returns-in-Accepted
returns-in-Accepted c = accepted_writes _ _ _ _ c.requires c.write-r.ensures.rules c.in-Accepted.is c.place_tables.ensures
