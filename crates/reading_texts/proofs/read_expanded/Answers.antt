use Rattle.reading_texts.proofs.Told.{ruled_of, accepted_reads, refused_reads}
use borrow.Author.Rules.{rules}
use Rattle.reading_texts.proofs.read_expanded.Goals as goal

pub returns-in-Refused : goal.returns-in-Refused
returns-in-Refused c = refused_reads _ _ _ _ _ _ _ _ _ (ruled_of c.requires c.read-r.ensures.rules) c.in-Refused.is c.renumbered-n.ensures c.place_refused-p.ensures c.refusal.ensures

pub returns-in-Accepted : goal.returns-in-Accepted
returns-in-Accepted c = accepted_reads _ _ _ _ (ruled_of c.requires c.read-r.ensures.rules) c.in-Accepted.is c.place_tables.ensures
