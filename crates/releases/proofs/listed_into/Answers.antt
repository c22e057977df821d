use Rattle.releases.proofs.Answering.{first_stopped, first_accepted}
use Rattle.releases.proofs.listed_into.Goals as goal

pub second_read-requires : goal.second_read-requires
second_read-requires c = c.requires.1

pub returns-in-Refused : goal.returns-in-Refused
returns-in-Refused c = first_stopped c.read_spanned-w.ensures.reads c.requires.0 _ _ _ _ c.in-Refused.is c.stopped.ensures

pub returns-in-Accepted : goal.returns-in-Accepted
returns-in-Accepted c = first_accepted _ _ _ _ _ _ _ _ _ _ _ _ c.read_spanned-w.ensures.reads c.requires.0 c.in-Accepted.is c.second_read.ensures
