-- `token::words::candidate` meets its contract: the table holds the candidates of all slots, which antt computes.
-- Assumes nothing.
use Rattle.token.specs.Slots.{slot_by, slot_of, candidate_in, candidate_of}
use Rattle.token.proofs.Tables.{at}
use Rattle.token.proofs.words.candidate.Goals as goal

pub returns : goal.returns
unfolding candidate_of candidate_in slot_of slot_by
returns c = at candidate_of 128 c.args.slot c.requires
