use borrow.Author.Rules.{rules}
use Rattle.reading.proofs.read.Goals as goal

pub returns : goal.returns
returns c = record { reads = c.read_spanned-r.ensures.reads.reads; rules = c.read_spanned-r.ensures.rules; demand_3 = c.read_spanned-r.ensures.demand_3 }
