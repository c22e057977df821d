use Rattle.expecting.proofs.Laying.{length_at, no_length}
use Rattle.expecting.proofs.words.length_of.Goals as goal

pub returns-then-i-ge-TERMINALS : goal.returns-then-i-ge-TERMINALS
returns-then-i-ge-TERMINALS c = no_length _ c.if-i-ge-TERMINALS.true

pub returns : goal.returns
returns c = length_at c.args.i _ c.if-i-ge-TERMINALS.false
