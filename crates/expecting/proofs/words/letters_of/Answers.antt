use Rattle.expecting.specs.Words.{padded}
use Rattle.expecting.proofs.Laying.{letters_at, no_letters}
use Rattle.expecting.proofs.words.letters_of.Goals as goal

pub returns-then-i-ge-TERMINALS : goal.returns-then-i-ge-TERMINALS
returns-then-i-ge-TERMINALS c = no_letters _ c.if-i-ge-TERMINALS.true

pub returns : goal.returns
unfolding padded
returns c = letters_at c.args.i _ c.if-i-ge-TERMINALS.false
