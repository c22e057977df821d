-- `token::words::is_known` meets its contract: the table holds the known words.
-- Assumes nothing.
use mathlib.Core.Path.{◌≡◌, ◌∙◌}
use mathlib.Core.List.{[]}
use lib.ListN.{get_or}
use lib.Dec.{eqb}
use lib.Pointwise.{pointwise}
use Rattle.token.specs.Words.{known}
use Rattle.token.proofs.Codes.{same_pointwise}
use Rattle.token.proofs.Tables.{now_at}
use Rattle.token.proofs.words.is_known.Goals as goal

pub returns : goal.returns
returns c =
    let h = c.requires in
    let e : c.eq.result ≡ pointwise eqb c.args.word.now (get_or known c.args.k []) = rw now_at at c.eq.ensures in
    e ∙ same_pointwise _ _
