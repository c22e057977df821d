use mathlib.Core.Path.{◌≡◌}
use lib.ListN.{length, replicate}
use borrow.Author.Rules.{rules}
use Rattle.lookups.proofs.Blocks.{firsts_all, firsts_filled}
use Rattle.lookups.proofs.fill_firsts.Goals as goal

pub returns-then-note_firsts-end : goal.returns-then-note_firsts-end
returns-then-note_firsts-end c = firsts_all _ _ _ _ _ _ c.note_firsts.ensures c.if-note_firsts-end.true

pub returns : goal.returns
returns c = firsts_filled _ _ _ _ _ _ _ c.note_firsts.ensures (let e : c.fill.new.self ≡ replicate (length c.note_firsts.new.first) c.args.from = search rules in e)
