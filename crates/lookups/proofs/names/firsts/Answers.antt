use Rattle.lookups.proofs.Naming.{firsts_in}
use Rattle.lookups.proofs.names.firsts.Goals as goal

pub returns : goal.returns
returns g c = firsts_in _ c.args.names.now _ _ _ _ c.statement_ranks.ensures c.firsts.ensures
