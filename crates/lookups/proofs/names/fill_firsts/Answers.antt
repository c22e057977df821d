use Rattle.lookups.proofs.Naming.{firsts_to_in, firsts_in}
use Rattle.lookups.proofs.names.fill_firsts.Goals as goal

pub fill_firsts-requires : goal.fill_firsts-requires
fill_firsts-requires c = firsts_to_in _ c.args.names.now _ _ _ _ _ c.statement_ranks.ensures c.requires

pub returns : goal.returns
returns c = firsts_in _ c.args.names.now _ _ _ _ c.statement_ranks.ensures c.fill_firsts.ensures
