-- `comparing::columns::object_columns` meets its contract.
-- Assumes nothing.
use Rattle.comparing.proofs.Lined.{columned, bounded_names, orderable_kept}
use native.Mathlib.Omega.{arith}
use Rattle.comparing.proofs.columns.object_columns.Goals as goal

pub find_positions-requires : goal.find_positions-requires
find_positions-requires c = ((bounded_names _ _ _ _ _ c.copy_owners.ensures c.copy_names.ensures (omega (arith, c.copy_owners.auto.out, c.copy_names.auto.out, c.requires.0.names)) (omega (arith, c.copy_owners.auto.out, c.requires.0.owners)), orderable_kept _ _ _ _ c.requires.1 c.copy_owners.auto.out), omega (arith, c.copy_owners.auto.out, c.requires.0.places))

pub returns : goal.returns
returns c = columned _ _ _ _ _ _ _ _ _ c.copy_owners.ensures c.copy_names.ensures c.find_positions.ensures c.make_steps.ensures (omega (arith, c.copy_owners.auto.out)) (omega (arith, c.copy_names.auto.out, c.requires.0.names)) (omega (arith, c.make_steps.auto.out, c.requires.0.steps))
