-- `amounts::noting::note_two` meets its contract.
-- Assumes nothing.
use Prim.Native.Nat.{◌+◌, ◌*◌}
use Rattle.amounts.proofs.Rowwise.{put_two}
use Rattle.amounts.proofs.noting.note_two.Goals as goal

pub returns : goal.returns
returns c = put_two c.args.t.now _ (512 + c.args.j * 5) c.sign_of.result c.args.a.amount c.sign_of-2.result c.args.b.amount _ _ c.put_cells.ensures c.sign_of.ensures c.sign_of-2.ensures
