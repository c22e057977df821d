use Rattle.copying.proofs.Stretches.{row_attributed}
use Rattle.copying.proofs.attributes.copy_enumerator.Goals as goal

pub returns : goal.returns
returns c = row_attributed c.args.out.now _ c.args.place _ _ _ _ _ _ _ _ c.put_cells.ensures c.cell-key.ensures c.attribute_of-attribute.ensures c.cell-name.ensures c.cell-length.ensures
