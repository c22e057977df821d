-- `releases::compare` meets its contract: what was found is stored, and its answer told.
use mathlib.Core.Path.{sym, subst}
use mathlib.Core.List.{List}
use Rattle.comparing.specs.declared.Difference.{Difference}
use Rattle.releases.specs.Promises.{Compares}
use Rattle.releases.proofs.Answering.{compares_so}
use Rattle.releases.proofs.compare.Goals as goal

pub returns : goal.returns
returns c =
    let P : List Difference → Type 0 = λ l. Compares c.args.first.now c.args.second.now c.args.list.now l c.listed-found.result.compared in
    subst P (sym c.put_all.ensures) (compares_so _ _ _ c.listed-found.result c.listed-found.ensures)
