-- `releases_texts::compare` meets its contract: what was found is stored, and its answer told.
use mathlib.Core.Path.{sym, subst}
use mathlib.Core.List.{List}
use Rattle.comparing.specs.declared.Difference.{Difference}
use Rattle.releases_texts.specs.Comparing.{ComparesTexts}
use Rattle.releases_texts.proofs.Told.{compares_texts}
use Rattle.releases_texts.proofs.compare.Goals as goal

pub returns : goal.returns
returns c =
    let P : List Difference → Type 0 = λ l. ComparesTexts c.args.first.now c.args.first_lengths.now c.args.expanded.now c.args.origins.now c.listed-found.new.expanded c.listed-found.new.origins c.args.second.now c.args.second_lengths.now c.args.second_expanded.now c.args.second_origins.now c.listed-found.new.second_expanded c.listed-found.new.second_origins c.args.list.now l c.listed-found.result.compared in
    subst P (sym c.put_all.ensures) (compares_texts c.args.list.now c.listed-found.ensures)
