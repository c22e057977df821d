use mathlib.Core.Path.{◌≡◌, ap, ◌∙◌}
use lib.ListN.{get_or}
use borrow.Author.Rules.{rules}
use Rattle.kinds.specs.Kinds.{kind_of}
use Rattle.kinds.specs.declared.Kind.TheVariants.{Nm}
use Rattle.kinds.proofs.Numbers.{all, kind_by}
use Rattle.kinds.proofs.Kind.of.Goals as goal

pub returns : goal.returns
returns c =
    let e : c.unwrap_or.result ≡ get_or all c.args.number Nm = search rules in
    ap kind_of e ∙ kind_by c.args.number
