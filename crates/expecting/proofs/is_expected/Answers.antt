use native.Mathlib.Omega.{arith}
use Rattle.expecting.specs.Samples.{as_name, as_itself}
use mathlib.Core.Logic.{⊎_elim}
use mathlib.Core.Bool.{false≢true}
use mathlib.Core.Path.{sym, ◌∙◌}
use Rattle.expecting.proofs.is_expected.Goals as goal
use Rattle.expecting.proofs.is_expected.Goals.{then-named+else-i-lt11, else-named}

pub returns-then-i-lt11 : goal.returns-then-i-lt11
returns-then-i-lt11 c = as_name c.if-named.true c.if-i-lt11.true

pub goes_on-requires : goal.goes_on-requires
goes_on-requires c = c.requires

pub returns : goal.returns
returns c =
    as_itself (λ e h. elim c.if-named.branch [ then-named+else-i-lt11 w ↦ absurd (omega arith) | else-named w ↦ false≢true (sym w.if-named.false ∙ e) ]) c.goes_on.ensures
