use Rattle.testing.specs.Mendings.{mended_case}
use mathlib.Core.Path.{sym, ap}
use Rattle.testing.proofs.mends.mended_case.Goals as goal

pub returns-in-Err : goal.returns-in-Err
unfolding mended_case
returns-in-Err c = sym (ap mended_case c.in-Err.is)

pub returns-in-Ok : goal.returns-in-Ok
unfolding mended_case
returns-in-Ok c = sym (ap mended_case c.in-Ok.is)
