use mathlib.Core.Path.{sym, ap}
use Rattle.std.specs.Prelude.{is_some, unwrap_or}
use Rattle.token.specs.Find.{both}
use lib.Dec.{leb}
use Rattle.defining_checks.proofs.definitions.is_late.Goals as goal

pub returns-in-Some : goal.returns-in-Some
returns-in-Some c = sym (ap (λ o. both (is_some o) (leb (unwrap_or o 0) c.args.at)) c.in-Some.is)

pub returns-in-None : goal.returns-in-None
returns-in-None c = sym (ap (λ o. both (is_some o) (leb (unwrap_or o 0) c.args.at)) c.in-None.is)
