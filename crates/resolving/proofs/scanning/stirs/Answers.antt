use mathlib.Core.Path.{refl}
use native.Mathlib.Omega.{arith}
use Rattle.resolving.proofs.Passing.{stirs_yes, stirs_none, stirs_stated}
use Rattle.resolving.proofs.scanning.stirs.Goals as goal

pub returns-then-has_default : goal.returns-then-has_default
returns-then-has_default c = stirs_yes

pub returns-then-end-from : goal.returns-then-end-from
returns-then-end-from c = stirs_none c.has_default.ensures c.if-has_default.false (omega arith)

pub returns : goal.returns
returns c = stirs_stated c.requires.1 c.has_default.ensures c.if-has_default.false (omega arith) refl _ c.requires.2 c.may_state.ensures
