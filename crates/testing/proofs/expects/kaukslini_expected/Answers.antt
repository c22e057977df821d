use mathlib.Core.Path.{refl}
use native.Mathlib.Omega.{arith}
use Rattle.testing.proofs.expects.kaukslini_expected.Goals as goal

pub returns-then-i-lt-TERMINALS : goal.returns-then-i-lt-TERMINALS
returns-then-i-lt-TERMINALS c = record { flags = _; tells = c.expected-flags.ensures; is = λ _. refl }

pub returns : goal.returns
returns c = record { flags = _; tells = c.expected-flags.ensures; is = λ h. absurd (omega arith) }
