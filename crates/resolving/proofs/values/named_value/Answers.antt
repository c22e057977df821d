-- `resolving::values::named_value` meets its contract: by the attribute's type, each answer its own law.
-- Assumes nothing.
use Rattle.rows.specs.Search.{row_of}
use Rattle.resolving.proofs.Valuing.{named_string, named_enumerator, named_object}
use native.Mathlib.Omega.{arith}
use mathlib.Core.Path.{refl, sym, ap}
use Rattle.resolving.proofs.Namings.{enumerator_is, object_is}
use Rattle.resolving.proofs.values.named_value.Goals as goal

pub returns-in_default : goal.returns-in_default
unfolding row_of
returns-in_default c = named_enumerator c.cell_of-code.ensures c.if-code-eq-ENUM.true (enumerator_is c.requires c.enumerator_of.ensures) (sym (ap row_of c.in_default.is))

pub returns-then-code-eq-ENUM : goal.returns-then-code-eq-ENUM
unfolding row_of
returns-then-code-eq-ENUM c = named_enumerator c.cell_of-code.ensures c.if-code-eq-ENUM.true (enumerator_is c.requires c.enumerator_of.ensures) (sym (ap row_of c.in-Some.is))

pub returns-then-code-lt-FIRST_TYPE : goal.returns-then-code-lt-FIRST_TYPE
returns-then-code-lt-FIRST_TYPE c = named_string c.cell_of-code.ensures (λ q. omega arith) (λ q. omega arith)

pub returns-then-code-gt-LAST_TYPE : goal.returns-then-code-gt-LAST_TYPE
returns-then-code-gt-LAST_TYPE c = named_string c.cell_of-code.ensures (λ q. omega arith) (λ q. omega arith)

pub returns-in_default-find_object : goal.returns-in_default-find_object
unfolding row_of
returns-in_default-find_object c = named_object c.cell_of-code.ensures (λ q. omega arith) (omega arith) (omega arith) refl (object_is c.requires _ _ _ _ c.find_object.ensures) (sym (ap row_of c.in_default-find_object.is))

pub returns : goal.returns
unfolding row_of
returns c = named_object c.cell_of-code.ensures (λ q. omega arith) (omega arith) (omega arith) refl (object_is c.requires _ _ _ _ c.find_object.ensures) (sym (ap row_of c.in-Some-find_object.is))
