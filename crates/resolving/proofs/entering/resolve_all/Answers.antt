use Rattle.lookups.specs.Names.{FewRows}
use native.Mathlib.Omega.{arith}
use Rattle.resolving.proofs.Passing.{not_sized}
use lib.Seq.{length-take-le}
use mathlib.Core.Path.{refl, sym}
use Rattle.resolving.proofs.entering.resolve_all.Goals as goal

pub returns-then-d-ne-KEPT : goal.returns-then-d-ne-KEPT
returns-then-d-ne-KEPT c = not_sized (λ a y b e. c.if-d-ne-KEPT.true a)

pub returns-then-z-gt-MOST : goal.returns-then-z-gt-MOST
returns-then-z-gt-MOST c = not_sized (λ a y b e. omega arith)

pub returns-then-z-gt-MOST-2 : goal.returns-then-z-gt-MOST-2
returns-then-z-gt-MOST-2 c = not_sized (λ a y b e. omega arith)

pub returns-then-z-gt-MOST-3 : goal.returns-then-z-gt-MOST-3
returns-then-z-gt-MOST-3 c = not_sized (λ a y b e. omega arith)

pub slice_bounds-resolve_noted-end-2 : goal.slice_bounds-resolve_noted-end-2
slice_bounds-resolve_noted-end-2 c = sym (length-take-le _ _ (omega (arith, c.if-z-gt-MOST.false)))

pub resolve_noted-requires : goal.resolve_noted-requires
resolve_noted-requires c = let F : FewRows c.args.z = record { definitions = omega (arith, c.if-z-gt-MOST.false); enumerators = omega (arith, c.if-z-gt-MOST-2.false); objects = omega (arith, c.if-z-gt-MOST-3.false) } in record { room = c.if-d-ne-KEPT.false; few = F; named = c.requires.named F; defaults = c.note_defaults.ensures refl; owners = c.default_owners-owners.ensures }

pub returns : goal.returns
returns c = c.resolve_noted.ensures
