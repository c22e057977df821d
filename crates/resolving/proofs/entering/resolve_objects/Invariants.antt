-- `resolving::entering::resolve_objects` meets its contract: at object i, those before it are done.
-- Assumes nothing.
use lib.ListN.{length}
use mathlib.Core.Path.{◌≡◌}
use Rattle.resolving.proofs.Objects.{Does}
use Rattle.resolving.proofs.entering.resolve_objects.Given as goal

abbrev pub invariant-loop-i : goal.invariant-loop-i
invariant-loop-i l = (length l.v ≡ length l.initial.v) × Does l.t.tables.text.now l.t.tables.definitions.now l.t.tables.enumerators.now l.t.tables.objects.now l.t.tables.statements.now l.initial.v l.t.tables.sizes l.places l.v l.n l.i
