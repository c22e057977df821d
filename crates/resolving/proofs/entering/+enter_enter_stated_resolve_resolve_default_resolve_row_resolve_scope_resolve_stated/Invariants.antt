use Rattle.lookups.specs.Links.{Follows}
use Rattle.resolving.proofs.Statings.{States}
use Rattle.resolving.proofs.Turns.{Goes}
use mathlib.Core.Path.{◌≡◌}
use Prim.Native.Nat.{◌+◌, ◌-◌, ◌*◌, ◌≤◌}
use lib.ListN.{length, get_or}
use Prim.Native.Nat.{◌<◌}
use Rattle.resolving.proofs.entering.+enter_enter_stated_resolve_resolve_default_resolve_row_resolve_scope_resolve_stated.Given as goal

abbrev pub decreases-enter : goal.decreases-enter
decreases-enter l = 6 * l.j + 2

abbrev pub decreases-enter_stated : goal.decreases-enter_stated
decreases-enter_stated l = 6 * l.j + 3

abbrev pub decreases-resolve : goal.decreases-resolve
decreases-resolve l = 6 * l.limit + 1

abbrev pub decreases-resolve_default : goal.decreases-resolve_default
decreases-resolve_default l = 6 * l.j + 3

abbrev pub decreases-resolve_row : goal.decreases-resolve_row
decreases-resolve_row l = 6 * l.j + 5

abbrev pub decreases-resolve_scope : goal.decreases-resolve_scope
decreases-resolve_scope l = 6 * l.limit

abbrev pub invariant-resolve_scope-loop-j : goal.invariant-resolve_scope-loop-j
invariant-resolve_scope-loop-j l = (length l.v ≡ length l.initial.v) × ((l.j ≤ l.limit) × ((l.j < l.limit → get_or l.t.tables.definitions.now (l.j * 19 + 0) 0 ≡ l.key) × Goes l.t.tables.text.now l.t.tables.definitions.now l.t.tables.enumerators.now l.t.tables.objects.now l.t.tables.statements.now l.initial.v l.t.tables.sizes l.limit l.key l.from l.end l.w l.n l.v l.m l.j))

abbrev pub decreases-resolve_scope-loop-j : goal.decreases-resolve_scope-loop-j
decreases-resolve_scope-loop-j l = l.limit - l.j

abbrev pub decreases-resolve_stated : goal.decreases-resolve_stated
decreases-resolve_stated l = 6 * l.j + 4

abbrev pub invariant-resolve_stated-loop-k : goal.invariant-resolve_stated-loop-k
invariant-resolve_stated-loop-k l = (length l.v ≡ length l.initial.v) × (States l.t.tables.text.now l.t.tables.definitions.now l.t.tables.enumerators.now l.t.tables.objects.now l.t.tables.statements.now l.initial.v l.t.tables.sizes l.j l.from l.end l.w l.n l.v l.m l.k × Follows l.t.tables.statements.now l.t.next_rows.now l.last l.k l.end)

abbrev pub decreases-resolve_stated-loop-k : goal.decreases-resolve_stated-loop-k
decreases-resolve_stated-loop-k l = l.end - l.k
