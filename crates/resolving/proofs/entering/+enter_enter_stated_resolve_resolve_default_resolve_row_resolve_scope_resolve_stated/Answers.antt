use Rattle.lookups.proofs.Blocks.{firsts_empty, firsts_none}
use Rattle.resolving.proofs.Passing.{after_grows, finds_ranked, finds_after, follows_none, goes_pass, resolves_past, resolves_full, resolves_quiet}
use Rattle.resolving.proofs.Namings.{word_is}
use Rattle.resolving.proofs.Statings.{states_start, states_none, states_out, states_more, states_end, row_found, row_missing}
use Rattle.resolving.proofs.Entrances.{enter_full, enter_more, stated_this, default_none, default_not, default_taken}
use Rattle.resolving.proofs.Turns.{goes_start, goes_more, goes_end, resolves_none}
use native.Mathlib.Omega.{arith}
use mathlib.Core.Path.{refl}
use Rattle.resolving.proofs.entering.+enter_enter_stated_resolve_resolve_default_resolve_row_resolve_scope_resolve_stated.Goals as goal

pub enter-returns-then-n-gt-MOST : goal.enter-returns-then-n-gt-MOST
enter-returns-then-n-gt-MOST t c = enter_full c.if-n-gt-MOST.true

pub enter-put_value-requires : goal.enter-put_value-requires
enter-put_value-requires t c = (omega arith, (c.requires.defaults, c.requires.indexes))

pub enter-resolve-requires : goal.enter-resolve-requires
enter-resolve-requires t c = (omega arith, c.requires)

pub enter-returns : goal.enter-returns
enter-returns t c = enter_more (omega arith) c.put_value.ensures (word_is c.requires.indexes c.word_of-key.ensures) c.resolve.ensures

pub enter_stated-enter-requires : goal.enter_stated-enter-requires
enter_stated-enter-requires t c = (omega arith, c.requires)

pub enter_stated-returns : goal.enter_stated-returns
enter_stated-returns t c = stated_this c.cell_of-at.ensures c.cell_of-len.ensures c.cell_of-code.ensures c.enter.ensures

pub resolve-returns-then-key-eq0 : goal.resolve-returns-then-key-eq0
resolve-returns-then-key-eq0 t c = resolves_none c.if-key-eq0.true

pub resolve-returns-then-limit-gt-MOST : goal.resolve-returns-then-limit-gt-MOST
resolve-returns-then-limit-gt-MOST t c = resolves_past (omega arith)

pub resolve-returns-then-n-gt-MOST : goal.resolve-returns-then-n-gt-MOST
resolve-returns-then-n-gt-MOST t c = resolves_full (omega arith)

pub resolve-returns-then-is_quiet : goal.resolve-returns-then-is_quiet
resolve-returns-then-is_quiet t c = resolves_quiet c.if-key-eq0.false (omega arith) c.requires.owners c.is_quiet.ensures c.if-is_quiet.true

pub resolve-resolve_scope-requires : goal.resolve-resolve_scope-requires
resolve-resolve_scope-requires t c = (omega (arith, c.decreases), (omega (arith, c.if-key-eq0.false), (omega (arith, c.if-limit-gt-MOST.false), (c.requires, firsts_empty _ _ _ _ _ refl))))

pub resolve-returns-then-end-from : goal.resolve-returns-then-end-from
resolve-returns-then-end-from t c = c.resolve_scope.ensures

pub resolve-fill_firsts-requires : goal.resolve-fill_firsts-requires
resolve-fill_firsts-requires t c = firsts_none _ _ _ _ 64

pub resolve-fill_firsts-requires-2 : goal.resolve-fill_firsts-requires-2
resolve-fill_firsts-requires-2 t c = firsts_none _ _ _ _ 513

pub resolve-resolve_scope-requires-2 : goal.resolve-resolve_scope-requires-2
resolve-resolve_scope-requires-2 t c = (omega (arith, c.decreases), (omega (arith, c.if-key-eq0.false), (omega (arith, c.if-limit-gt-MOST.false), (c.requires, c.fill_firsts-2.ensures))))

pub resolve-returns : goal.resolve-returns
resolve-returns t c = c.resolve_scope-2.ensures

pub resolve_default-returns-then-len-eq0 : goal.resolve_default-returns-then-len-eq0
resolve_default-returns-then-len-eq0 t c = default_none c.cell_of-len.ensures c.if-len-eq0.true

pub resolve_default-returns-then-code-eq-NO_DEFAULT : goal.resolve_default-returns-then-code-eq-NO_DEFAULT
resolve_default-returns-then-code-eq-NO_DEFAULT t c = default_not c.cell_of-code.ensures c.if-code-eq-NO_DEFAULT.true

pub resolve_default-enter-requires : goal.resolve_default-enter-requires
resolve_default-enter-requires t c = (omega arith, c.requires)

pub resolve_default-returns : goal.resolve_default-returns
resolve_default-returns t c = default_taken c.cell_of-len.ensures c.if-len-eq0.false c.cell_of-code.ensures c.if-code-eq-NO_DEFAULT.false c.cell_of-at.ensures c.enter.ensures

pub resolve_row-resolve_default-requires : goal.resolve_row-resolve_default-requires
resolve_row-resolve_default-requires t c = (omega arith, c.requires.0)

pub resolve_row-returns-in_default : goal.resolve_row-returns-in_default
resolve_row-returns-in_default t c = row_missing (finds_ranked c.requires.0.ranks _ _ _ _ _ c.requires.1 c.row_stated.ensures) c.in_default.is c.resolve_default.ensures

pub resolve_row-resolve_stated-requires : goal.resolve_row-resolve_stated-requires
resolve_row-resolve_stated-requires t c = (omega arith, c.requires.0)

pub resolve_row-returns : goal.resolve_row-returns
resolve_row-returns t c = row_found (finds_ranked c.requires.0.ranks _ _ _ _ _ c.requires.1 c.row_stated.ensures) c.in-Some.is c.resolve_stated.ensures

pub resolve_scope-next_row-j-requires : goal.resolve_scope-next_row-j-requires
resolve_scope-next_row-j-requires t c = (c.requires.1.0, (omega arith, (c.requires.1.1.0.ranks, c.requires.1.1.1)))

pub resolve_scope-loop-j-init : goal.resolve_scope-loop-j-init
resolve_scope-loop-j-init t c = (refl, (c.next_row-j.ensures.high, (c.next_row-j.ensures.here, goes_pass c.next_row-j.ensures goes_start)))

pub resolve_scope-resolve_row-m-requires : goal.resolve_scope-resolve_row-m-requires
resolve_scope-resolve_row-m-requires t c = (omega (arith, c.decreases), c.requires.1.1)

pub resolve_scope-overflow_add-j : goal.resolve_scope-overflow_add-j
resolve_scope-overflow_add-j t c = omega (arith, c.requires.1.0)

pub resolve_scope-next_row-j-requires-in-loop-j : goal.resolve_scope-next_row-j-requires-in-loop-j
resolve_scope-next_row-j-requires-in-loop-j t c = (c.requires.1.0, (omega arith, (c.requires.1.1.0.ranks, c.requires.1.1.1)))

pub resolve_scope-loop-j-smaller : goal.resolve_scope-loop-j-smaller
resolve_scope-loop-j-smaller t c = omega (arith, c.next_row-j-in-loop-j.ensures.low)

pub resolve_scope-loop-j-preserved : goal.resolve_scope-loop-j-preserved
resolve_scope-loop-j-preserved t c = (omega arith, (c.next_row-j-in-loop-j.ensures.high, (c.next_row-j-in-loop-j.ensures.here, goes_pass c.next_row-j-in-loop-j.ensures (goes_more (omega arith) c.loop-j.invariant.1.1.1 (c.resolve_row-m.ensures.resolves (c.loop-j.invariant.1.1.0 (omega arith)))))))

pub resolve_scope-shape_of-v : goal.resolve_scope-shape_of-v
resolve_scope-shape_of-v t c = c.loop-j.invariant.0

pub resolve_scope-returns : goal.resolve_scope-returns
resolve_scope-returns t c = goes_end (omega arith) (λ q. omega (arith, q, c.requires.0)) c.loop-j.invariant.1.1.1

pub resolve_stated-loop-k-init : goal.resolve_stated-loop-k-init
resolve_stated-loop-k-init t c = (refl, (states_start, follows_none _ _ _ _))

pub resolve_stated-shape_of-v-then-i-k : goal.resolve_stated-shape_of-v-then-i-k
resolve_stated-shape_of-v-then-i-k t c = c.loop-k.invariant.0

pub resolve_stated-returns-then-i-k : goal.resolve_stated-returns-then-i-k
resolve_stated-returns-then-i-k t c = states_out refl refl c.loop-k.invariant.1.0 (finds_after c.requires.ranks c.requires.links c.loop-k.invariant.1.1 c.stated_after.ensures) c.in-Some.is (λ q. omega arith)

pub resolve_stated-shape_of-v-then-end-i : goal.resolve_stated-shape_of-v-then-end-i
resolve_stated-shape_of-v-then-end-i t c = c.loop-k.invariant.0

pub resolve_stated-returns-then-end-i : goal.resolve_stated-returns-then-end-i
resolve_stated-returns-then-end-i t c = states_out refl refl c.loop-k.invariant.1.0 (finds_after c.requires.ranks c.requires.links c.loop-k.invariant.1.1 c.stated_after.ensures) c.in-Some.is (λ q. omega arith)

pub resolve_stated-enter_stated-m-requires : goal.resolve_stated-enter_stated-m-requires
resolve_stated-enter_stated-m-requires t c = (omega (arith, c.decreases), c.requires)

pub resolve_stated-shape_of-v-in_default : goal.resolve_stated-shape_of-v-in_default
resolve_stated-shape_of-v-in_default t c = c.loop-k.invariant.0

pub resolve_stated-returns-in_default : goal.resolve_stated-returns-in_default
resolve_stated-returns-in_default t c = states_none refl refl c.loop-k.invariant.1.0 (finds_after c.requires.ranks c.requires.links c.loop-k.invariant.1.1 c.stated_after.ensures) c.in_default.is

pub resolve_stated-loop-k-smaller : goal.resolve_stated-loop-k-smaller
resolve_stated-loop-k-smaller t c = omega (arith, after_grows _ _ _ _ c.after-next.ensures (omega arith))

pub resolve_stated-loop-k-preserved : goal.resolve_stated-loop-k-preserved
resolve_stated-loop-k-preserved t c = (omega arith, (states_more refl refl c.loop-k.invariant.1.0 (finds_after c.requires.ranks c.requires.links c.loop-k.invariant.1.1 c.stated_after.ensures) c.in-Some.is c.after-next.ensures refl c.enter_stated-m.ensures, record { inside = λ q. omega arith; after = λ q. c.after-next.ensures }))

pub resolve_stated-shape_of-v : goal.resolve_stated-shape_of-v
resolve_stated-shape_of-v t c = c.loop-k.invariant.0

pub resolve_stated-returns : goal.resolve_stated-returns
resolve_stated-returns t c = states_end (omega arith) c.loop-k.invariant.1.0
