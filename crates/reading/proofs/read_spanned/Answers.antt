use mathlib.Core.Path.{sym}
use native.Mathlib.Omega.{arith}
use Rattle.reading.proofs.Spans.{not_accepted}
use Rattle.reading.proofs.ByRules.{and_rules}
use Rattle.reading.proofs.Lending.{short_reads, long_reads, short_definitions, short_enumerators, short_objects, short_values}
use lib.Seq.{length-take-le}
use borrow.Author.Rules.{rules}
use Rattle.reading.proofs.read_spanned.Goals as goal

pub returns-then-definitions-lt-LENT : goal.returns-then-definitions-lt-LENT
returns-then-definitions-lt-LENT c = record { reads = (and_rules (record { reads = short_reads _ _ _ _ _ _ (short_definitions c.args.text.now _ _ _ _ c.if-definitions-lt-LENT.true) c.refused.ensures.reading; spans = not_accepted _ _ _ _ c.refused.ensures; no_spans = λ _ _ _. c.refused.ensures.none })).0; rules = (and_rules (record { reads = short_reads _ _ _ _ _ _ (short_definitions c.args.text.now _ _ _ _ c.if-definitions-lt-LENT.true) c.refused.ensures.reading; spans = not_accepted _ _ _ _ c.refused.ensures; no_spans = λ _ _ _. c.refused.ensures.none })).1.0; demand_3 = (and_rules (record { reads = short_reads _ _ _ _ _ _ (short_definitions c.args.text.now _ _ _ _ c.if-definitions-lt-LENT.true) c.refused.ensures.reading; spans = not_accepted _ _ _ _ c.refused.ensures; no_spans = λ _ _ _. c.refused.ensures.none })).1.1 }

pub returns-then-enumerators-lt-LENT : goal.returns-then-enumerators-lt-LENT
returns-then-enumerators-lt-LENT c = record { reads = (and_rules (record { reads = short_reads _ _ _ _ _ _ (short_enumerators c.args.text.now _ _ _ _ c.if-enumerators-lt-LENT.true) c.refused-then-enumerators-lt-LENT.ensures.reading; spans = not_accepted _ _ _ _ c.refused-then-enumerators-lt-LENT.ensures; no_spans = λ _ _ _. c.refused-then-enumerators-lt-LENT.ensures.none })).0; rules = (and_rules (record { reads = short_reads _ _ _ _ _ _ (short_enumerators c.args.text.now _ _ _ _ c.if-enumerators-lt-LENT.true) c.refused-then-enumerators-lt-LENT.ensures.reading; spans = not_accepted _ _ _ _ c.refused-then-enumerators-lt-LENT.ensures; no_spans = λ _ _ _. c.refused-then-enumerators-lt-LENT.ensures.none })).1.0; demand_3 = (and_rules (record { reads = short_reads _ _ _ _ _ _ (short_enumerators c.args.text.now _ _ _ _ c.if-enumerators-lt-LENT.true) c.refused-then-enumerators-lt-LENT.ensures.reading; spans = not_accepted _ _ _ _ c.refused-then-enumerators-lt-LENT.ensures; no_spans = λ _ _ _. c.refused-then-enumerators-lt-LENT.ensures.none })).1.1 }

pub returns-then-objects-lt-LENT : goal.returns-then-objects-lt-LENT
returns-then-objects-lt-LENT c = record { reads = (and_rules (record { reads = short_reads _ _ _ _ _ _ (short_objects c.args.text.now _ _ _ _ c.if-objects-lt-LENT.true) c.refused-then-objects-lt-LENT.ensures.reading; spans = not_accepted _ _ _ _ c.refused-then-objects-lt-LENT.ensures; no_spans = λ _ _ _. c.refused-then-objects-lt-LENT.ensures.none })).0; rules = (and_rules (record { reads = short_reads _ _ _ _ _ _ (short_objects c.args.text.now _ _ _ _ c.if-objects-lt-LENT.true) c.refused-then-objects-lt-LENT.ensures.reading; spans = not_accepted _ _ _ _ c.refused-then-objects-lt-LENT.ensures; no_spans = λ _ _ _. c.refused-then-objects-lt-LENT.ensures.none })).1.0; demand_3 = (and_rules (record { reads = short_reads _ _ _ _ _ _ (short_objects c.args.text.now _ _ _ _ c.if-objects-lt-LENT.true) c.refused-then-objects-lt-LENT.ensures.reading; spans = not_accepted _ _ _ _ c.refused-then-objects-lt-LENT.ensures; no_spans = λ _ _ _. c.refused-then-objects-lt-LENT.ensures.none })).1.1 }

pub returns-then-values-lt-LENT : goal.returns-then-values-lt-LENT
returns-then-values-lt-LENT c = record { reads = (and_rules (record { reads = short_reads _ _ _ _ _ _ (short_values c.args.text.now _ _ _ _ c.if-values-lt-LENT.true) c.refused-then-values-lt-LENT.ensures.reading; spans = not_accepted _ _ _ _ c.refused-then-values-lt-LENT.ensures; no_spans = λ _ _ _. c.refused-then-values-lt-LENT.ensures.none })).0; rules = (and_rules (record { reads = short_reads _ _ _ _ _ _ (short_values c.args.text.now _ _ _ _ c.if-values-lt-LENT.true) c.refused-then-values-lt-LENT.ensures.reading; spans = not_accepted _ _ _ _ c.refused-then-values-lt-LENT.ensures; no_spans = λ _ _ _. c.refused-then-values-lt-LENT.ensures.none })).1.0; demand_3 = (and_rules (record { reads = short_reads _ _ _ _ _ _ (short_values c.args.text.now _ _ _ _ c.if-values-lt-LENT.true) c.refused-then-values-lt-LENT.ensures.reading; spans = not_accepted _ _ _ _ c.refused-then-values-lt-LENT.ensures; no_spans = λ _ _ _. c.refused-then-values-lt-LENT.ensures.none })).1.1 }

pub slice_bounds-fill-end-2 : goal.slice_bounds-fill-end-2
slice_bounds-fill-end-2 c = sym (length-take-le 6656 c.args.definitions.now (omega arith))

pub slice_bounds-fill-end-4 : goal.slice_bounds-fill-end-4
slice_bounds-fill-end-4 c = sym (length-take-le 3072 c.args.enumerators.now (omega arith))

pub slice_bounds-fill-end-6 : goal.slice_bounds-fill-end-6
slice_bounds-fill-end-6 c = sym (length-take-le 2048 c.args.objects.now (omega arith))

pub slice_bounds-fill-end-8 : goal.slice_bounds-fill-end-8
slice_bounds-fill-end-8 c = sym (length-take-le 18432 c.args.values.now (omega arith))

pub fill-requires : goal.fill-requires
fill-requires c = record { definitions = length-take-le 6656 c.args.definitions.now (omega arith); enumerators = length-take-le 3072 c.args.enumerators.now (omega arith); objects = length-take-le 2048 c.args.objects.now (omega arith); values = length-take-le 18432 c.args.values.now (omega arith) }

pub returns : goal.returns
returns c = record { reads = (and_rules (record { reads = long_reads _ _ _ _ _ _ _ _ _ _ (omega arith) (omega arith) (omega arith) (omega arith) c.fill.ensures.filled; spans = c.fill.ensures.spans; no_spans = c.fill.ensures.no_spans })).0; rules = (and_rules (record { reads = long_reads _ _ _ _ _ _ _ _ _ _ (omega arith) (omega arith) (omega arith) (omega arith) c.fill.ensures.filled; spans = c.fill.ensures.spans; no_spans = c.fill.ensures.no_spans })).1.0; demand_3 = (and_rules (record { reads = long_reads _ _ _ _ _ _ _ _ _ _ (omega arith) (omega arith) (omega arith) (omega arith) c.fill.ensures.filled; spans = c.fill.ensures.spans; no_spans = c.fill.ensures.no_spans })).1.1 }
