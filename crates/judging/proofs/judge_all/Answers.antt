use Rattle.lookups.proofs.Naming.{names_kept}
use Rattle.judging.proofs.Readying.{marks_ready, judged_all, blank_again}
use native.Mathlib.Omega.{arith}
use borrow.Author.Rules.{rules}
use Rattle.judging.proofs.judge_all.Goals as goal

pub returns-then-z-gt-MOST : goal.returns-then-z-gt-MOST
returns-then-z-gt-MOST c = record { judges = (λ f a p. let l = a.tables.definitions_fit in absurd (omega (arith, l, c.if-z-gt-MOST.true))); keeps = c.requires; lends = (λ n b. b) }

pub returns-then-z-gt-MOST-2 : goal.returns-then-z-gt-MOST-2
returns-then-z-gt-MOST-2 c = record { judges = (λ f a p. let l = a.tables.enumerators_fit in absurd (omega (arith, l, c.if-z-gt-MOST-2.true))); keeps = c.requires; lends = (λ n b. b) }

pub returns-then-z-gt-MOST-3 : goal.returns-then-z-gt-MOST-3
returns-then-z-gt-MOST-3 c = record { judges = (λ f a p. let l = a.tables.objects_fit in absurd (omega (arith, l, c.if-z-gt-MOST-3.true))); keeps = c.requires; lends = (λ n b. b) }

pub marks-missing-requires : goal.marks-missing-requires
marks-missing-requires c = let n = c.requires.named (record { definitions = omega (arith, c.if-z-gt-MOST.false); enumerators = omega (arith, c.if-z-gt-MOST-2.false); objects = omega (arith, c.if-z-gt-MOST-3.false) }) in (n.enumerators, n.ranks)

pub slice_bounds-judge_few-end-then-in_lists-lt-FEW-2 : goal.slice_bounds-judge_few-end-then-in_lists-lt-FEW-2
slice_bounds-judge_few-end-then-in_lists-lt-FEW-2 c = search (rules, c.well_formed)

pub judge_few-requires : goal.judge_few-requires
judge_few-requires c = marks_ready _ _ _ _ _ _ _ _ _ _ (record { definitions = omega (arith, c.if-z-gt-MOST.false); enumerators = omega (arith, c.if-z-gt-MOST-2.false); objects = omega (arith, c.if-z-gt-MOST-3.false) }) (omega arith) (omega arith) c.put_cells.ensures c.requires c.owners-owners.ensures

pub returns-then-in_lists-lt-FEW : goal.returns-then-in_lists-lt-FEW
returns-then-in_lists-lt-FEW c = record { judges = judged_all _ _ _ _ _ _ _ (c.marks-missing.result) _ c.marks-missing.ensures c.judge_few.ensures; keeps = names_kept _ _ _ _ _ _ _ _ (c.owners-owners.result) (omega arith) c.put_cells.ensures c.requires; lends = (λ n b. b) }

pub slice_bounds-judge_many-end-3 : goal.slice_bounds-judge_many-end-3
slice_bounds-judge_many-end-3 c = search (rules, c.well_formed)

pub judge_many-requires : goal.judge_many-requires
judge_many-requires c = marks_ready _ _ _ _ _ _ _ _ _ _ (record { definitions = omega (arith, c.if-z-gt-MOST.false); enumerators = omega (arith, c.if-z-gt-MOST-2.false); objects = omega (arith, c.if-z-gt-MOST-3.false) }) (omega arith) (omega arith) c.put_cells.ensures c.requires c.owners-owners.ensures

pub returns : goal.returns
returns c = record { judges = judged_all _ _ _ _ _ _ _ (c.marks-missing.result) _ c.marks-missing.ensures c.judge_many.ensures.judges; keeps = names_kept _ _ _ _ _ _ _ _ (c.owners-owners.result) (omega arith) c.put_cells.ensures c.requires; lends = blank_again _ _ c.judge_many.ensures.blank }
