use native.Mathlib.Omega.{arith}
use Rattle.heading.proofs.Told.{ahead, string_fits, name_fits, told, told_3, told_4, told_5}
use Rattle.heading.specs.Headings.{too_long}
use Rattle.heading.proofs.Promises.{q_7}
use Rattle.heading.proofs.heading.Goals as goal

pub returns-then-text-gt-LONGEST : goal.returns-then-text-gt-LONGEST
returns-then-text-gt-LONGEST c = let e = too_long c.if-text-gt-LONGEST.true in record { heads = e; q_7 = q_7 _ _ e }

pub overflow_add-told : goal.overflow_add-told
overflow_add-told c = let w = string_fits (ahead c.look_at-a.ensures c.expect-b.ensures c.expect-c.ensures c.expect-d.ensures c.finish-e.ensures c.expect-f.ensures c.expect_name-g.ensures) c.if-g-eq-LBRACE.true in let x = w.0 in let y = w.1 in omega (arith, x, y, c.if-text-gt-LONGEST.false)

pub overflow_sub-told : goal.overflow_sub-told
overflow_sub-told c = let w = string_fits (ahead c.look_at-a.ensures c.expect-b.ensures c.expect-c.ensures c.expect-d.ensures c.finish-e.ensures c.expect-f.ensures c.expect_name-g.ensures) c.if-g-eq-LBRACE.true in let x = w.0 in omega (arith, x)

pub overflow_sub-told-then-g-eq-LBRACE : goal.overflow_sub-told-then-g-eq-LBRACE
overflow_sub-told-then-g-eq-LBRACE c = let w = string_fits (ahead c.look_at-a.ensures c.expect-b.ensures c.expect-c.ensures c.expect-d.ensures c.finish-e.ensures c.expect-f.ensures c.expect_name-g.ensures) c.if-g-eq-LBRACE.true in let x = w.0 in omega (arith, x)

pub overflow_sub-told-then-g-eq-LBRACE-2 : goal.overflow_sub-told-then-g-eq-LBRACE-2
overflow_sub-told-then-g-eq-LBRACE-2 c = name_fits (ahead c.look_at-a.ensures c.expect-b.ensures c.expect-c.ensures c.expect-d.ensures c.finish-e.ensures c.expect-f.ensures c.expect_name-g.ensures) c.if-g-eq-LBRACE.true

pub returns-then-g-eq-LBRACE : goal.returns-then-g-eq-LBRACE
returns-then-g-eq-LBRACE c = let e = told (ahead c.look_at-a.ensures c.expect-b.ensures c.expect-c.ensures c.expect-d.ensures c.finish-e.ensures c.expect-f.ensures c.expect_name-g.ensures) c.if-g-eq-LBRACE.true c.if-text-gt-LONGEST.false in record { heads = e; q_7 = q_7 _ _ e }

pub returns-then-h-eq-NO_TOKEN : goal.returns-then-h-eq-NO_TOKEN
returns-then-h-eq-NO_TOKEN c = let e = told_3 (ahead c.look_at-a.ensures c.expect-b.ensures c.expect-c.ensures c.expect-d.ensures c.finish-e.ensures c.expect-f.ensures c.expect_name-g.ensures) c.if-g-eq-LBRACE.false _ c.refuse-h.ensures c.if-text-gt-LONGEST.false c.if-h-eq-NO_TOKEN.true in record { heads = e; q_7 = q_7 _ _ e }

pub returns-then-h-eq-NOT_ADMITTED : goal.returns-then-h-eq-NOT_ADMITTED
returns-then-h-eq-NOT_ADMITTED c = let e = told_4 (ahead c.look_at-a.ensures c.expect-b.ensures c.expect-c.ensures c.expect-d.ensures c.finish-e.ensures c.expect-f.ensures c.expect_name-g.ensures) c.if-g-eq-LBRACE.false _ c.refuse-h.ensures c.if-text-gt-LONGEST.false c.if-h-eq-NOT_ADMITTED.true in record { heads = e; q_7 = q_7 _ _ e }

pub returns : goal.returns
returns c = let e = told_5 (ahead c.look_at-a.ensures c.expect-b.ensures c.expect-c.ensures c.expect-d.ensures c.finish-e.ensures c.expect-f.ensures c.expect_name-g.ensures) c.if-g-eq-LBRACE.false _ c.refuse-h.ensures c.if-text-gt-LONGEST.false c.if-h-eq-NO_TOKEN.false c.if-h-eq-NOT_ADMITTED.false in record { heads = e; q_7 = q_7 _ _ e }
