use native.Mathlib.Omega.{arith}
use Rattle.dropping.proofs.drop_all.Goals as goal

pub returns-then-z-gt-MOST : goal.returns-then-z-gt-MOST
returns-then-z-gt-MOST c = λ f a p. let l = a.tables.definitions_fit in absurd (omega (arith, l, c.if-z-gt-MOST.true))

pub returns-then-z-gt-MOST-2 : goal.returns-then-z-gt-MOST-2
returns-then-z-gt-MOST-2 c = λ f a p. let l = a.tables.enumerators_fit in absurd (omega (arith, l, c.if-z-gt-MOST-2.true))

pub returns-then-z-gt-MOST-3 : goal.returns-then-z-gt-MOST-3
returns-then-z-gt-MOST-3 c = λ f a p. let l = a.tables.objects_fit in absurd (omega (arith, l, c.if-z-gt-MOST-3.true))

pub drop_few-requires : goal.drop_few-requires
drop_few-requires c = c.requires.named (record { definitions = omega (arith, c.if-z-gt-MOST.false); enumerators = omega (arith, c.if-z-gt-MOST-2.false); objects = omega (arith, c.if-z-gt-MOST-3.false) })

pub drop_many-requires : goal.drop_many-requires
drop_many-requires c = c.requires.named (record { definitions = omega (arith, c.if-z-gt-MOST.false); enumerators = omega (arith, c.if-z-gt-MOST-2.false); objects = omega (arith, c.if-z-gt-MOST-3.false) })
