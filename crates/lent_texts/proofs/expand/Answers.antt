use Rattle.lent_texts.proofs.Told.{short_expands, long_expands, two_told, small_number, text_expands}
use native.Mathlib.Omega.{arith}
use borrow.Author.Rules.{rules}
use Rattle.lent_texts.proofs.expand.Goals as goal

pub returns-then-expanded-lt-LONGEST : goal.returns-then-expanded-lt-LONGEST
returns-then-expanded-lt-LONGEST c = short_expands (λ f. let h = f.bytes in omega arith)

pub returns-then-origins-lt-LONGEST : goal.returns-then-origins-lt-LONGEST
returns-then-origins-lt-LONGEST c = short_expands (λ f. let h = f.origins in omega arith)

pub returns-then-e-eq-LONG_TEXTS : goal.returns-then-e-eq-LONG_TEXTS
returns-then-e-eq-LONG_TEXTS c = long_expands _ _ _ _ _ _ _ c.expand-e.ensures (omega arith) (omega arith) c.if-e-eq-LONG_TEXTS.true

pub overflow_cast-text : goal.overflow_cast-text
overflow_cast-text c = let h = small_number _ _ _ _ _ _ _ c.expand-e.ensures (omega arith) (omega arith) c.if-e-eq-LONG_TEXTS.false in omega arith

pub bounds-lengths-1 : goal.bounds-lengths-1
bounds-lengths-1 c = let h = two_told _ _ _ _ _ _ _ c.expand-e.ensures (omega arith) (omega arith) c.if-e-eq-LONG_TEXTS.false in omega arith

pub returns : goal.returns
returns c = text_expands _ _ _ _ _ _ _ c.expand-e.ensures (omega arith) (omega arith) c.if-e-eq-LONG_TEXTS.false
