-- `explaining::bounds::code_after` meets its contract: each arm is a case of `code_after`.
-- Assumes nothing.
use mathlib.Core.Path.{sym, ap}
use Rattle.explaining.specs.Bounds.{code_after}
use Rattle.explaining.proofs.TypeWords.{word_auto, word_other}
use Rattle.explaining.proofs.bounds.code_after.Goals as goal

pub returns-then-n-eq5 : goal.returns-then-n-eq5
returns-then-n-eq5 c = word_auto _ _ _ c.in-Word.is c.if-n-eq5.true

pub returns-else-n-eq5 : goal.returns-else-n-eq5
returns-else-n-eq5 c = word_other _ _ _ c.in-Word.is c.if-n-eq5.false

pub returns-in-Number : goal.returns-in-Number
unfolding code_after
returns-in-Number c = sym (ap (code_after _) c.in-Number.is)

pub returns-in-String : goal.returns-in-String
unfolding code_after
returns-in-String c = sym (ap (code_after _) c.in-String.is)

pub returns-in-Punctuator : goal.returns-in-Punctuator
unfolding code_after
returns-in-Punctuator c = sym (ap (code_after _) c.in-Punctuator.is)

pub returns-in-Float : goal.returns-in-Float
unfolding code_after
returns-in-Float c = sym (ap (code_after _) c.in-Float.is)
