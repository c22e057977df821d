-- `testing::sign_of_sort` meets its contract: only a number has a sign.
-- Assumes nothing.
use Rattle.testing.specs.Steps.{sign_of_sort}
use mathlib.Core.Path.{sym, ap}
use Rattle.testing.proofs.sign_of_sort.Goals as goal

pub returns-in-Number : goal.returns-in-Number
unfolding sign_of_sort
returns-in-Number c = sym (ap sign_of_sort c.in-Number.is)

pub returns-in-Word : goal.returns-in-Word
unfolding sign_of_sort
returns-in-Word c = sym (ap sign_of_sort c.in-Word.is)

pub returns-in-String : goal.returns-in-String
unfolding sign_of_sort
returns-in-String c = sym (ap sign_of_sort c.in-String.is)

pub returns-in-Punctuator : goal.returns-in-Punctuator
unfolding sign_of_sort
returns-in-Punctuator c = sym (ap sign_of_sort c.in-Punctuator.is)

pub returns-in-Float : goal.returns-in-Float
unfolding sign_of_sort
returns-in-Float c = sym (ap sign_of_sort c.in-Float.is)
