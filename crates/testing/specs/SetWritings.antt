-- What the tests see of a writing over lent texts. Assumes nothing.
use Rattle.std.specs.Prelude.{◌≡◌, ℕ}
use Rattle.reading.specs.declared.Answer.{Answer}
use Rattle.writing.specs.declared.Written.{Written}
use Rattle.testing.specs.Readings.{number_of, place_of}
use Rattle.testing.specs.declared.sets.Told.{Told}

abbrev pub told_by : Answer → ℕ → Told
told_by a m = record { number = number_of a; place = place_of a; length = m }

-- The answer is one of which P is promised; t is what is told of it.
pub record WritesSet (P : Written → Type 0) (t : Told) : Type 0 where
  pub answer : Written
  pub writes : P answer
  pub told : t ≡ told_by answer.answer answer.length
