-- What is told of a writing over lent texts. Assumes nothing.
use mathlib.Core.Path.{◌≡◌, sym, ap}
use Prim.Native.Nat.{ℕ}
use Rattle.reading.specs.declared.Answer.{Answer}
use Rattle.reading.specs.declared.Answer.TheVariants.{Accepted, Refused}
use Rattle.testing.specs.Readings.{number_of, place_of}
use Rattle.testing.specs.SetWritings.{told_by}
use Rattle.testing.specs.declared.sets.Told.{Told}

pub tells_set : (m : ℕ) {b : Answer} → b ≡ Accepted → record { number = 0; place = 0; length = m } ≡ told_by b m
unfolding number_of place_of
tells_set m e = sym (ap (λ a. told_by a m) e)

pub tells_no_set : (m : ℕ) {b : Answer} {n p : ℕ} → b ≡ Refused n p → record { number = n; place = p; length = m } ≡ told_by b m
unfolding number_of place_of
tells_no_set m e = sym (ap (λ a. told_by a m) e)
