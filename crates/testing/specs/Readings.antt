-- What the tests see of a reading. Assumes nothing.
use Rattle.std.specs.Prelude.{◌≡◌, List, [], ◌∷◌, ℕ}
use Rattle.std.proofs.lemmas.List.Edits.{sets}
use Rattle.reading.specs.declared.Answer.{Answer}
use Rattle.reading.specs.declared.Answer.TheVariants.{Accepted, Refused}
use Rattle.reading.specs.declared.Reading.{Reading}

unfoldable pub number_of : Answer → ℕ
number_of Accepted = 0
number_of (Refused n p) = n

unfoldable pub place_of : Answer → ℕ
place_of Accepted = 0
place_of (Refused n p) = p

abbrev pub sizes : Reading → List ℕ
sizes r = r.definitions ∷ r.enumerators ∷ r.objects ∷ r.values ∷ []

-- What is told of a reading: its number; the cells w become w', by the sizes, the counts and the place.
pub record ReadingTold (r : Reading) (w w' : List ℕ) (n : ℕ) : Type 0 where
  pub number : n ≡ number_of r.answer
  pub cells : w' ≡ sets (sets (sets w 1 (sizes r)) 5 r.counts) 0 (place_of r.answer ∷ [])

-- The same of a reading of which P is promised.
pub record ReadsTold (P : Reading → Type 0) (w w' : List ℕ) (n : ℕ) : Type 0 where
  pub answer : Reading
  pub reads : P answer
  pub told : ReadingTold answer w w' n
