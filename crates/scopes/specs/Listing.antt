-- Faults row by row, each row with those before it. Assumes nothing.
use Rattle.std.specs.Prelude.{List, [], ◌∷◌, ◌++◌}
use Rattle.meaning.specs.Faults.{Fault}

-- The faults that F finds at each row, with the rows before it.
module _ {A : Type 0} (F : List A → A → List Fault) where
  unfoldable pub each : List A → List A → List Fault
  each before [] = []
  each before (x ∷ xs) = F before x ++ each (before ++ (x ∷ [])) xs
