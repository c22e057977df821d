-- Where the implementation's name stands: after the word IMPLEMENTATION. No part of the public contract. Assumes nothing.
use Rattle.std.specs.Prelude.{◌≡◌, List, ℕ, ◌<◌}
use Rattle.meaning.specs.Syntax.{File}
use Rattle.scopes.specs.Situations.{Situation}

-- r is the place of the name, if p is that of the implementation.
abbrev pub NamesAt : List ℕ → (p r : ℕ) → Type 0
NamesAt s p r = (f : File) → Situation s f → p ≡ f.implementation.place → (r ≡ f.implementation_name.place) × (0 < r)
