-- What the tests see of an expansion. Assumes nothing.
use Rattle.std.specs.Prelude.{◌≡◌, List, [], ◌∷◌, ℕ}
use Rattle.std.proofs.lemmas.List.Edits.{sets}
use Rattle.sources.specs.Promises.{Expands}
use Rattle.sources.specs.declared.Expansion.{Expansion}

-- The answer is that of `expand`; the cells w become w', by its place and length.
pub record ExpandsTold (b l x g w x' g' w' : List ℕ) (n : ℕ) : Type 0 where
  pub answer : Expansion
  pub expands : Expands 65535 b l x g x' g' answer
  pub number : n ≡ answer.number
  pub told : w' ≡ sets w 0 (answer.place ∷ answer.length ∷ [])
