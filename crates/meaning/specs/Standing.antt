-- For the contracts of the code: the rows of the table of definitions that stand under a word, and the definitions of a scope as such rows.
-- Assumes nothing.
use Rattle.std.specs.Prelude.{List, [], ◌∷◌, ◌++◌, Bool, true, false, ℕ, suc, eqb}
use Rattle.meaning.specs.Syntax.{Word, Definitions, no_more, define}
use Rattle.meaning.specs.Defining.{DefinitionRow, definition_row}

-- A row with its number.
pub record Standing : Type 0 where
  pub number : ℕ
  pub row : DefinitionRow

-- The rows, numbered from i on, that stand under the word at p.
unfoldable pub standing_if : Bool → ℕ → DefinitionRow → List Standing
standing_if true i r = record { number = i; row = r } ∷ []
standing_if false i r = []

unfoldable pub select : ℕ → ℕ → List DefinitionRow → List Standing
select p i [] = []
select p i (r ∷ rs) = standing_if (eqb r.under.place p) i r ++ select p (suc i) rs

-- The definitions of a scope, as rows under the word u.
unfoldable pub standing : Word → Definitions → List Standing
standing u no_more = []
standing u (define d vs ds) = record { number = d.row; row = definition_row u d } ∷ standing u ds
