-- The rows of the tables as Q-13 sees them: the path led down over the cells of the definitions d and of the values v. No part of the public
-- contract. Assumes nothing.
use Rattle.std.specs.Prelude.{List, [], ◌∷◌, Bool, ℕ, zero, suc, ◌-◌, eqb}
use Rattle.token.specs.Find.{both}
use Rattle.token.specs.Words.{same}
use Rattle.rows.specs.Table.{cell_of}
use Rattle.rows.specs.Search.{row_name, find_from}
use Rattle.rows.specs.Found.{Found}
use Rattle.std.specs.Prelude.{Some, None}
use Rattle.meaning.specs.Words.{choose}
use Rattle.writing.specs.Lines.{value_at}
use Rattle.attribute_values.specs.Paths.{steps, name_of, mark_of, picks}
use Rattle.attribute_values.specs.Results.{Outcome, untouched, copied}
use Rattle.attribute_values.specs.Answered.{no_value}

-- Row i of the objects has this kind word and this name.
unfoldable pub called_at : (s o kind name : List ℕ) → ℕ → Bool
called_at s o kind name i = both (same (row_name s o 8 1 i) kind) (same (row_name s o 8 3 i) name)

-- Row k has this owner.
unfoldable pub owned_at : (v : List ℕ) → (sort row k : ℕ) → Bool
owned_at v sort row k = both (eqb (cell_of v 9 k 1) sort) (eqb (cell_of v 9 k 2) row)

-- Row k has this owner, and its attribute this name.
unfoldable pub named_at : (s d v : List ℕ) → (sort row : ℕ) → (name : List ℕ) → ℕ → Bool
named_at s d v sort row name k = both (owned_at v sort row k) (same (row_name s d 13 2 (cell_of v 9 k 0)) name)

-- The mark picks row k, as entry n of its attribute.
unfoldable pub picked_at : (d v mark : List ℕ) → (k n : ℕ) → Bool
picked_at d v mark k n = picks (eqb (cell_of d 13 (cell_of v 9 k 0) 6) 1) mark n

-- The first of the c rows from k on that has the name and is picked; n rows with the name stand before them.
unfoldable pub seek : (named : ℕ → Bool) → (picked : ℕ → ℕ → Bool) → (c k n : ℕ) → Found
seek named picked zero k n = None
seek named picked (suc c) k n =
    choose (named k)
    (λ _. choose (picked k n) (λ _. Some k) (λ _. seek named picked c (suc k) (suc n)))
    (λ _. seek named picked c (suc k) n)

-- The row, of those from k on and before row e, that a step picks among the rows of an owner.
unfoldable pub entry_at : (s d v : List ℕ) → (e k sort row : ℕ) → List ℕ → Found
entry_at s d v e k sort row b = seek (named_at s d v sort row (name_of b)) (picked_at d v (mark_of b)) (e - k) k 0

-- What the further steps bs lead to from the row that a step picked: that row itself where none is left.
unfoldable pub onward_at : List (List ℕ) → Found → (ℕ → Found) → Found
onward_at bs None inner = None
onward_at [] (Some k) inner = Some k
onward_at (b ∷ bs) (Some k) inner = inner k

-- The row that the steps lead to, from the rows of an owner from k on: further steps go on among the rows that the picked one owns.
unfoldable pub by_steps_at : (s d v : List ℕ) → (e : ℕ) → List (List ℕ) → (k sort row : ℕ) → Found
by_steps_at s d v e [] k sort row = None
by_steps_at s d v e (b ∷ bs) k sort row = onward_at bs (entry_at s d v e k sort row b) (λ j. by_steps_at s d v e bs (suc j) 1 j)

-- What g gives of a row that was found.
unfoldable pub within : Found → (ℕ → Found) → Found
within None g = None
within (Some i) g = g i

-- The row of the value by kind, object name and path; there are m objects and e values.
unfoldable pub row_of : (s d o v : List ℕ) → (m e : ℕ) → (kind name path : List ℕ) → Found
row_of s d o v m e kind name path = within (find_from (called_at s o kind name) m 0) (λ i. by_steps_at s d v e (steps path) 0 0 i)

-- The answer by the row that was found.
unfoldable pub told_at : (s v : List ℕ) → Found → List ℕ → Outcome
told_at s v None l = untouched no_value l
told_at s v (Some k) l = copied (value_at s v k) l
