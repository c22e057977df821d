-- What the lookups through an index x of the rows find, if these are at most 65536. Assumes nothing.
use Rattle.std.specs.Prelude.{ℕ, ◌≤◌, List}
use Rattle.rows.specs.Found.{Found}
use Rattle.indexes.specs.Indexing.{Indexed}
use Rattle.scopes.specs.Promises.{FindsDefinition, FindsObject, FindsEnumerator, FindsWord}

-- r is the row of the definition that the name at a place has in the scope of the word at key
unfoldable pub DefinitionIndexed : List ℕ → List ℕ → List ℕ → (key at len : ℕ) → Found → Type 0
DefinitionIndexed s d x key at len r = (n : ℕ) → Indexed s d 19 n 0 2 x → n ≤ 65536 → FindsDefinition s d n key at len r

-- r is the row of the object of a kind that has the name at a place
unfoldable pub ObjectIndexed : List ℕ → List ℕ → List ℕ → (kind at len : ℕ) → Found → Type 0
ObjectIndexed s o x kind at len r = (n : ℕ) → Indexed s o 10 n 0 3 x → n ≤ 65536 → FindsObject s o n kind at len r

-- r is the row of the enumerator that the word at a place is, of the list of the attribute of row j
unfoldable pub EnumeratorIndexed : List ℕ → List ℕ → List ℕ → List ℕ → (j at len : ℕ) → Found → Type 0
EnumeratorIndexed s d e x j at len r = (n : ℕ) → Indexed s e 3 n 0 1 x → n ≤ 65536 → FindsEnumerator s d e n j at len r

-- r is the place of the value word that the word at a place is, of the list of the attribute of row j; 0 for none
unfoldable pub WordIndexed : List ℕ → List ℕ → List ℕ → List ℕ → (j at len : ℕ) → ℕ → Type 0
WordIndexed s d e x j at len r = (n : ℕ) → Indexed s e 3 n 0 1 x → n ≤ 65536 → FindsWord s d e n j at len r
