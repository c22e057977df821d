-- The table of names, 6916 cells: the indexes of the definitions, of the enumerators and of the objects, the ranks of the statements' and the definitions'
-- names, the words under which something must be stated, and for each statement the next one of its rank.
-- Assumes nothing.
use Rattle.std.specs.Prelude.{ℕ, ◌+◌, ◌*◌, ◌≤◌, ◌≡◌, List, length, get_or}
use Rattle.rows.specs.Table.{part}
use Rattle.indexes.specs.Indexing.{Indexed}
use Rattle.lookups.specs.Ranks.{Ranked, NotesRanks}
use Rattle.lookups.specs.Links.{Linked}
use Rattle.scopes.specs.declared.Sizes.{Sizes}

-- The ranks of the statements' names in the table, which are from cell 1792 on, as many as cell 4865 says,
abbrev pub statement_ranks : List ℕ → List ℕ
statement_ranks x = part x 1792 (get_or x 4865 0)

-- those of the definitions' names, from cell 3841 on, as many as cell 4866 says,
abbrev pub definition_ranks : List ℕ → List ℕ
definition_ranks x = part x 3841 (get_or x 4866 0)

-- and the words under which something must be stated, from cell 4353 on, once they are put there.
abbrev pub owner_words : List ℕ → List ℕ
owner_words x = part x 4353 512

-- From cell 4867 on stands for each statement the next one of its rank.
abbrev pub next_rows : List ℕ → List ℕ
next_rows x = part x 4867 (get_or x 4865 0)

-- From a place on, the table x has the index of the first n rows of t, whose keys stand in column 0.
pub record IndexAt (s t : List ℕ) (w m n at : ℕ) (x : List ℕ) : Type 0 where
  pub few : n ≤ 1024
  pub index : Indexed s t w n 0 m (part x at n)

-- It has the ranks of the names of the definitions d and the statements st.
pub record Ranks (s d st x : List ℕ) : Type 0 where
  pub rank : List ℕ → ℕ
  pub few_definitions : get_or x 4866 0 ≤ 512
  pub few_statements : get_or x 4865 0 ≤ 2049
  pub definitions : Ranked rank s d 19 2 (definition_ranks x)
  pub statements : Ranked rank s st 7 0 (statement_ranks x)

-- It has all.
pub record Named (s d e o st : List ℕ) (z : Sizes) (x : List ℕ) : Type 0 where
  pub definitions : IndexAt s d 19 2 z.definitions 0 x
  pub enumerators : IndexAt s e 3 1 z.enumerators 512 x
  pub objects : IndexAt s o 10 3 z.objects 1536 x
  pub ranks : Ranks s d st x
  pub links : Linked st (statement_ranks x) (next_rows x)

-- There is room for all.
pub record FewRows (z : Sizes) : Type 0 where
  pub definitions : z.definitions ≤ 512
  pub enumerators : z.enumerators ≤ 1024
  pub objects : z.objects ≤ 256

-- The table is made: it has all, if there is room for it.
pub record Names (s d e o st : List ℕ) (z : Sizes) (x : List ℕ) : Type 0 where
  pub room : length x ≡ 6916
  pub named : FewRows z → Named s d e o st z x

-- How it is made ---------------------------------------------------------------------------------------------------------------------------

-- Only the n cells from a place on are changed.
pub record Within (at n : ℕ) (x y : List ℕ) : Type 0 where
  pub size : length y ≡ length x
  pub before : (a k : ℕ) → a + k ≤ at → part y a k ≡ part x a k
  pub behind : (a k : ℕ) → at + n ≤ a → part y a k ≡ part x a k

-- The index of the first n rows is put at a place, if the room is half of them.
pub record PutsIndex (s t : List ℕ) (w m n at room : ℕ) (x y : List ℕ) : Type 0 where
  pub within : Within at n x y
  pub index : n ≤ 2 * room + 1 → Indexed s t w n 0 m (part y at n)

-- The ranks of the names of the first n rows of t among those of the definitions d, of which v is the index, are put at a place.
pub record PutsRanks (s d v t : List ℕ) (w m n at : ℕ) (x y : List ℕ) : Type 0 where
  pub within : Within at n x y
  pub ranks : NotesRanks s d v t w m (part y at n)

-- For each statement the next one of its rank is put after all others; h has the ranks.
pub record PutsLinks (st h x y : List ℕ) : Type 0 where
  pub within : Within 4867 (length h) x y
  pub links : Linked st h (part y 4867 (length h))

-- There is room for the table x, for the index v of the definitions, for the ranks h of the statements' names, and for sorting.
pub record Rooms (z : Sizes) (v h spare x : List ℕ) : Type 0 where
  pub few : FewRows z
  pub statements_fit : length h ≤ 2049
  pub size : length v ≡ z.definitions
  pub spare_room : length spare ≡ 512
  pub room : length x ≡ 6916
