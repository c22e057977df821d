-- What is noted of a text's names before its values are resolved, and which rows a loop over the definitions may pass. Assumes nothing.
use Rattle.std.specs.Prelude.{◌≡◌, List, Bool, true, false, ℕ, suc, ◌+◌, ◌*◌, ◌≤◌, ◌<◌, length, get_or}
use Rattle.rows.specs.Found.{Found}
use Rattle.std.specs.Prelude.{Some}
use Rattle.indexes.specs.Indexing.{Indexed}
use Rattle.lookups.specs.Names.{FewRows, Named}
use Rattle.lookups.specs.Ranks.{Ranked}
use Rattle.lookups.specs.Links.{Linked}
use Rattle.lookups.specs.Owners.{Owners}
use Rattle.sorting.specs.Sorted.{Tells}
use Rattle.amounts.specs.Known.{KnownDefaults}
use Rattle.blocks.specs.Blocks.{IsStated}
use Rattle.scopes.specs.Promises.{FindsEnumerator, FindsWord}
use Rattle.scopes.specs.declared.Sizes.{Sizes}
use Rattle.resolving.specs.declared.Notes.{Notes}

-- What is noted ----------------------------------------------------------------------------------------------------------------------------

-- The number c notes the enumerator that the default of row j is: one more than its row, or 0 where nothing is noted.
pub record WordNoted (s d e : List ℕ) (n j c : ℕ) : Type 0 where
  pub told : (i : ℕ) → c ≡ suc i → FindsEnumerator s d e n j (get_or d (j * 19 + 10) 0) (get_or d (j * 19 + 11) 0) (Some i)

-- So do the cells of t; of the enumerators the first n are looked at.
pub record WordsNoted (s d e : List ℕ) (n : ℕ) (t : List ℕ) : Type 0 where
  pub cell : (j : ℕ) → WordNoted s d e n j (get_or t j 0)

-- The names of enumerators and of objects are indexed.
pub record Indexes (s d e o : List ℕ) (z : Sizes) (words xe xo : List ℕ) : Type 0 where
  pub defaults : WordsNoted s d e z.enumerators words
  pub enumerators : Indexed s e 3 z.enumerators 0 1 xe
  pub objects : Indexed s o 10 z.objects 0 3 xo
  pub enumerators_fit : z.enumerators ≤ 1024
  pub objects_fit : z.objects ≤ 256

-- The names of statements and of definitions have their ranks; the table of definitions has 513 rows.
pub record NamesRanked (s d st rs rd : List ℕ) : Type 0 where
  pub rank : List ℕ → ℕ
  pub statements : Ranked rank s st 7 0 rs
  pub definitions : Ranked rank s d 19 2 rd
  pub room : length d ≡ 9747

-- Row j has no default that is taken.
pub data Bare (d : List ℕ) (j : ℕ) : Type 0 where
  no_default : get_or d (j * 19 + 11) 0 ≡ 0 → Bare d j
  not_taken : get_or d (j * 19 + 18) 0 ≡ 4 → Bare d j

-- r is 0 only where row i has none,
abbrev pub Taken : (d : List ℕ) → (i r : ℕ) → Type 0
Taken d i r = r ≡ 0 → Bare d i

-- and each of the first n cells of ms is that of its row.
pub record NotesTaken (d : List ℕ) (n : ℕ) (ms : List ℕ) : Type 0 where
  pub cell : (i : ℕ) → i < n → Taken d i (get_or ms i 0)

-- us has the words under which attributes stand whose default is taken.
pub record DefaultOwners (d us : List ℕ) : Type 0 where
  pub marks : List ℕ
  pub noted : NotesTaken d 512 marks
  pub owners : Owners d marks us

-- All that is noted.
pub record Noted (s d e o st : List ℕ) (z : Sizes) (known words xe xo rs nx rd us : List ℕ) : Type 0 where
  pub defaults : KnownDefaults s d known
  pub indexes : Indexes s d e o z words xe xo
  pub ranks : NamesRanked s d st rs rd
  pub links : Linked st rs nx
  pub owners : DefaultOwners d us

-- The same of the struct that holds it all.
abbrev pub InNotes : Notes → Type 0
InNotes n =
    Noted n.tables.text.now n.tables.definitions.now n.tables.enumerators.now n.tables.objects.now n.tables.statements.now n.tables.sizes
    n.known.now n.words.now n.enumerator_index.now n.object_index.now n.statement_ranks.now n.next_rows.now n.definition_ranks.now n.owners.now

-- The part of it by which a number is told.
abbrev pub InKnown : Notes → Type 0
InKnown n = KnownDefaults n.tables.text.now n.tables.definitions.now n.known.now

-- The part of it by which a name is told.
abbrev pub InIndexes : Notes → Type 0
InIndexes n =
    Indexes n.tables.text.now n.tables.definitions.now n.tables.enumerators.now n.tables.objects.now n.tables.sizes n.words.now n.enumerator_index.now n.object_index.now

-- The part of it by which a value is told.
abbrev pub InDefaults : Notes → Type 0
InDefaults n = InKnown n × InIndexes n

-- The part of it by which a row is found.
abbrev pub InRanks : Notes → Type 0
InRanks n = NamesRanked n.tables.text.now n.tables.definitions.now n.tables.statements.now n.statement_ranks.now n.definition_ranks.now

-- What is lent: the names, and what is known of the defaults; the table of definitions has 513 rows.
pub record Lent (s d e o st : List ℕ) (z : Sizes) (names known us : List ℕ) : Type 0 where
  pub room : length d ≡ 9747
  pub few : FewRows z
  pub named : Named s d e o st z names
  pub defaults : KnownDefaults s d known
  pub owners : DefaultOwners d us

-- What the functions promise ---------------------------------------------------------------------------------------------------------------

-- A default more is looked up, or all are, through the index x of the enumerators.
pub record NotesWord (s d e x : List ℕ) (j c : ℕ) : Type 0 where
  pub noted : (n : ℕ) → Indexed s e 3 n 0 1 x → n ≤ 65536 → WordNoted s d e n j c

pub record NotesTo (s d e x : List ℕ) (i : ℕ) (t : List ℕ) : Type 0 where
  pub cell : (j : ℕ) → j < i → NotesWord s d e x j (get_or t j 0)

-- The enumerator that a word is, and its value word, where the defaults are noted.
pub record EnumeratorNoted (s d e x words : List ℕ) (j at len : ℕ) (r : Found) : Type 0 where
  pub finds : (n : ℕ) → Indexed s e 3 n 0 1 x → n ≤ 65536 → WordsNoted s d e n words → FindsEnumerator s d e n j at len r

pub record WordFound (s d e x words : List ℕ) (j at len r : ℕ) : Type 0 where
  pub finds : (n : ℕ) → Indexed s e 3 n 0 1 x → n ≤ 65536 → WordsNoted s d e n words → FindsWord s d e n j at len r

-- Rows -------------------------------------------------------------------------------------------------------------------------------------

-- Row j gives no value: it stands elsewhere, or has no default and is not stated.
pub data Quiet (s d st : List ℕ) (key from till j : ℕ) : Type 0 where
  elsewhere : (get_or d (j * 19 + 0) 0 ≡ key → ⊥) → Quiet s d st key from till j
  silent : Bare d j → IsStated s st from till (get_or d (j * 19 + 2) 0) (get_or d (j * 19 + 3) 0) false → Quiet s d st key from till j

-- Where r says no, the row that begins at p has no default that is taken, or gives no value.
pub record Defaults (d : List ℕ) (p : ℕ) (r : Bool) : Type 0 where
  pub bare : r ≡ false → (j : ℕ) → p ≡ j * 19 → Bare d j

pub record Stirs (s d st : List ℕ) (key from till j p : ℕ) (r : Bool) : Type 0 where
  pub quiet : r ≡ false → p ≡ j * 19 → Quiet s d st key from till j

-- Where r says yes, the block is empty, and nothing under the word at key has a default that is taken.
pub record IsQuiet (us : List ℕ) (key from till : ℕ) (r : Bool) : Type 0 where
  pub empty : r ≡ true → till ≤ from
  pub unowned : r ≡ true → Tells us key false

-- The rows from j up to r stand elsewhere.
pub record Elsewhere (d : List ℕ) (key j r : ℕ) : Type 0 where
  pub other : (i : ℕ) → j ≤ i → i < r → get_or d (i * 19 + 0) 0 ≡ key → ⊥

-- So it is, and r is not past the limit; row r stands under the word at key.
pub record NextUnder (d : List ℕ) (limit key j r : ℕ) : Type 0 where
  pub low : j ≤ r
  pub high : r ≤ limit
  pub elsewhere : Elsewhere d key j r
  pub here : r < limit → get_or d (r * 19 + 0) 0 ≡ key

-- The rows from j up to r give no value.
pub record Passes (s d st : List ℕ) (key from till j r : ℕ) : Type 0 where
  pub quiet : (i : ℕ) → j ≤ i → i < r → Quiet s d st key from till i

-- Likewise.
pub record NextRow (s d st : List ℕ) (limit key from till j r : ℕ) : Type 0 where
  pub low : j ≤ r
  pub high : r ≤ limit
  pub passes : Passes s d st key from till j r
  pub here : r < limit → get_or d (r * 19 + 0) 0 ≡ key
