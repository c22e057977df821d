-- What the functions over the kept rows promise, for every file whose text and rows these are. No part of the public contract. Assumes nothing.
use Rattle.std.specs.Prelude.{◌≡◌, List, ◌∷◌, ◌++◌, Bool, true, false, ℕ, ◌+◌, ◌*◌, ◌≤◌, length, get_or, eqb}
use Rattle.std.proofs.Math.Option.{Option, none, some}
use Rattle.token.specs.Find.{pick, either}
use Rattle.meaning.specs.Merging.{then}
use Rattle.meaning.specs.Syntax.{Word, Definitions, Defined, Statement, Statements, done, state, Object, File, statements_in}
use Rattle.meaning.specs.Scopes.{names, find_definition, of_kind}
use Rattle.meaning.specs.Judging.{lacks}
use Rattle.blocks.specs.Blocks.{BlockAt}
use Rattle.scopes.specs.Situations.{HasDefinition, Stands, ScopeAt}
use Rattle.scopes.specs.Given.{Given, Places, Below}
use Rattle.scopes.specs.declared.Sizes.{Sizes}
use Rattle.lookups.specs.Names.{IndexAt}
use Rattle.judging.specs.Promises.{lack}
use Rattle.reading.specs.Decisions.{Merged, Passed}
use Rattle.reading.specs.declared.Decision.{Decision}
use Rattle.statement_causes.specs.Sites.{Site, inner, site_in, site_of, site_at, attribute_of, first_of}
use Rattle.statement_causes.specs.Tellings.{AttributeIs, Missing, owner_inside, owner_at, MissingAt, ToldOf}
use Rattle.statement_causes.specs.declared.Spot.{Spot}
use Rattle.statement_causes.specs.declared.Attribute.{Attribute}
use Rattle.statement_causes.specs.declared.Told.{Told}

-- The indexes of the definitions and of the enumerators are in the table of names x.
pub record Looked (s d e : List ℕ) (z : Sizes) (x : List ℕ) : Type 0 where
  pub definitions : IndexAt s d 19 2 z.definitions 0 x
  pub enumerators : IndexAt s e 3 1 z.enumerators 512 x

-- By the cells of row k: a word of the statement stands at p.
unfoldable pub touched : List ℕ → (k p : ℕ) → Bool
touched st k p = either (eqb (get_or st (k * 7 + 0) 0) p) (either (eqb (get_or st (k * 7 + 2) 0) p) (eqb (get_or st (k * 7 + 5) 0) p))

-- The word of the scope of the braces of the statement of row k, whose own scope is that of the word at key; 0 for none.
abbrev pub FindsInner : (s d e st : List ℕ) → Sizes → (key k : ℕ) → ℕ → Type 0
FindsInner s d e st z key k r =
    (o : List ℕ) (f : File) (ds : Definitions) (x : Statement) (inside rest : Statements) (v : ℕ) → Given s d e o st z f → ScopeAt f key ds
    → BlockAt s st k v (state x inside rest) → ScopeAt f r (inner (find_definition ds x.name) x)

-- A statement's row in the tables: r has the word of its scope, the rows of its block, and its own.
pub record SpotAt (s st : List ℕ) (f : File) (r : Spot) (q : Site) : Type 0 where
  pub found : r.found ≡ true
  pub scope : ScopeAt f r.key q.scope
  pub block : BlockAt s st r.from r.end (then q.before (state q.statement q.inside q.rest))
  pub row : r.row ≡ r.from + statements_in q.before

pub data SpotIs (s st : List ℕ) (f : File) (r : Spot) : Option Site → Type 0 where
  no_spot : r.found ≡ false → SpotIs s st f r none
  a_spot : {q : Site} → SpotAt s st f r q → SpotIs s st f r (some q)

-- The statement of a block, or of one in its braces, that is touched at p.
abbrev pub Seeks : (s d e st : List ℕ) → Sizes → (key m n p : ℕ) → Spot → Type 0
Seeks s d e st z key m n p r =
    (o : List ℕ) (f : File) (ds : Definitions) (ss : Statements) → Given s d e o st z f → ScopeAt f key ds → BlockAt s st m n ss → SpotIs s st f r (site_in p ss ds done)

-- The same of the object of row i,
abbrev pub SeeksObject : (s d e o st : List ℕ) → Sizes → (ps : List ℕ) → (i p : ℕ) → Spot → Type 0
SeeksObject s d e o st z ps i p r =
    (f : File) (front : List Object) (x : Object) (rest : List Object) → Given s d e o st z f → Places f ps
    → f.objects ≡ front ++ (x ∷ rest) → length front ≡ i → SpotIs s st f r (site_in p x.statements (of_kind x.kind f.specs) done)

-- and of all objects.
abbrev pub SeeksAll : (s d e o st : List ℕ) → Sizes → (ps : List ℕ) → ℕ → Spot → Type 0
SeeksAll s d e o st z ps p r = (f : File) → Given s d e o st z f → Places f ps → SpotIs s st f r (site_of f p f.objects)

-- What a spot tells ---------------------------------------------------------------------------------------------------------------------------

-- The cells of row j of the definitions.
pub record RowTold (d : List ℕ) (j : ℕ) (r : Attribute) : Type 0 where
  pub found : r.found ≡ true
  pub name_place : r.name ≡ get_or d (j * 19 + 2) 0
  pub name_length : r.name_len ≡ get_or d (j * 19 + 3) 0
  pub type_place : r.word ≡ get_or d (j * 19 + 4) 0
  pub type_length : r.word_len ≡ get_or d (j * 19 + 5) 0
  pub type_code : r.code ≡ get_or d (j * 19 + 12) 0
  pub range_place : r.range ≡ get_or d (j * 19 + 8) 0
  pub range_length : r.range_len ≡ get_or d (j * 19 + 9) 0
  pub auto : r.auto ≡ get_or d (j * 19 + 7) 0

-- The attribute of the statement of a spot.
abbrev pub TellsAttribute : (s d e st : List ℕ) → Sizes → Spot → Attribute → Type 0
TellsAttribute s d e st z t r = (o : List ℕ) (f : File) (q : Option Site) → Given s d e o st z f → SpotIs s st f t q → AttributeIs r (attribute_of q)

-- Where its name is stated first.
abbrev pub TellsFirst : (s st : List ℕ) → Spot → ℕ → Type 0
TellsFirst s st t r = (f : File) (q : Option Site) → SpotIs s st f t q → r ≡ first_of q

-- What is missing -----------------------------------------------------------------------------------------------------------------------------

-- The place of the name of a single attribute, 0 of a list.
unfoldable pub single_place : List ℕ → ℕ → ℕ
single_place d j = pick (eqb (get_or d (j * 19 + 6) 0) 0) (get_or d (j * 19 + 2) 0) 0

-- Where the attribute x is not among the names ns: r is what is missing then, 0 for nothing.
pub record RowMisses (ds : Definitions) (ns : List Word) (x : Defined) (r : ℕ) : Type 0 where
  pub none : r ≡ 0 → lack x ns ≡ false
  pub some : (r ≡ 0 → ⊥) → Missing ds ns r

-- What is missing in the block from m to v because of the attribute of row j.
abbrev pub MissesRow : (s d e st : List ℕ) → Sizes → (j m v : ℕ) → ℕ → Type 0
MissesRow s d e st z j m v r =
    (o : List ℕ) (f : File) (u : Word) (ds : Definitions) (ss : Statements) (x : Defined) → Given s d e o st z f → Stands f.specs u ds → BlockAt s st m v ss
    → HasDefinition ds x → x.definition.row ≡ j → RowMisses ds (names ss) x r

-- What is missing in a block in the scope of the word at key, whose definitions are among the first n rows.
pub record MissesIn (ds : Definitions) (ns : List Word) (r : ℕ) : Type 0 where
  pub missing : Missing ds ns r
  pub none : r ≡ 0 → lacks ds ns ≡ false

abbrev pub Misses : (s d e st : List ℕ) → Sizes → (n key m v : ℕ) → ℕ → Type 0
Misses s d e st z n key m v r =
    (o : List ℕ) (f : File) (ds : Definitions) (ss : Statements) → Given s d e o st z f → ScopeAt f key ds → BlockAt s st m v ss → n ≤ z.definitions → Below n ds
    → MissesIn ds (names ss) r

-- What the object of row i lacks,
abbrev pub MissesObject : (s d e o st : List ℕ) → Sizes → (ps : List ℕ) → (i : ℕ) → ℕ → Type 0
MissesObject s d e o st z ps i r =
    (f : File) (front : List Object) (x : Object) (rest : List Object) → Given s d e o st z f → Places f ps
    → f.objects ≡ front ++ (x ∷ rest) → length front ≡ i → Missing (of_kind x.kind f.specs) (names x.statements) r

-- and what the value of the statement of a spot lacks.
abbrev pub MissesInside : (s d e st : List ℕ) → Sizes → Spot → ℕ → Type 0
MissesInside s d e st z t r = (o : List ℕ) (f : File) (q : Option Site) → Given s d e o st z f → SpotIs s st f t q → MissingAt r (owner_inside q)

-- What the owner at p lacks, where t is the statement's spot.
abbrev pub MissesAt : (s d e o st : List ℕ) → Sizes → (ps : List ℕ) → Spot → ℕ → ℕ → Type 0
MissesAt s d e o st z ps t p r = (f : File) → Given s d e o st z f → Places f ps → SpotIs s st f t (site_at f p) → MissingAt r (owner_at f p)

-- The whole -----------------------------------------------------------------------------------------------------------------------------------

-- Of the rows of a text,
abbrev pub TellsRows : (s d e o st : List ℕ) → Sizes → (ps : List ℕ) → ℕ → Told → Type 0
TellsRows s d e o st z ps p r = (f : File) → Given s d e o st z f → Places f ps → ToldOf f p r

-- of a text that passes the stages before 13, whose rows are in the tables y.
abbrev pub TellsKept : (s : List ℕ) → Merged → Decision → ℕ → Told → Type 0
TellsKept s y w p r = (a : Passed s y w) → ToldOf a.file p r
