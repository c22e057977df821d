-- What the functions that judge the statements promise, for every file whose text and rows these are. Assumes nothing.
use Rattle.std.specs.Prelude.{◌≡◌, List, [], ◌∷◌, ◌++◌, Bool, true, false, not, ℕ, suc, ◌+◌, ◌*◌, ◌≤◌, ◌<◌, length, get_or, eqb, leb}
use Rattle.meaning.specs.Merging.{then}
use Rattle.token.specs.Find.{pick, both, bit}
use Rattle.token.specs.Tokens.{part_of}
use Rattle.grammar.specs.Grammar.{Kind}
use Rattle.rows.specs.Order.{MaybeFault}
use Rattle.meaning.specs.Syntax.{Word, Definitions, Defined, Statement, Statements, state, Object, File, statements_in}
use Rattle.meaning.specs.Words.{among}
use Rattle.meaning.specs.Kinds.{kind_number}
use Rattle.meaning.specs.Faults.{first, faults_if}
use Rattle.meaning.specs.Scopes.{names, find_definition, of_kind, sort_of}
use Rattle.meaning.specs.Judging.{taken, lacking, lacks, lacks_under, faults_as, reference_faults, own_faults, judged, judge, judge_object, statement_stage}
use Rattle.layout.specs.Kept.{code_of, kept_objects}
use Rattle.blocks.specs.Blocks.{BlockAt}
use Rattle.scopes.specs.Situations.{Situation, HasDefinition, Stands, ScopeAt}
use Rattle.scopes.specs.Given.{Given, Attribute, Below, Places}
use Rattle.scopes.specs.Promises.{fault_of}
use Rattle.scopes.specs.declared.Sizes.{Sizes}

-- What must be stated ----------------------------------------------------------------------------------------------------------------------

-- 16 is given where the attribute is not stated.
unfoldable pub needed : Defined → Bool
needed x = lacking (taken x.definition.default) x.definition.list (λ t. lacks_under x.values t)

-- Of the first n rows, those that need to be stated are marked 1 in ms, the others 0.
abbrev pub Marked : File → List ℕ → ℕ → Type 0
Marked f ms n = (j : ℕ) (x : Defined) → Attribute f j x → j < n → get_or ms j 0 ≡ bit (needed x)

-- The word u at key has the scope ds, the rows from m to e are the block ss, and the first n rows of definitions are marked.
pub record Owned (s d st ms : List ℕ) (n key m e : ℕ) (f : File) (u : Word) (ds : Definitions) (ss : Statements) : Type 0 where
  pub enumerator_table : List ℕ
  pub object_table : List ℕ
  pub sizes : Sizes
  pub given : Given s d enumerator_table object_table st sizes f
  pub most : n ≤ sizes.definitions
  pub marked : Marked f ms n
  pub stands : Stands f.specs u ds
  pub place : u.place ≡ key
  pub block : BlockAt s st m e ss

-- The attribute x needs to be stated, and is not among the names ns.
unfoldable pub lack : Defined → List Word → Bool
lack x ns = both (not (among x.definition.name ns)) (needed x)

-- One of a scope's definitions that has the row i.
pub record HasRow (ds : Definitions) (i : ℕ) : Type 0 where
  pub defined : Defined
  pub has : HasDefinition ds defined
  pub row : defined.definition.row ≡ i

-- r tells whether the definition of row i is one of the scope ds and lacks its statement.
pub record RowLacks (ds : Definitions) (ns : List Word) (i : ℕ) (r : Bool) : Type 0 where
  pub own : (x : Defined) → HasDefinition ds x → x.definition.row ≡ i → r ≡ lack x ns
  pub some : r ≡ true → HasRow ds i

-- Whether the attribute of row i, one of those under the word at key, needs to be stated and is not.
abbrev pub LacksRow : (s d st ms : List ℕ) → (i m e : ℕ) → Bool → Type 0
LacksRow s d st ms i m e r =
    (n key : ℕ) (f : File) (u : Word) (ds : Definitions) (ss : Statements) → Owned s d st ms n key m e f u ds ss → i < n → get_or d (i * 19 + 0) 0 ≡ key
    → RowLacks ds (names ss) i r

-- Whether a block lacks an attribute of the scope of the word at key, whose definitions are among the first n rows.
abbrev pub Lacks : (s d st ms : List ℕ) → (n key m e : ℕ) → Bool → Type 0
Lacks s d st ms n key m e r =
    (f : File) (u : Word) (ds : Definitions) (ss : Statements) → Owned s d st ms n key m e f u ds ss → Below n ds → r ≡ lacks ds (names ss)

-- Whether the attribute of row j needs to be stated, where those of the rows before it are marked.
abbrev pub Needs : (s d e st ms : List ℕ) → Sizes → ℕ → ℕ → Type 0
Needs s d e st ms z j r =
    (o : List ℕ) (f : File) (x : Defined) → Given s d e o st z f → Marked f ms j → Attribute f j x → r ≡ bit (needed x)

-- The marks of all rows.
abbrev pub Marks : (s d e st : List ℕ) → Sizes → List ℕ → Type 0
Marks s d e st z ms = (o : List ℕ) (f : File) → Given s d e o st z f → Marked f ms z.definitions

-- Values -----------------------------------------------------------------------------------------------------------------------------------

-- Whether a word with this code is a name: no number, string, TRUE, FALSE, AUTO or NO_DEFAULT.
unfoldable pub name_code : ℕ → Bool
name_code c = pick (eqb c 43) false (pick (eqb c 44) false (pick (eqb c 0) true (pick (eqb c 54) false (leb 5 c))))

-- 15 and 18 of a reference to the kind of a number, whose value is the word at a place with a code.
abbrev pub ReferenceFault : (s o : List ℕ) → (n kind at len code : ℕ) → MaybeFault → Type 0
ReferenceFault s o n kind at len code r =
    (f : File) (k : Kind) (t : Word) → Situation s f → o ≡ kept_objects f → n ≡ length f.objects → n ≤ 257 → kind ≡ kind_number k
    → t.bytes ≡ part_of s at len → t.place ≡ at → code_of t ≡ code → r ≡ fault_of (first (reference_faults f.objects k (sort_of t.class) t))

-- The statement of row k is x, and its attribute y has the row j.
pub record StatedAs (s d e o st : List ℕ) (z : Sizes) (k j : ℕ) (f : File) (x : Statement) (y : Defined) : Type 0 where
  pub given : Given s d e o st z f
  pub inside : Statements
  pub rest : Statements
  pub after : ℕ
  pub block : BlockAt s st k after (state x inside rest)
  pub attribute : Attribute f j y

-- 15 and 18 of the statement of row k, whose attribute has the row j.
abbrev pub ValueFault : (s d e o st : List ℕ) → Sizes → (k j : ℕ) → MaybeFault → Type 0
ValueFault s d e o st z k j r =
    (f : File) (x : Statement) (y : Defined) → StatedAs s d e o st z k j f x y → r ≡ fault_of (first (faults_as y.definition.type f.objects x y))

-- Whether the attribute of row j is single, and stated before the statement of row k in the block from m to n.
abbrev pub Again : (s d e o st : List ℕ) → Sizes → (m k n j : ℕ) → Bool → Type 0
Again s d e o st z m k n j r =
    (f : File) (x : Statement) (y : Defined) (before : Statements) (a : StatedAs s d e o st z k j f x y)
    → BlockAt s st m n (then before (state x a.inside a.rest)) → k ≡ m + statements_in before → r ≡ both (not y.definition.list) (among x.name (names before))

-- 14, 15 and 18 of the statement of row k, in the block from m to n.
abbrev pub OwnFault : (s d e o st : List ℕ) → Sizes → (m k n j : ℕ) → MaybeFault → Type 0
OwnFault s d e o st z m k n j r =
    (f : File) (x : Statement) (y : Defined) (before : Statements) (a : StatedAs s d e o st z k j f x y)
    → BlockAt s st m n (then before (state x a.inside a.rest)) → k ≡ m + statements_in before → r ≡ fault_of (first (own_faults f.objects x y (names before)))

-- Statements -------------------------------------------------------------------------------------------------------------------------------

-- What is known where the statements of a block are judged: the scope ds of the word at key.
pub record Scoped (s d e o st ms : List ℕ) (z : Sizes) (key : ℕ) (f : File) (ds : Definitions) : Type 0 where
  pub given : Given s d e o st z f
  pub marked : Marked f ms z.definitions
  pub scope : ScopeAt f key ds

-- The faults of a block's statements.
abbrev pub Judges : (s d e o st ms : List ℕ) → Sizes → (key m n : ℕ) → MaybeFault → Type 0
Judges s d e o st ms z key m n r =
    (f : File) (ds : Definitions) (ss : Statements) → Scoped s d e o st ms z key f ds → BlockAt s st m n ss → r ≡ fault_of (first (judge ss f.objects ds []))

-- The faults of the statement of row k, in the block from m to v, and of those in its braces, which end before n.
abbrev pub JudgesOne : (s d e o st ms : List ℕ) → Sizes → (key m k n v : ℕ) → MaybeFault → Type 0
JudgesOne s d e o st ms z key m k n v r =
    (f : File) (ds : Definitions) (before : Statements) (x : Statement) (inside rest : Statements) → Scoped s d e o st ms z key f ds
    → BlockAt s st m v (then before (state x inside rest)) → k ≡ m + statements_in before → n ≡ suc k + statements_in inside
    → r ≡ fault_of (first (judged (find_definition ds x.name) f.objects x (names before) (names inside) (λ us. judge inside f.objects us [])))

-- 16 at the owner's word, and the faults of its block's statements.
abbrev pub JudgesBlock : (s d e o st ms : List ℕ) → Sizes → (key m n owner : ℕ) → MaybeFault → Type 0
JudgesBlock s d e o st ms z key m n owner r =
    (f : File) (ds : Definitions) (ss : Statements) (w : Word) → Scoped s d e o st ms z key f ds → BlockAt s st m n ss → w.place ≡ owner
    → r ≡ fault_of (first (faults_if (lacks ds (names ss)) w 16 ++ judge ss f.objects ds []))

-- 16 alone.
abbrev pub LackFault : (s d st ms : List ℕ) → Sizes → (key m n owner : ℕ) → MaybeFault → Type 0
LackFault s d st ms z key m n owner r =
    (e o : List ℕ) (f : File) (ds : Definitions) (ss : Statements) (w : Word) → Scoped s d e o st ms z key f ds → BlockAt s st m n ss → w.place ≡ owner
    → r ≡ fault_of (first (faults_if (lacks ds (names ss)) w 16))

-- The faults of the object of row i.
abbrev pub JudgesObject : (s d e o st ms : List ℕ) → Sizes → (ps : List ℕ) → ℕ → MaybeFault → Type 0
JudgesObject s d e o st ms z ps i r =
    (f : File) (front : List Object) (x : Object) (rest : List Object) → Given s d e o st z f → Marked f ms z.definitions → Places f ps
    → f.objects ≡ front ++ (x ∷ rest) → length front ≡ i → r ≡ fault_of (first (judge_object f x (of_kind x.kind f.specs)))

-- The faults of all objects, where the rows of definitions are marked.
abbrev pub JudgesObjects : (s d e o st ms : List ℕ) → Sizes → List ℕ → MaybeFault → Type 0
JudgesObjects s d e o st ms z ps r =
    (f : File) → Given s d e o st z f → Marked f ms z.definitions → Places f ps → r ≡ fault_of (first (statement_stage f))

-- The fault by which the stage of 13 to 16 and 18 answers.
abbrev pub JudgesAll : (s d e o st : List ℕ) → Sizes → List ℕ → MaybeFault → Type 0
JudgesAll s d e o st z ps r = (f : File) → Given s d e o st z f → Places f ps → r ≡ fault_of (first (statement_stage f))
