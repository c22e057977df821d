-- What holds of every accepted text, in the words of those who use the tables; and what every answer holds to. The person whom this is built for was
-- "tired of four chores"; each has its statements here:
--   1. "Untangling references found by name without looking at the kind, which once put two workers into one dose history":
--      `ReferencesOwn`, `ReferencesResolved`, `NamesApart`, `OwnersOwn`, `OwnersBefore`;
--   2. "Chasing default values that the generator took from the wrong branch of an ENUM": `DefaultsOwn`, `BranchesOwn`, `NumbersOwn`,
--      `FloatsOwn`;
--   3. "Explaining "syntax error" to a supplier when it points forty lines too late": `HopeEndsThere`;
--   4. "Restarting the tool after somebody's half-saved file": `EveryTextAnswered`.
-- Here `part s w` are the bytes of the text s at the place and length w. Assumes nothing.
use Rattle.std.specs.Prelude.{◌≡◌, List, ◌∷◌, Bool, true, false, ℕ, suc, ◌<◌}
use Rattle.token.specs.Tokens.{step_at}
use Rattle.grammar.specs.Grammar.{Kind, Integer}
use Rattle.grammar.specs.Demand.{Place}
use Rattle.meaning.specs.Syntax.{Num, Span, Bounds, integer, float as float_type, reference}
use Rattle.meaning.specs.Words.{in_type, in_bounds, in_float_bounds}
use Rattle.meaning.specs.Actions.{float_of_step}
use Rattle.meaning.specs.Defining.{DefinitionRow}
use Rattle.meaning.specs.Applying.{ObjectRow}
use Rattle.meaning.specs.Resolving.{number, truth, float, enumerator, object, of_object, of_value, ValueRow}
use Rattle.meaning.specs.Normal.{part}
use Rattle.meaning.specs.Answers.{Tables, Answer, accepted, refused}
use Rattle.meaning.specs.Reading.{Answers}
use Rattle.meaning.specs.Rules.{TheAnswer}
use Rattle.scopes.specs.Ranges.{RangeAt, FloatsAt}

-- Row n of a table is r.
pub data Row {R : Type 0} : List R → ℕ → R → Type 0 where
  here : {r : R} {rs : List R} → Row (r ∷ rs) 0 r
  behind : {r q : R} {rs : List R} {n : ℕ} → Row rs n r → Row (q ∷ rs) (suc n) r

-- 1. References, names and owners ------------------------------------------------------------------------------------------------------------

-- The value r is the object of row o: r's definition is a reference, row o is an object of the reference's kind, and its name has the bytes of the
-- value word. "A reference names an object of its own kind".
pub record ReferenceKind (s : List ℕ) (t : Tables) (r : ValueRow) (o : ℕ) : Type 0 where
  pub definition : DefinitionRow
  pub its_definition : Row t.definitions r.definition definition
  pub kind : Kind
  pub refers : definition.typed ≡ reference kind
  pub target : ObjectRow
  pub its_target : Row t.objects o target
  pub same_kind : target.kind ≡ kind
  pub same_name : part s target.name ≡ part s r.word

-- The value of a reference is an object.
pub record AnObject (r : ValueRow) : Type 0 where
  pub row : ℕ
  pub is : r.value ≡ object row

-- The value r belongs to the object of row o: that row is there, and r's definition stands under a word with the bytes of the object's own kind word.
-- "an object's statements belong to the definitions of its kind".
pub record ObjectsOwn (s : List ℕ) (t : Tables) (r : ValueRow) (o : ℕ) : Type 0 where
  pub definition : DefinitionRow
  pub its_definition : Row t.definitions r.definition definition
  pub owner : ObjectRow
  pub its_owner : Row t.objects o owner
  pub same_kind_word : part s definition.under ≡ part s owner.word

-- Of every text s that the rules accept with the tables t, and every row r of its resolved values: a resolved reference leads to an object of the
-- reference's own kind whose name is the value's word (proofs/Own, `reference_kind`);
abbrev pub ReferencesOwn : Type 0
ReferencesOwn = (s : List ℕ) (t : Tables) → Answers s (accepted t) → (i : ℕ) (r : ValueRow) → Row t.values i r → (o : ℕ) → r.value ≡ object o → ReferenceKind s t r o

-- each value of a reference is such an object (`reference_resolved`);
abbrev pub ReferencesResolved : Type 0
ReferencesResolved =
    (s : List ℕ) (t : Tables) → Answers s (accepted t) → (i : ℕ) (r : ValueRow) → Row t.values i r
    → (d : DefinitionRow) (k : Kind) → Row t.definitions r.definition d → d.typed ≡ reference k → AnObject r

-- and that object is the only one: IN AN ACCEPTED TEXT TWO OBJECTS OF ONE NAME ARE ONE OBJECT, that is, the same row. Parts of one kind and name are one
-- object, and "a name already used by an object of another kind" is refused (document 02, Q-2, Q-5). So no two workers share a name, whatever the kinds
-- (proofs/Apart, `names_apart`).
abbrev pub NamesApart : Type 0
NamesApart =
    (s : List ℕ) (t : Tables) → Answers s (accepted t) → (i j : ℕ) (x y : ObjectRow) → Row t.objects i x → Row t.objects j y
    → part s x.name ≡ part s y.name → i ≡ j

-- An owner points back to its object: a value that an object owns has a definition under that object's own kind word (`owner_own`);
abbrev pub OwnersOwn : Type 0
OwnersOwn = (s : List ℕ) (t : Tables) → Answers s (accepted t) → (i : ℕ) (r : ValueRow) → Row t.values i r → (o : ℕ) → r.owner ≡ of_object o → ObjectsOwn s t r o

-- and a value that a value owns stands after it (proofs/Owners, `owner_before`); that row is there, and is its own, by `BranchesOwn`. So from each
-- value the owners lead, row by row upwards, to the one object that it belongs to.
abbrev pub OwnersBefore : Type 0
OwnersBefore = (s : List ℕ) (t : Tables) → Answers s (accepted t) → (i : ℕ) (r : ValueRow) → Row t.values i r → (n : ℕ) → r.owner ≡ of_value n → n < i

-- 2. Defaults, branches and ranges -----------------------------------------------------------------------------------------------------------

-- The value r was not stated: its word is the default of its own definition. "the place and length of the value word, which for a default lie in
-- the definition".
pub record DefaultOwn (t : Tables) (r : ValueRow) : Type 0 where
  pub definition : DefinitionRow
  pub its_definition : Row t.definitions r.definition definition
  pub own_default : r.word ≡ definition.default

-- The word u is that of the value v in the list of v's own attribute: v's enumerator, whose row has v's attribute; or TRUE or FALSE, which have no
-- rows.
pub data OwnWord (t : Tables) (v : ValueRow) (u : Span) : Type 0 where
  own_enumerator : (e : ℕ) → v.value ≡ enumerator e → Row t.enumerators e (record { attribute = v.definition; name = u }) → OwnWord t v u
  own_truth : (b : Bool) → v.value ≡ truth b → OwnWord t v u

-- The value r is under the value of row n: r's definition stands under that value's own word. "statements in braces after a value belong to the
-- definitions under that value"; "A value taken by default opens its scope too".
pub record UnderOwnValue (s : List ℕ) (t : Tables) (r : ValueRow) (n : ℕ) : Type 0 where
  pub definition : DefinitionRow
  pub its_definition : Row t.definitions r.definition definition
  pub above : ValueRow
  pub its_above : Row t.values n above
  -- the word that r's definition stands under has the bytes of that value's word,
  pub same_word : part s definition.under ≡ part s above.word
  -- is that value in its attribute's list,
  pub own_word : OwnWord t above definition.under
  -- and stands inside the attribute's own definition: after its type and before its name
  pub above_definition : DefinitionRow
  pub its_above_definition : Row t.definitions above.definition above_definition
  pub inside : (above_definition.type.place < definition.under.place) × (definition.under.place < above_definition.name.place)

-- The value r is the number n: its definition is of an integer type that has n, and n lies in the range that stands in the text at the definition's
-- range (`RangeAt`: no range, `[` low `..` high `]`, or the numbers of a list). "Integer bounds are the type's and the range's, both ends included."
pub record NumberOwn (s : List ℕ) (t : Tables) (r : ValueRow) (n : Num) : Type 0 where
  pub definition : DefinitionRow
  pub its_definition : Row t.definitions r.definition definition
  pub type : Integer
  pub typed : definition.typed ≡ integer type
  pub in_its_type : in_type type n ≡ true
  pub bounds : Bounds
  pub its_range : RangeAt s definition.range.place bounds
  pub in_its_range : in_bounds n bounds ≡ true

-- The value r is a float, which is its value word: its definition is a FLOAT, and the amount that the word's bytes tell lies in the range that stands in
-- the text at the definition's range (`FloatsAt`: no range, or `[` low `..` high `]`). "Comparison is exact".
pub record FloatOwn (s : List ℕ) (t : Tables) (r : ValueRow) : Type 0 where
  pub definition : DefinitionRow
  pub its_definition : Row t.definitions r.definition definition
  pub typed : definition.typed ≡ float_type
  pub bounds : Bounds
  pub its_range : FloatsAt s definition.range.place bounds
  pub in_its_range : in_float_bounds (float_of_step (step_at (part s r.word) 0)) bounds ≡ true

-- Of every row r of the resolved values of an accepted text: a value that was not stated has its word in its own definition's default (proofs/Own,
-- `default_own`);
abbrev pub DefaultsOwn : Type 0
DefaultsOwn = (s : List ℕ) (t : Tables) → Answers s (accepted t) → (i : ℕ) (r : ValueRow) → Row t.values i r → r.stated ≡ false → DefaultOwn t r

-- a value under a value has a definition that stands under that very word (`under_own_value`);
abbrev pub BranchesOwn : Type 0
BranchesOwn =
    (s : List ℕ) (t : Tables) → Answers s (accepted t) → (i : ℕ) (r : ValueRow) → Row t.values i r → (n : ℕ) → r.owner ≡ of_value n → UnderOwnValue s t r n

-- a number, stated or not, lies in its own type and its own range (`number_own`);
abbrev pub NumbersOwn : Type 0
NumbersOwn = (s : List ℕ) (t : Tables) → Answers s (accepted t) → (i : ℕ) (r : ValueRow) → Row t.values i r → (n : Num) → r.value ≡ number n → NumberOwn s t r n

-- and so does a float in its own range (`Float-own`).
abbrev pub FloatsOwn : Type 0
FloatsOwn = (s : List ℕ) (t : Tables) → Answers s (accepted t) → (i : ℕ) (r : ValueRow) → Row t.values i r → r.value ≡ float → FloatOwn s t r

-- 3. Where a text goes wrong -----------------------------------------------------------------------------------------------------------------

-- Refusal 4 stands at the first token at which hope ends: what is before it begins a text of the grammar, and with it no longer; or at the text's end,
-- where all of it still does (`Place`, crates/grammar/specs/Demand.antt). Of any bytes (proofs/Chores, `hope_ends_there`).
abbrev pub HopeEndsThere : Type 0
HopeEndsThere = (s : List ℕ) (p : ℕ) → Answers s (refused 4 p) → Place s p

-- 4. Any bytes -------------------------------------------------------------------------------------------------------------------------------

-- Any bytes, a half-saved file too, have an answer of the rules, and one alone: what `read` gives (its contract). That each call ends, and stays inside
-- the memory lent to it, is proved of each function of the code, and no public call asks anything of its callers (proofs/Chores, `every_text_answered`).
pub record Answered (s : List ℕ) : Type 0 where
  pub answer : Answer
  pub the_answer : TheAnswer s answer

abbrev pub EveryTextAnswered : Type 0
EveryTextAnswered = (s : List ℕ) → Answered s
