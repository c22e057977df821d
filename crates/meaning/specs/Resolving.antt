-- The resolved values, as a tree and as rows (document 01, "Meaning": "Resolved values come object by object ..", and 19). They mean something
-- where the stages before found no fault. Assumes nothing.
use Rattle.std.specs.Prelude.{List, [], ◌∷◌, ◌++◌, Bool, true, false, ℕ, suc, ◌+◌, eqb, ltb}
use Rattle.std.proofs.Math.Option.{Option, none, some}
use Rattle.grammar.specs.Grammar.{Class, TRUE, code, given_code}
use Rattle.meaning.specs.Syntax.{Num, Word, Span, span_of, AttributeType, integer, boolean, enum, float as float_type, reference, Definition, Definitions, no_more, define, Values, no_value, value, Statements, done, state, Object, File, string as string-type}
use Rattle.meaning.specs.Words.{alike, among, choose}
use Rattle.meaning.specs.Faults.{Fault}
use Rattle.meaning.specs.Scopes.{Sort, a_number, a_string, a_truth, an_auto, a_no_default, a_name, a_float, sort_of, Under, find_value, of_kind, find_object, names}
use Rattle.meaning.specs.Judging.{taken}

-- "value (a number, TRUE, FALSE, AUTO, an enumerator's or object's row; a string is its value word)". "In a row a float, like a string, is its
-- value word" (document 02, Q-4).
pub data Value : Type 0 where
  number : Num → Value
  truth : Bool → Value
  auto string float : Value
  enumerator object : ℕ → Value

-- A value that an attribute takes, "whether it was stated", and its word, "which for a default" lies "in the definition".
pub record Taken : Type 0 where
  pub definition : Definition
  pub value : Value
  pub stated : Bool
  pub word : Word

-- Resolved values, "each followed by what is under it".
pub data Resolved : Type 0 where
  end : Resolved
  resolved : Taken → Resolved → Resolved → Resolved

-- The value of a word ----------------------------------------------------------------------------------------------------------------------

unfoldable pub is_true : Class → Bool
is_true c = eqb (given_code TRUE) (code c)

unfoldable pub number_or : Option Under → ℕ
number_or none = 0
number_or (some u) = u.number

unfoldable pub row_or : Option Object → ℕ
row_or none = 0
row_or (some x) = x.row

-- A name is "an enumerator's or object's row": of the attribute's list, or of the reference's own kind.
unfoldable pub named : AttributeType → List Object → Values → Word → Value
named (integer i) os vs t = string
named string-type os vs t = string
named boolean os vs t = string
named float_type os vs t = string
named enum os vs t = enumerator (number_or (find_value vs t))
named (reference k) os vs t = object (row_or (find_object k os t))

-- "AUTO stays AUTO".
unfoldable pub valued : Sort → List Object → Definition → Values → Word → Value
valued a_number os d vs t = number t.number
valued a_string os d vs t = string
valued a_truth os d vs t = truth (is_true t.class)
valued an_auto os d vs t = auto
valued a_no_default os d vs t = auto
valued a_float os d vs t = float
valued a_name os d vs t = named d.type os vs t

-- The value that an attribute takes by the word t, stated or not.
unfoldable pub take_value : Bool → List Object → Definition → Values → Word → Taken
take_value b os d vs t = record { definition = d; value = valued (sort_of t.class) os d vs t; stated = b; word = t }

-- Resolved values --------------------------------------------------------------------------------------------------------------------------

-- "entries of a list in text order": those of the attribute d that a block states, and then the rest. What is under a value is `inner`.
unfoldable pub entries : Statements → List Object → Definition → Values → (Word → Statements → Resolved) → Resolved → Resolved
entries done os d vs inner rest = rest
entries (state x inside more) os d vs inner rest =
    let r = entries more os d vs inner rest in
    choose (alike x.name d.name) (λ _. resolved (take_value true os d vs x.value) (inner x.value inside) r) (λ _. r)

-- "A list not stated is empty, also with NO_DEFAULT, or its default as the only entry", and a single attribute not stated takes its default.
unfoldable pub default_entry : Option Word → List Object → Definition → Values → (Word → Statements → Resolved) → Resolved → Resolved
default_entry none os d vs inner rest = rest
default_entry (some t) os d vs inner rest = resolved (take_value false os d vs t) (inner t done) rest

-- "inside an object in definition order": a scope with the definitions ds, where the statements ss are.
unfoldable mutual
  pub resolve : Definitions → List Object → Statements → Resolved
  resolve no_more os ss = end
  resolve (define d vs ds) os ss =
      let rest = resolve ds os ss in
      choose (among d.name (names ss))
      (λ _. entries ss os d vs (λ t us. resolve_under vs os t us) rest)
      (λ _. default_entry (taken d.default) os d vs (λ t us. resolve_under vs os t us) rest)

  -- Under the value t of a list: nothing where no value has that word. "AUTO stays AUTO, with nothing under it."
  pub resolve_under : Values → List Object → Word → Statements → Resolved
  resolve_under no_value os t ss = end
  resolve_under (value w e us vs) os t ss = choose (alike w t) (λ _. resolve us os ss) (λ _. resolve_under vs os t ss)

-- The values of an object, in the scope of its kind.
unfoldable pub object_values : File → Object → Resolved
object_values f x = resolve (of_kind x.kind f.specs) f.objects x.statements

-- "object by object in text order".
unfoldable pub all_values : File → List Object → List Resolved
all_values f [] = []
all_values f (x ∷ xs) = object_values f x ∷ all_values f xs

-- Rows -------------------------------------------------------------------------------------------------------------------------------------

-- "owner (its object, or the resolved value it is under)", by its row.
pub data Owner : Type 0 where
  of_object of_value : ℕ → Owner

-- "Each holds its definition, owner (..), value (..), whether it was stated, and the place and length of the value word".
pub record ValueRow : Type 0 where
  pub definition : ℕ
  pub owner : Owner
  pub value : Value
  pub stated : Bool
  pub word : Span

unfoldable pub value_row : Taken → Owner → ValueRow
value_row t o = record { definition = t.definition.row; owner = o; value = t.value; stated = t.stated; word = span_of t.word }

unfoldable pub how_many_values : Resolved → ℕ
how_many_values end = 0
how_many_values (resolved t us rest) = suc (how_many_values us + how_many_values rest)

-- The rows, of which the first is row n: "each followed by what is under it".
unfoldable pub value_rows : Resolved → ℕ → Owner → List ValueRow
value_rows end n o = []
value_rows (resolved t us rest) n o = value_row t o ∷ (value_rows us (suc n) (of_value n) ++ value_rows rest (suc n + how_many_values us) o)

-- The rows of all objects' values, "object by object in text order".
unfoldable pub all_value_rows : List Resolved → (object number : ℕ) → List ValueRow
all_value_rows [] o n = []
all_value_rows (r ∷ rs) o n = value_rows r n (of_object o) ++ all_value_rows rs (suc o) (n + how_many_values r)

unfoldable pub how_many_in_all : List Resolved → ℕ
how_many_in_all [] = 0
how_many_in_all (r ∷ rs) = how_many_values r + how_many_in_all rs

-- 19, "more than 2,048 resolved values", at 0.
unfoldable pub too_many : ℕ → List Fault
too_many n = choose (ltb 2048 n) (λ _. record { place = 0; number = 19 } ∷ []) (λ _. [])
