-- What a text has, as far as two releases are compared: its objects, each with its resolved values by path (document 02, Q-8).
-- Assumes nothing.
use Rattle.std.specs.Prelude.{List, [], ◌∷◌, ◌++◌, Bool, ℕ, suc, ◌+◌, eqb}
use Rattle.token.specs.Find.{bit, both}
use Rattle.token.specs.Words.{same}
use Rattle.meaning.specs.Syntax.{Num, Word, AttributeType, integer, string, boolean, enum, reference, Object, File, float as float_type}
use Rattle.meaning.specs.Words.{alike}
use Rattle.meaning.specs.Kinds.{kind_number, same_kind}
use Rattle.meaning.specs.Places.{each}
use Rattle.meaning.specs.Resolving.{Value, number, truth, auto, float, enumerator, object, Taken, Resolved, end, resolved, object_values, how_many_values, string as string-value}

-- Paths ------------------------------------------------------------------------------------------------------------------------------------

-- One attribute on the way: its name, whether it is a list, and the entry's position "from 0". A single attribute has position 0.
pub record Step : Type 0 where
  pub name : Word
  pub list : Bool
  pub position : ℕ

-- "A path is attribute names from the object down, .. each list's name followed by its position from 0".
abbrev pub Path : Type 0
Path = List Step

-- "list in one text and single in the other" are two paths.
unfoldable pub same_step : Step → Step → Bool
same_step a b = both (alike a.name b.name) (both (eqb (bit a.list) (bit b.list)) (eqb a.position b.position))

unfoldable pub same_path : Path → Path → Bool
same_path [] [] = Bool.true
same_path [] (b ∷ q) = Bool.false
same_path (a ∷ p) [] = Bool.false
same_path (a ∷ p) (b ∷ q) = both (same_step a b) (same_path p q)

-- Values -----------------------------------------------------------------------------------------------------------------------------------

unfoldable pub kind_of_type : AttributeType → ℕ
kind_of_type (integer i) = 0
kind_of_type string = 0
kind_of_type boolean = 0
kind_of_type enum = 0
kind_of_type float_type = 0
kind_of_type (reference k) = kind_number k

-- What a number or a float counts as: sign and amount (zero has no sign).
unfoldable pub num_key : Num → List ℕ
num_key n = bit n.negative ∷ n.amount ∷ []

-- What a value counts as: its sort, and within it the number, the string's bytes, TRUE or FALSE; "a reference counts by kind and name, an
-- enumerator by name, a float by amount, and values of two sorts differ". The word of an enumerator or a reference is its name.
unfoldable pub counts_as : Value → Taken → List ℕ
counts_as (number n) t = 0 ∷ num_key n
counts_as (truth b) t = 1 ∷ bit b ∷ []
counts_as auto t = 2 ∷ []
counts_as string-value t = 3 ∷ t.word.bytes
counts_as float t = 6 ∷ num_key t.word.float
counts_as (enumerator e) t = 4 ∷ t.word.bytes
counts_as (object o) t = 5 ∷ kind_of_type t.definition.type ∷ t.word.bytes

-- "Given or defaulted makes no difference".
unfoldable pub same_value : Taken → Taken → Bool
same_value t u = same (counts_as t.value t) (counts_as u.value u)

-- Contents ---------------------------------------------------------------------------------------------------------------------------------

-- A resolved value with its row and its path.
pub record Placed : Type 0 where
  pub row : ℕ
  pub path : Path
  pub taken : Taken

-- How many of these words are alike to this one.
unfoldable pub how_often : Word → List Word → ℕ
how_often t [] = 0
how_often t (u ∷ us) = bit (alike t u) + how_often t us

-- The step to a value of a scope, where the attributes `before` have an entry each before it.
unfoldable pub step_to : Taken → (before : List Word) → Step
step_to t before = record { name = t.definition.name; list = t.definition.list; position = how_often t.definition.name before }

-- The value as it is seen from one step above.
unfoldable pub below : Step → Placed → Placed
below s v = record { row = v.row; path = s ∷ v.path; taken = v.taken }

-- Resolved values with their paths, of which the first is row n, in resolved order.
unfoldable pub placed : Resolved → ℕ → (before : List Word) → List Placed
placed end n before = []
placed (resolved t us rest) n before =
    record { row = n; path = step_to t before ∷ []; taken = t }
    ∷ (each (below (step_to t before)) (placed us (suc n) []) ++ placed rest (suc n + how_many_values us) (t.definition.name ∷ before))

-- An object with its values.
pub record Content : Type 0 where
  pub object : Object
  pub values : List Placed

-- The objects xs of f in text order, of whose values the first is row n.
unfoldable pub contents_from : File → List Object → ℕ → List Content
contents_from f [] n = []
contents_from f (x ∷ xs) n =
    let r = object_values f x in record { object = x; values = placed r n [] } ∷ contents_from f xs (n + how_many_values r)

unfoldable pub contents : File → List Content
contents f = contents_from f f.objects 0

-- "match objects by kind and name".
unfoldable pub same_object : Content → Content → Bool
same_object x y = both (same_kind x.object.kind y.object.kind) (alike x.object.name y.object.name)
