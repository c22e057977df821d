-- What a channel is (document 02, Q-12): the resolved values of the object of a kind and name, "each followed by what is under it", without
-- places and row numbers of objects and values. Assumes nothing.
use Rattle.std.specs.Prelude.{List, [], ◌∷◌, Bool, ℕ, zero, suc}
use Rattle.std.proofs.Math.Option.{Option, none, some}
use Rattle.grammar.specs.Grammar.{Kind, ordinary}
use Rattle.meaning.specs.Syntax.{Num, Word, Object, File}
use Rattle.meaning.specs.Actions.{zero_num}
use Rattle.meaning.specs.Scopes.{find_object}
use Rattle.meaning.specs.Resolving.{Value, number, truth, auto, string, float, enumerator, object, Taken, Resolved, end, resolved, object_values}

-- An object by its kind and name.
pub record Key : Type 0 where
  pub kind : Kind
  pub name : List ℕ

unfoldable pub key_of : Object → Key
key_of x = record { kind = x.kind; name = x.name.bytes }

-- The object that a row number leads to.
unfoldable pub key_at : ℕ → List Object → Option Key
key_at i [] = none
key_at zero (x ∷ xs) = some (key_of x)
key_at (suc i) (x ∷ xs) = key_at i xs

-- What a resolved value shows: a number, TRUE or FALSE, AUTO, a string or a float by its bytes, an enumerator by its row and name, a reference by
-- the kind and name of the object that it leads to.
pub data Shown : Type 0 where
  a_number : Num → Shown
  a_truth : Bool → Shown
  an_auto : Shown
  a_string : List ℕ → Shown
  a_float : List ℕ → Shown
  an_enumerator : ℕ → List ℕ → Shown
  a_reference : Option Key → Shown

unfoldable pub shown : List Object → Value → Word → Shown
shown os (number n) t = a_number n
shown os (truth b) t = a_truth b
shown os auto t = an_auto
shown os string t = a_string t.bytes
shown os float t = a_float t.bytes
shown os (enumerator e) t = an_enumerator e t.bytes
shown os (object i) t = a_reference (key_at i os)

-- A resolved value: the row and the name of its definition, what it shows, and whether it was stated.
pub record Item : Type 0 where
  pub definition : ℕ
  pub attribute : List ℕ
  pub value : Shown
  pub stated : Bool

unfoldable pub item_of : List Object → Taken → Item
item_of os t = record {
  definition = t.definition.row;
  attribute = t.definition.name.bytes;
  value = shown os t.value t.word;
  stated = t.stated;
}

-- Items, each with what is under it, and then those after it.
pub data View : Type 0 where
  nothing : View
  item : Item → View → View → View

unfoldable pub view : List Object → Resolved → View
view os end = nothing
view os (resolved t us rest) = item (item_of os t) (view os us) (view os rest)

-- A word with the bytes n.
unfoldable pub called : List ℕ → Word
called n = record { class = ordinary; bytes = n; number = zero_num; float = zero_num; place = 0; length = 0 }

-- A function of what may be there.
unfoldable pub if_there : {A B : Type 0} → (A → B) → Option A → Option B
if_there f none = none
if_there f (some a) = some (f a)

-- The channel of the kind k and the name n: what the object's resolved values show, where there is one.
unfoldable pub channel : File → Kind → List ℕ → Option View
channel f k n = if_there (λ x. view f.objects (object_values f x)) (find_object k f.objects (called n))
