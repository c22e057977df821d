-- What a normal text says: its words, and its syntax, without places. Assumes nothing.
use mathlib.Core.Path.{◌≡◌}
use mathlib.Core.List.{List, [], ◌∷◌, ◌++◌}
use mathlib.Core.Option.{Option, none, some}
use Prim.Native.Nat.{ℕ, suc, ◌+◌, ◌≤◌}
use lib.ListN.{length}
use Rattle.token.specs.Find.{bit}
use Rattle.token.specs.Words.{bytes_of}
use Rattle.token.specs.Lexing.{lex_from, more, ended}
use Rattle.token.specs.declared.Sort.{Sort as TokenSort}
use mathlib.Core.Bool.{true}
use Rattle.grammar.specs.Grammar.{Token, Class, matches, the, sg, numeral, quoted, word, sign, OIL-VERSION, CPU, AUTO, TRUE, FALSE, lbrace, rbrace, equals, semicolon, kind as a_kind, name as a_name, number as a_number, string as a_string, float as a_float}
use Rattle.grammar.specs.Terminals.{class_of}
use Rattle.meaning.specs.Syntax.{Word, absent, Statements, done, state, Object, File}
use Rattle.meaning.specs.Actions.{zero_num, num_of_sort, float_of_sort, word_of, kind_of}
use Rattle.meaning.specs.Resolving.{Value, number, truth, auto, string, float, enumerator, object, Taken, Resolved, end, resolved, all_values, how_many_values}
use Rattle.meaning.specs.Normal.{decimal}
use Rattle.meaning.specs.Places.{each}
use Rattle.meaning.proofs.Unplaced.{unplaced_word, unplaced_spec}

-- Words ------------------------------------------------------------------------------------------------------------------------------------

-- A word that a normal text has of itself: a given word or a sign, with its bytes.
unfoldable pub given : Class → List ℕ → Word
given c b = record { class = c; bytes = b; number = zero_num; float = zero_num; place = 0; length = 0 }

abbrev pub opening : Word
opening = given (sign lbrace) (bytes_of "{")

abbrev pub closing : Word
closing = given (sign rbrace) (bytes_of "}")

abbrev pub equal_sign : Word
equal_sign = given (sign equals) (bytes_of "=")

abbrev pub stop : Word
stop = given (sign semicolon) (bytes_of ";")

abbrev pub version_string : Word
version_string = given quoted (bytes_of "\"2.5\"")

-- The word that is written for a value: a number in decimal, any other as it stands.
unfoldable pub restated_word : Value → Word → Word
restated_word (number n) t = record { class = numeral; bytes = decimal n; number = n; float = zero_num; place = 0; length = 0 }
restated_word (truth b) t = unplaced_word t
restated_word auto t = unplaced_word t
restated_word string t = unplaced_word t
restated_word float t = unplaced_word t
restated_word (enumerator e) t = unplaced_word t
restated_word (object o) t = unplaced_word t

-- OIL_VERSION = "2.5";
abbrev pub version_words : List Word
version_words = given (word OIL-VERSION) (bytes_of "OIL_VERSION") ∷ equal_sign ∷ version_string ∷ stop ∷ []

-- The words of the lines of resolved values: those in its braces are ws.
unfoldable pub closed_words : Resolved → List Word → List Word
closed_words end ws = stop ∷ []
closed_words (resolved t us rest) ws = opening ∷ (ws ++ (closing ∷ stop ∷ []))

unfoldable pub line_words : Resolved → List Word
line_words end = []
line_words (resolved t us rest) =
    unplaced_word t.definition.name ∷ equal_sign ∷ restated_word t.value t.word ∷ (closed_words us (line_words us) ++ line_words rest)

unfoldable pub object_words : List Object → List Resolved → List Word
object_words [] rs = []
object_words (x ∷ xs) [] = []
object_words (x ∷ xs) (r ∷ rs) =
    unplaced_word x.word ∷ unplaced_word x.name ∷ opening ∷ (line_words r ++ (closing ∷ stop ∷ object_words xs rs))

unfoldable pub application_words : File → List Resolved → List Word
application_words f rs = given (word CPU) (bytes_of "CPU") ∷ unplaced_word f.cpu ∷ opening ∷ (object_words f.objects rs ++ (closing ∷ stop ∷ []))

-- The bytes of a word are, as a text, one token, and the word is what that token is.
pub record Alone (w : Word) : Type 0 where
  pub sort : TokenSort
  pub one : lex_from w.bytes 0 ≡ more (record { sort = sort; at = 0; len = length w.bytes }) (ended (length w.bytes))
  pub class_is : w.class ≡ class_of sort
  pub number_is : w.number ≡ num_of_sort sort
  pub float_is : w.float ≡ float_of_sort sort

-- Syntax -----------------------------------------------------------------------------------------------------------------------------------

-- The brace behind a value with something under it.
unfoldable pub brace_after : Resolved → Option Word
brace_after end = none
brace_after (resolved t us rest) = some opening

-- The statements of resolved values, of which the first has the number k.
unfoldable pub restated : Resolved → ℕ → Statements
restated end k = done
restated (resolved t us rest) k =
    state (record { number = k; name = unplaced_word t.definition.name; value = restated_word t.value t.word; brace = brace_after us })
    (restated us (suc k)) (restated rest (suc k + how_many_values us))

unfoldable pub restated_object : Object → Resolved → ℕ → Object
restated_object x r k = record
    { row = x.row; kind = x.kind; word = unplaced_word x.word; name = unplaced_word x.name; block = absent; parts = 1; statements = restated r k }

unfoldable pub restated_objects : List Object → List Resolved → ℕ → List Object
restated_objects [] rs k = []
restated_objects (x ∷ xs) [] k = []
restated_objects (x ∷ xs) (r ∷ rs) k = restated_object x r k ∷ restated_objects xs rs (k + how_many_values r)

-- The syntax of the normal text of a text with the syntax f.
unfoldable pub restated_file : File → File
restated_file f = record {
  version = version_string;
  implementation = absent;
  implementation_name = unplaced_word f.implementation_name;
  specs = each unplaced_spec f.specs;
  cpu = unplaced_word f.cpu;
  parts = restated_objects f.objects (all_values f f.objects) 0;
  objects = restated_objects f.objects (all_values f f.objects) 0;
}

-- What is known of the words of an accepted text --------------------------------------------------------------------------------------------

-- A token of the text s as a word, without its place.
unfoldable pub plain_word : List ℕ → Token → Word
plain_word s t = unplaced_word (word_of s t)

abbrev pub AllAlone : List Word → Type 0
AllAlone [] = Unit {0}
AllAlone (w ∷ ws) = Alone w × AllAlone ws

-- The grammar has a word of the class c as a value, with braces where something is under it.
pub data Stateable (c : Class) : Resolved → Type 0 where
  as_number : matches a_number c ≡ true → Stateable c end
  as_string : matches a_string c ≡ true → Stateable c end
  as_float : matches a_float c ≡ true → Stateable c end
  as_auto : matches (the AUTO) c ≡ true → Stateable c end
  as_name : {r : Resolved} → matches a_name c ≡ true → Stateable c r
  as_true : {r : Resolved} → matches (the TRUE) c ≡ true → Stateable c r
  as_false : {r : Resolved} → matches (the FALSE) c ≡ true → Stateable c r

-- A name that stands alone.
pub record Named (w : Word) : Type 0 where
  pub alone : Alone (unplaced_word w)
  pub class_is : matches a_name w.class ≡ true

pub record SaidTaken (t : Taken) (us : Resolved) : Type 0 where
  pub name : Named t.definition.name
  pub alone : Alone (restated_word t.value t.word)
  pub form : Stateable (restated_word t.value t.word).class us

abbrev pub SaidLines : Resolved → Type 0
SaidLines end = Unit {0}
SaidLines (resolved t us rest) = SaidTaken t us × SaidLines us × SaidLines rest

-- The object of the row i, with its resolved values.
pub record SaidObject (x : Object) (r : Resolved) (i : ℕ) : Type 0 where
  pub row_is : x.row ≡ i
  pub word_alone : Alone (unplaced_word x.word)
  pub word_class : matches a_kind x.word.class ≡ true
  pub kind_is : kind_of x.word.class ≡ x.kind
  pub name : Named x.name
  pub lines : SaidLines r

abbrev pub SaidObjects : List Object → List Resolved → ℕ → Type 0
SaidObjects [] rs i = Unit {0}
SaidObjects (x ∷ xs) [] i = ⊥
SaidObjects (x ∷ xs) (r ∷ rs) i = SaidObject x r i × SaidObjects xs rs (suc i)

pub record Said (f : File) : Type 0 where
  pub cpu : Named f.cpu
  pub objects : SaidObjects f.objects (all_values f f.objects) 0

-- How many of some words are `{`, and how many `}`; never more than sixteen are open.
unfoldable pub word_opens : List Word → ℕ
word_opens [] = 0
word_opens (w ∷ l) = bit (matches (sg lbrace) w.class) + word_opens l

unfoldable pub word_closes : List Word → ℕ
word_closes [] = 0
word_closes (w ∷ l) = bit (matches (sg rbrace) w.class) + word_closes l

abbrev pub ShallowWords : List Word → Type 0
ShallowWords l = (l₁ l₂ : List Word) → l ≡ l₁ ++ l₂ → word_opens l₁ ≤ word_closes l₁ + 16
