-- Three wrong rules by which a channel depends on its neighbours, each refuted by an accepted text and two of its neighbouring objects: exchanged,
-- they change a channel. So `Exchange` (Neighbours) would not hold with these rules; with those of the reader it does. Assumes nothing.
use Rattle.std.specs.Prelude.{◌≡◌, List, [], ◌∷◌, ◌++◌, Bool, true, false, ℕ, take}
use Rattle.std.proofs.Math.Option.{Option, none, some}
use Rattle.token.specs.Find.{pick}
use Rattle.token.specs.Words.{bytes_of}
use Rattle.grammar.specs.Grammar.{Kind, TASK}
use Rattle.meaning.specs.Syntax.{Word, Statements, done, state, Object, File}
use Rattle.meaning.specs.Words.{alike, among}
use Rattle.meaning.specs.Merging.{then}
use Rattle.meaning.specs.Scopes.{find_object, names}
use Rattle.meaning.specs.Resolving.{Value, number, truth, auto, string, float, enumerator, object, Resolved, end, resolved, object_values}
use Rattle.meaning.specs.Answers.{Answer, accepted, refused}
use Rattle.meaning.specs.Reading.{Parsed, parsed, not_parsed, parse, reading}
use Rattle.channels.specs.Channels.{Key, key_of, Shown, a_number, a_truth, an_auto, a_string, a_float, an_enumerator, a_reference, View, nothing, item, if_there, called, channel}

-- What is said of a rule ---------------------------------------------------------------------------------------------------------------------

-- A rule that gives channels.
abbrev pub Rule : Type 0
Rule = File → Kind → List ℕ → Option View

-- The channel of a text by the rule c.
unfoldable pub shows : Rule → Parsed → Kind → List ℕ → Option View
shows c (parsed f) k n = c f k n
shows c (not_parsed i p) k n = none

unfoldable pub is_accepted : Answer → Bool
is_accepted (accepted t) = true
is_accepted (refused n p) = false

-- The text a x m y b is accepted, and where x and y are exchanged, the channel of the kind k and the name n is another by the rule c.
pub record Refuted (c : Rule) (a x m y b : List ℕ) (k : Kind) (n : List ℕ) : Type 0 where
  pub accepts : is_accepted (reading (a ++ (x ++ (m ++ (y ++ b))))) ≡ true
  pub differs : shows c (parse (a ++ (x ++ (m ++ (y ++ b))))) k n ≡ shows c (parse (a ++ (y ++ (m ++ (x ++ b))))) k n → ⊥

-- A reference found by name alone among earlier objects ---------------------------------------------------------------------------------------------

unfoldable pub first_named : List Object → Word → Option Key
first_named [] t = none
first_named (x ∷ xs) t = let r = first_named xs t in pick (alike x.name t) (some (key_of x)) r

unfoldable pub by_name : List Object → Value → Word → Shown
by_name os (number n) t = a_number n
by_name os (truth b) t = a_truth b
by_name os auto t = an_auto
by_name os string t = a_string t.bytes
by_name os float t = a_float t.bytes
by_name os (enumerator e) t = an_enumerator e t.bytes
by_name os (object i) t = a_reference (first_named os t)

unfoldable pub view_by_name : List Object → Resolved → View
view_by_name os end = nothing
view_by_name os (resolved t us rest) =
    item (record { definition = t.definition.row; attribute = t.definition.name.bytes; value = by_name os t.value t.word; stated = t.stated })
    (view_by_name os us) (view_by_name os rest)

unfoldable pub by_name_before : Rule
by_name_before f k n = if_there (λ x. view_by_name (take x.row f.objects) (object_values f x)) (find_object k f.objects (called n))

-- The task refers to a resource that stands before it, and then after it.
abbrev pub ByNameBefore : Type 0
ByNameBefore =
    Refuted by_name_before (bytes_of "OIL_VERSION=\"2.5\";IMPLEMENTATION i{TASK{RESOURCE_TYPE R;};};CPU c{OS o;APPMODE m;") (bytes_of "RESOURCE r;") (bytes_of " ")
    (bytes_of "TASK t{R=r;};") (bytes_of "};") TASK (bytes_of "t")

-- A default taken from the object before ---------------------------------------------------------------------------------------------------------------

-- The object x with other statements.
unfoldable pub with_statements : Statements → Object → Object
with_statements ss x = record { row = x.row; kind = x.kind; word = x.word; name = x.name; block = x.block; parts = x.parts; statements = ss }

-- The file f with other objects.
unfoldable pub with_others : List Object → File → File
with_others os f = record
    { version = f.version; implementation = f.implementation; implementation_name = f.implementation_name; specs = f.specs; cpu = f.cpu; parts = f.parts; objects = os }

-- The statements whose names are not among these.
unfoldable pub unstated : List Word → Statements → Statements
unstated ns done = done
unstated ns (state x inside rest) = let r = unstated ns rest in pick (among x.name ns) r (state x inside r)

-- What an object does not state it takes from the object before, which has the statements `before`.
unfoldable pub inherited : Statements → List Object → List Object
inherited before [] = []
inherited before (x ∷ xs) = with_statements (then x.statements (unstated (names x.statements) before)) x ∷ inherited x.statements xs

unfoldable pub default_before : Rule
default_before f k n = channel (with_others (inherited done f.objects) f) k n

-- The task t states nothing; before it stands a task with the priority 7, and then after it.
abbrev pub DefaultBefore : Type 0
DefaultBefore =
    Refuted default_before (bytes_of "OIL_VERSION=\"2.5\";IMPLEMENTATION i{TASK{UINT32 P=1;};};CPU c{OS o;APPMODE m;") (bytes_of "TASK s{P=7;};") (bytes_of " ") (bytes_of "TASK t;")
    (bytes_of "};") TASK (bytes_of "t")

-- A list continued across objects ---------------------------------------------------------------------------------------------------------------------

-- Each object has the statements of the object before it before its own.
unfoldable pub running_on : Statements → List Object → List Object
running_on before [] = []
running_on before (x ∷ xs) = with_statements (then before x.statements) x ∷ running_on x.statements xs

unfoldable pub list_goes_on : Rule
list_goes_on f k n = channel (with_others (running_on done f.objects) f) k n

-- The list of the task t has one entry; before it stands a task with another, and then after it.
abbrev pub ListGoesOn : Type 0
ListGoesOn =
    Refuted list_goes_on (bytes_of "OIL_VERSION=\"2.5\";IMPLEMENTATION i{TASK{UINT32 L[];};};CPU c{OS o;APPMODE m;") (bytes_of "TASK s{L=7;};") (bytes_of " ") (bytes_of "TASK t{L=8;};")
    (bytes_of "};") TASK (bytes_of "t")
