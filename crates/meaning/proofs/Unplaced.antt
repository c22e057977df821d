-- The rules do not look at places: of the syntax without its places they give what they give of the syntax, without its places. Assumes nothing.
use mathlib.Core.Path.{◌≡◌, refl, sym, ◌∙◌, ap, ap₂}
use mathlib.Core.List.{List, [], ◌∷◌, ◌++◌}
use mathlib.Core.Bool.{Bool, true, false, not}
use mathlib.Core.Option.{Option, none, some}
use Prim.Native.Nat.{ℕ, suc, ◌+◌}
use Rattle.grammar.specs.Grammar.{Kind}
use Rattle.token.specs.Find.{pick, both, either, bit, is_there}
use Rattle.token.specs.Words.{bytes_of, same}
use Rattle.meaning.specs.Syntax.{Num, Word, Span, absent, span_of, span_or, AttributeType, integer, string, boolean, enum, float, reference, Bounds, no_bounds, from_to, one_of, Definition, Definitions, no_more, define, Values, no_value, value, Spec, Statements, done, state, Object, File, is_enum, Defined, Statement}
use Rattle.meaning.specs.Words.{choose, alike, among, equal, among_numbers, in_bounds}
use Rattle.meaning.specs.Kinds.{same_kind, kinds}
use Rattle.meaning.specs.Scopes.{Sort, a_number, a_string, a_truth, an_auto, a_no_default, a_name, a_float, sort_of, of_kind, Under, find_value, under, find_definition, names, find_object}
use Rattle.meaning.specs.Defining.{DefinitionRow, EnumeratorRow, definition_row, definition_rows, definition_rows_under, enumerator_row, enumerator_rows, enumerator_rows_of, all_definition_rows, all_enumerator_rows}
use Rattle.meaning.specs.Applying.{ObjectRow, object_rows, how_many, counts_of, counts}
use Rattle.meaning.specs.Answers.{Tables, tables}
use Rattle.meaning.specs.Judging.{is_no_default, taken_by, taken, lacking, lacks, lacks_under}
use Rattle.meaning.specs.Resolving.{Value, number, truth, auto, string as string-value, float as float_value, enumerator, object, Taken, Resolved, end, resolved, number_or, row_or, named, valued, take_value, entries, default_entry, resolve, resolve_under, object_values, all_values, Owner, of_object, of_value, ValueRow, value_row, how_many_values, value_rows, all_value_rows, how_many_in_all}
use Rattle.meaning.specs.Normal.{written, closed, lines, object_lines, application_lines}
use Rattle.meaning.specs.Places.{each, unplaced_definition_row, unplaced_enumerator_row, unplaced_object_row, unplaced_value_row, unplaced_tables}
use Rattle.meaning.specs.Faults.{Fault}

-- The syntax without its places: every place and length is 0. -----------------------------------------------------------------------------------

-- A function of what may be there.
unfoldable pub if_there : {A B : Type 0} → (A → B) → Option A → Option B
if_there f none = none
if_there f (some a) = some (f a)

unfoldable pub unplaced_word : Word → Word
unplaced_word t = record { class = t.class; bytes = t.bytes; number = t.number; float = t.float; place = 0; length = 0 }

unfoldable pub unplaced_bounds : Bounds → Bounds
unplaced_bounds no_bounds = no_bounds
unplaced_bounds (from_to a b) = from_to (unplaced_word a) (unplaced_word b)
unplaced_bounds (one_of ts) = one_of (each unplaced_word ts)

unfoldable pub unplaced_definition : Definition → Definition
unplaced_definition d = record {
  row = d.row;
  type = d.type;
  word = unplaced_word d.word;
  auto = d.auto;
  range = absent;
  bounds = unplaced_bounds d.bounds;
  name = unplaced_word d.name;
  list = d.list;
  default = if_there unplaced_word d.default;
}

unfoldable mutual
  pub unplaced_definitions : Definitions → Definitions
  unplaced_definitions no_more = no_more
  unplaced_definitions (define d vs ds) = define (unplaced_definition d) (unplaced_values vs) (unplaced_definitions ds)

  pub unplaced_values : Values → Values
  unplaced_values no_value = no_value
  unplaced_values (value w e us vs) = value (unplaced_word w) e (unplaced_definitions us) (unplaced_values vs)

unfoldable pub unplaced_defined : Defined → Defined
unplaced_defined x = record { definition = unplaced_definition x.definition; values = unplaced_values x.values }

unfoldable pub unplaced_spec : Spec → Spec
unplaced_spec x = record { kind = x.kind; word = unplaced_word x.word; definitions = unplaced_definitions x.definitions }

unfoldable pub unplaced_statement : Statement → Statement
unplaced_statement x = record
    { number = x.number; name = unplaced_word x.name; value = unplaced_word x.value; brace = if_there unplaced_word x.brace }

unfoldable pub unplaced_statements : Statements → Statements
unplaced_statements done = done
unplaced_statements (state x inside rest) = state (unplaced_statement x) (unplaced_statements inside) (unplaced_statements rest)

unfoldable pub unplaced_object : Object → Object
unplaced_object x = record {
  row = x.row;
  kind = x.kind;
  word = unplaced_word x.word;
  name = unplaced_word x.name;
  block = absent;
  parts = x.parts;
  statements = unplaced_statements x.statements;
}

unfoldable pub unplaced : File → File
unplaced f = record {
  version = unplaced_word f.version;
  implementation = absent;
  implementation_name = unplaced_word f.implementation_name;
  specs = each unplaced_spec f.specs;
  cpu = unplaced_word f.cpu;
  parts = each unplaced_object f.parts;
  objects = each unplaced_object f.objects;
}

unfoldable pub unplaced_fault : Fault → Fault
unplaced_fault f = record { place = 0; number = f.number }

unfoldable pub unplaced_taken : Taken → Taken
unplaced_taken t = record { definition = unplaced_definition t.definition; value = t.value; stated = t.stated; word = unplaced_word t.word }

unfoldable pub unplaced_resolved : Resolved → Resolved
unplaced_resolved end = end
unplaced_resolved (resolved t us rest) = resolved (unplaced_taken t) (unplaced_resolved us) (unplaced_resolved rest)

-- Words ------------------------------------------------------------------------------------------------------------------------------------

pub each_append : {A B : Type 0} (f : A → B) (l m : List A) → each f (l ++ m) ≡ each f l ++ each f m
unfolding each
each_append f [] m = refl
each_append f (a ∷ l) m = ap (f a ∷◌) (each_append f l m)

pub alike_unplaced : (t u : Word) → alike (unplaced_word t) (unplaced_word u) ≡ alike t u
unfolding alike unplaced_word
alike_unplaced t u = refl

pub among_unplaced : (t : Word) (l : List Word) → among (unplaced_word t) (each unplaced_word l) ≡ among t l
unfolding among each alike unplaced_word
among_unplaced t [] = refl
among_unplaced t (u ∷ l) = ap (either (same t.bytes u.bytes)) (among_unplaced t l)

pub numbers_unplaced : (n : Num) (l : List Word) → among_numbers n (each unplaced_word l) ≡ among_numbers n l
unfolding among_numbers each unplaced_word
numbers_unplaced n [] = refl
numbers_unplaced n (u ∷ l) = ap (either (equal n u.number)) (numbers_unplaced n l)

pub bounds_unplaced : (n : Num) (b : Bounds) → in_bounds n (unplaced_bounds b) ≡ in_bounds n b
unfolding in_bounds unplaced_bounds unplaced_word
bounds_unplaced n no_bounds = refl
bounds_unplaced n (from_to a b) = refl
bounds_unplaced n (one_of ts) = numbers_unplaced n ts

-- Scopes -----------------------------------------------------------------------------------------------------------------------------------

unfoldable pub unplaced_under : Under → Under
unplaced_under u = record { word = unplaced_word u.word; number = u.number; definitions = unplaced_definitions u.definitions }

pub value_unplaced : (vs : Values) (t : Word) → find_value (unplaced_values vs) (unplaced_word t) ≡ if_there unplaced_under (find_value vs t)
unfolding find_value unplaced_values if_there unplaced_under alike unplaced_word
value_unplaced no_value t = refl
value_unplaced (value w e us vs) t = go (same w.bytes t.bytes) (value_unplaced vs t)
  where
    go : (b : Bool) → find_value (unplaced_values vs) (unplaced_word t) ≡ if_there unplaced_under (find_value vs t)
        → pick b (some (record { word = unplaced_word w; number = e; definitions = unplaced_definitions us })) (find_value (unplaced_values vs) (unplaced_word t))
        ≡ if_there unplaced_under (pick b (some (record { word = w; number = e; definitions = us })) (find_value vs t))
    go true h = refl
    go false h = h

pub definition_unplaced : (ds : Definitions) (t : Word) → find_definition (unplaced_definitions ds) (unplaced_word t) ≡ if_there unplaced_defined (find_definition ds t)
unfolding find_definition unplaced_definitions unplaced_definition if_there unplaced_defined alike unplaced_word
definition_unplaced no_more t = refl
definition_unplaced (define d vs ds) t = go (same d.name.bytes t.bytes) (definition_unplaced ds t)
  where
    go : (b : Bool) → find_definition (unplaced_definitions ds) (unplaced_word t) ≡ if_there unplaced_defined (find_definition ds t)
        → pick b (some (record { definition = unplaced_definition d; values = unplaced_values vs })) (find_definition (unplaced_definitions ds) (unplaced_word t))
        ≡ if_there unplaced_defined (pick b (some (record { definition = d; values = vs })) (find_definition ds t))
    go true h = refl
    go false h = h

pub kind_unplaced : (k : Kind) (xs : List Spec) → of_kind k (each unplaced_spec xs) ≡ unplaced_definitions (of_kind k xs)
unfolding of_kind each unplaced_spec unplaced_definitions
kind_unplaced k [] = refl
kind_unplaced k (x ∷ xs) = go (same_kind k x.kind) (kind_unplaced k xs)
  where
    go : (b : Bool) → of_kind k (each unplaced_spec xs) ≡ unplaced_definitions (of_kind k xs)
        → pick b (unplaced_definitions x.definitions) (of_kind k (each unplaced_spec xs)) ≡ unplaced_definitions (pick b x.definitions (of_kind k xs))
    go true h = refl
    go false h = h

pub object_unplaced : (k : Kind) (os : List Object) (t : Word) → find_object k (each unplaced_object os) (unplaced_word t) ≡ if_there unplaced_object (find_object k os t)
unfolding find_object each unplaced_object if_there alike unplaced_word
object_unplaced k [] t = refl
object_unplaced k (x ∷ xs) t = go (both (same_kind k x.kind) (same x.name.bytes t.bytes)) (object_unplaced k xs t)
  where
    go : (b : Bool) → find_object k (each unplaced_object xs) (unplaced_word t) ≡ if_there unplaced_object (find_object k xs t)
        → pick b (some (unplaced_object x)) (find_object k (each unplaced_object xs) (unplaced_word t)) ≡ if_there unplaced_object (pick b (some x) (find_object k xs t))
    go true h = refl
    go false h = h

pub names_unplaced : (ss : Statements) → names (unplaced_statements ss) ≡ each unplaced_word (names ss)
unfolding names unplaced_statements unplaced_statement each
names_unplaced done = refl
names_unplaced (state x inside rest) = ap (unplaced_word x.name ∷◌) (names_unplaced rest)

pub there_unplaced : {A B : Type 0} (f : A → B) (o : Option A) → is_there (if_there f o) ≡ is_there o
unfolding is_there if_there
there_unplaced f none = refl
there_unplaced f (some a) = refl

-- What must be stated ----------------------------------------------------------------------------------------------------------------------

taken_unplaced : (o : Option Word) → taken (if_there unplaced_word o) ≡ if_there unplaced_word (taken o)
unfolding taken taken_by if_there unplaced_word
taken_unplaced none = refl
taken_unplaced (some t) = go (is_no_default (sort_of t.class))
  where
    go : (b : Bool) → taken_by b (unplaced_word t) ≡ if_there unplaced_word (taken_by b t)
    go true = refl
    go false = refl

lacking_unplaced : (o : Option Word) (b : Bool) (f g : Word → Bool) → ((t : Word) → f (unplaced_word t) ≡ g t) → lacking (if_there unplaced_word o) b f ≡ lacking o b g
unfolding lacking if_there
lacking_unplaced none b f g h = refl
lacking_unplaced (some t) b f g h = h t

choose_same : {A : Type 0} (b : Bool) {x x' y y' : A} → x ≡ x' → y ≡ y' → choose b (λ _. x) (λ _. y) ≡ choose b (λ _. x') (λ _. y')
unfolding choose
choose_same true p q = p
choose_same false p q = q

mutual
  unfolding lacks unplaced_definitions unplaced_definition each

  pub lacks_unplaced : (ds : Definitions) (ns : List Word) → lacks (unplaced_definitions ds) (each unplaced_word ns) ≡ lacks ds ns
  lacks_unplaced no_more ns = refl
  lacks_unplaced (define d vs ds) ns =
      ap₂ either
      (ap₂ (λ a b. both (not a) b) (among_unplaced d.name ns)
      (ap (λ o. lacking o d.list (λ t. lacks_under (unplaced_values vs) t)) (taken_unplaced d.default)
      ∙ lacking_unplaced (taken d.default) d.list (λ t. lacks_under (unplaced_values vs) t) (λ t. lacks_under vs t) (λ t. under_unplaced vs t)))
      (lacks_unplaced ds ns)

  under_unplaced : (vs : Values) (t : Word) → lacks_under (unplaced_values vs) (unplaced_word t) ≡ lacks_under vs t
  under_unplaced no_value t = refl
  under_unplaced (value w e us vs) t =
      ap (λ b. choose b (λ _. lacks (unplaced_definitions us) []) (λ _. lacks_under (unplaced_values vs) (unplaced_word t))) (alike_unplaced w t)
      ∙ choose_same (alike w t) (lacks_unplaced us []) (under_unplaced vs t)

-- Resolved values --------------------------------------------------------------------------------------------------------------------------

number_unplaced : (o : Option Under) → number_or (if_there unplaced_under o) ≡ number_or o
unfolding number_or if_there unplaced_under
number_unplaced none = refl
number_unplaced (some u) = refl

row_unplaced : (o : Option Object) → row_or (if_there unplaced_object o) ≡ row_or o
unfolding row_or if_there unplaced_object
row_unplaced none = refl
row_unplaced (some x) = refl

named_unplaced : (y : AttributeType) (os : List Object) (vs : Values) (t : Word)
    → named y (each unplaced_object os) (unplaced_values vs) (unplaced_word t) ≡ named y os vs t
unfolding named
named_unplaced (integer i) os vs t = refl
named_unplaced string os vs t = refl
named_unplaced float os vs t = refl
named_unplaced boolean os vs t = refl
named_unplaced enum os vs t = ap enumerator (ap number_or (value_unplaced vs t) ∙ number_unplaced (find_value vs t))
named_unplaced (reference k) os vs t = ap object (ap row_or (object_unplaced k os t) ∙ row_unplaced (find_object k os t))

valued_unplaced : (o : Sort) (os : List Object) (d : Definition) (vs : Values) (t : Word)
    → valued o (each unplaced_object os) (unplaced_definition d) (unplaced_values vs) (unplaced_word t) ≡ valued o os d vs t
unfolding valued unplaced_definition unplaced_word
valued_unplaced a_number os d vs t = refl
valued_unplaced a_string os d vs t = refl
valued_unplaced a_float os d vs t = refl
valued_unplaced a_truth os d vs t = refl
valued_unplaced an_auto os d vs t = refl
valued_unplaced a_no_default os d vs t = refl
valued_unplaced a_name os d vs t = named_unplaced d.type os vs t

take_unplaced : (b : Bool) (os : List Object) (d : Definition) (vs : Values) (t : Word)
    → take_value b (each unplaced_object os) (unplaced_definition d) (unplaced_values vs) (unplaced_word t) ≡ unplaced_taken (take_value b os d vs t)
unfolding take_value unplaced_taken unplaced_word
take_unplaced b os d vs t =
    ap (λ v. record { definition = unplaced_definition d; value = v; stated = b; word = unplaced_word t }) (valued_unplaced (sort_of t.class) os d vs t)

resolved_same : {t u : Taken} {a b c d : Resolved} → t ≡ u → a ≡ b → c ≡ d → resolved t a c ≡ resolved u b d
resolved_same {t} {u} {a} {b} {c} {d} p q r = ap₂ (λ x y. resolved x y c) p q ∙ ap (resolved u b) r

-- A function of what is under a value, and the same without places.
abbrev Inner : (Word → Statements → Resolved) → (Word → Statements → Resolved) → Type 0
Inner f g = (t : Word) (us : Statements) → f (unplaced_word t) (unplaced_statements us) ≡ unplaced_resolved (g t us)

entries_unplaced : (ss : Statements) (os : List Object) (d : Definition) (vs : Values) (f g : Word → Statements → Resolved) → Inner f g → (rest : Resolved)
    → entries (unplaced_statements ss) (each unplaced_object os) (unplaced_definition d) (unplaced_values vs) f (unplaced_resolved rest)
    ≡ unplaced_resolved (entries ss os d vs g rest)
unfolding entries unplaced_statements unplaced_statement unplaced_word unplaced_definition alike choose unplaced_resolved
entries_unplaced done os d vs f g h rest = refl
entries_unplaced (state x inside more) os d vs f g h rest = go (alike x.name d.name) (entries_unplaced more os d vs f g h rest)
  where
    E : Resolved
    E = entries (unplaced_statements more) (each unplaced_object os) (unplaced_definition d) (unplaced_values vs) f (unplaced_resolved rest)

    go : (b : Bool) → E ≡ unplaced_resolved (entries more os d vs g rest)
        → choose b
        (λ _. resolved (take_value true (each unplaced_object os) (unplaced_definition d) (unplaced_values vs) (unplaced_word x.value)) (f (unplaced_word x.value) (unplaced_statements inside)) E)
        (λ _. E)
        ≡ unplaced_resolved (choose b (λ _. resolved (take_value true os d vs x.value) (g x.value inside) (entries more os d vs g rest)) (λ _. entries more os d vs g rest))
    go true e = resolved_same (take_unplaced true os d vs x.value) (h x.value inside) e
    go false e = e

stated_unplaced : (d : Definition) (ss : Statements) → among (unplaced_definition d).name (names (unplaced_statements ss)) ≡ among d.name (names ss)
unfolding unplaced_definition
stated_unplaced d ss = ap (among (unplaced_word d.name)) (names_unplaced ss) ∙ among_unplaced d.name (names ss)

default_taken : (d : Definition) → taken (unplaced_definition d).default ≡ if_there unplaced_word (taken d.default)
unfolding unplaced_definition
default_taken d = taken_unplaced d.default

default_unplaced : (o : Option Word) (os : List Object) (d : Definition) (vs : Values) (f g : Word → Statements → Resolved) → Inner f g → (rest : Resolved)
    → default_entry (if_there unplaced_word o) (each unplaced_object os) (unplaced_definition d) (unplaced_values vs) f (unplaced_resolved rest)
    ≡ unplaced_resolved (default_entry o os d vs g rest)
unfolding default_entry if_there unplaced_resolved unplaced_statements
default_unplaced none os d vs f g h rest = refl
default_unplaced (some t) os d vs f g h rest = resolved_same (take_unplaced false os d vs t) (h t done) refl

unplaced_choose : (b : Bool) (x y : Resolved) {x' y' : Resolved} → x' ≡ unplaced_resolved x → y' ≡ unplaced_resolved y
    → choose b (λ _. x') (λ _. y') ≡ unplaced_resolved (choose b (λ _. x) (λ _. y))
unfolding choose
unplaced_choose true x y p q = p
unplaced_choose false x y p q = q

mutual
  unfolding resolve unplaced_definitions unplaced_resolved

  pub resolve_unplaced : (ds : Definitions) (os : List Object) (ss : Statements)
      → resolve (unplaced_definitions ds) (each unplaced_object os) (unplaced_statements ss) ≡ unplaced_resolved (resolve ds os ss)
  resolve_unplaced no_more os ss = refl
  resolve_unplaced (define d vs ds) os ss =
      let f : Word → Statements → Resolved = λ t us. resolve_under (unplaced_values vs) (each unplaced_object os) t us in
      let g : Word → Statements → Resolved = λ t us. resolve_under vs os t us in
      let r = resolve_unplaced ds os ss in
      ap (λ b. choose b
      (λ _. entries (unplaced_statements ss) (each unplaced_object os) (unplaced_definition d) (unplaced_values vs) f (resolve (unplaced_definitions ds) (each unplaced_object os) (unplaced_statements ss)))
      (λ _. default_entry (taken (unplaced_definition d).default) (each unplaced_object os) (unplaced_definition d) (unplaced_values vs) f (resolve (unplaced_definitions ds) (each unplaced_object os) (unplaced_statements ss))))
      (stated_unplaced d ss)
      ∙ unplaced_choose (among d.name (names ss)) (entries ss os d vs g (resolve ds os ss)) (default_entry (taken d.default) os d vs g (resolve ds os ss))
      (ap (entries (unplaced_statements ss) (each unplaced_object os) (unplaced_definition d) (unplaced_values vs) f) r
      ∙ entries_unplaced ss os d vs f g (λ t us. resolve_under_unplaced vs os t us) (resolve ds os ss))
      (ap₂ (λ o q. default_entry o (each unplaced_object os) (unplaced_definition d) (unplaced_values vs) f q) (default_taken d) r
      ∙ default_unplaced (taken d.default) os d vs f g (λ t us. resolve_under_unplaced vs os t us) (resolve ds os ss))

  resolve_under_unplaced : (vs : Values) (os : List Object) (t : Word) (ss : Statements)
      → resolve_under (unplaced_values vs) (each unplaced_object os) (unplaced_word t) (unplaced_statements ss) ≡ unplaced_resolved (resolve_under vs os t ss)
  resolve_under_unplaced no_value os t ss = refl
  resolve_under_unplaced (value w e us vs) os t ss =
      ap (λ b. choose b (λ _. resolve (unplaced_definitions us) (each unplaced_object os) (unplaced_statements ss))
      (λ _. resolve_under (unplaced_values vs) (each unplaced_object os) (unplaced_word t) (unplaced_statements ss))) (alike_unplaced w t)
      ∙ unplaced_choose (alike w t) (resolve us os ss) (resolve_under vs os t ss) (resolve_unplaced us os ss) (resolve_under_unplaced vs os t ss)

values_unplaced : (f : File) (x : Object) → object_values (unplaced f) (unplaced_object x) ≡ unplaced_resolved (object_values f x)
unfolding object_values unplaced unplaced_object
values_unplaced f x =
    ap (λ ds. resolve ds (each unplaced_object f.objects) (unplaced_statements x.statements)) (kind_unplaced x.kind f.specs)
    ∙ resolve_unplaced (of_kind x.kind f.specs) f.objects x.statements

pub all_values_unplaced : (f : File) (xs : List Object) → all_values (unplaced f) (each unplaced_object xs) ≡ each unplaced_resolved (all_values f xs)
unfolding all_values each
all_values_unplaced f [] = refl
all_values_unplaced f (x ∷ xs) = ap₂ ◌∷◌ (values_unplaced f x) (all_values_unplaced f xs)

-- Normal text ------------------------------------------------------------------------------------------------------------------------------

written_unplaced : (v : Value) (t : Word) → written v (unplaced_word t) ≡ written v t
unfolding written unplaced_word
written_unplaced (number n) t = refl
written_unplaced (truth b) t = refl
written_unplaced auto t = refl
written_unplaced string-value t = refl
written_unplaced float_value t = refl
written_unplaced (enumerator e) t = refl
written_unplaced (object o) t = refl

closed_unplaced : (r : Resolved) (l : List ℕ) → closed (unplaced_resolved r) l ≡ closed r l
unfolding closed unplaced_resolved
closed_unplaced end l = refl
closed_unplaced (resolved t us rest) l = refl

pub lines_unplaced : (r : Resolved) → lines (unplaced_resolved r) ≡ lines r
unfolding lines unplaced_resolved unplaced_taken unplaced_definition unplaced_word
lines_unplaced end = refl
lines_unplaced (resolved t us rest) =
    ap (λ l. t.definition.name.bytes ++ (bytes_of " = " ++ l))
    (ap₂ ◌++◌ (written_unplaced t.value t.word)
    (ap₂ ◌++◌ (closed_unplaced us (lines (unplaced_resolved us)) ∙ ap (closed us) (lines_unplaced us)) (lines_unplaced rest)))

object_lines_unplaced : (xs : List Object) (rs : List Resolved) → object_lines (each unplaced_object xs) (each unplaced_resolved rs) ≡ object_lines xs rs
unfolding object_lines each unplaced_object unplaced_word
object_lines_unplaced [] rs = refl
object_lines_unplaced (x ∷ xs) [] = refl
object_lines_unplaced (x ∷ xs) (r ∷ rs) =
    ap₂ (λ a b. x.word.bytes ++ (bytes_of " " ++ (x.name.bytes ++ (bytes_of " {\n" ++ (a ++ (bytes_of "};\n" ++ b)))))) (lines_unplaced r) (object_lines_unplaced xs rs)

-- The application's lines are those of the syntax without its places.
pub application_unplaced : (f : File) → application_lines (unplaced f) (all_values (unplaced f) (unplaced f).objects) ≡ application_lines f (all_values f f.objects)
unfolding application_lines unplaced unplaced_word
application_unplaced f =
    ap (λ l. bytes_of "CPU " ++ (f.cpu.bytes ++ (bytes_of " {\n" ++ (l ++ bytes_of "};\n"))))
    (ap (object_lines (each unplaced_object f.objects)) (all_values_unplaced f f.objects) ∙ object_lines_unplaced f.objects (all_values f f.objects))

-- Rows -------------------------------------------------------------------------------------------------------------------------------------

how_many_unplaced : (r : Resolved) → how_many_values (unplaced_resolved r) ≡ how_many_values r
unfolding how_many_values unplaced_resolved
how_many_unplaced end = refl
how_many_unplaced (resolved t us rest) = ap₂ (λ a b. suc (a + b)) (how_many_unplaced us) (how_many_unplaced rest)

value_row_unplaced : (t : Taken) (o : Owner) → value_row (unplaced_taken t) o ≡ unplaced_value_row (value_row t o)
unfolding value_row unplaced_taken unplaced_value_row unplaced_definition unplaced_word span_of absent
value_row_unplaced t o = refl

pub value_rows_unplaced : (r : Resolved) (n : ℕ) (o : Owner) → value_rows (unplaced_resolved r) n o ≡ each unplaced_value_row (value_rows r n o)
unfolding value_rows unplaced_resolved each
value_rows_unplaced end n o = refl
value_rows_unplaced (resolved t us rest) n o =
    ap₂ ◌∷◌ (value_row_unplaced t o)
    (ap₂ ◌++◌ (value_rows_unplaced us (suc n) (of_value n))
    (ap (λ k. value_rows (unplaced_resolved rest) (suc n + k) o) (how_many_unplaced us) ∙ value_rows_unplaced rest (suc n + how_many_values us) o)
    ∙ sym (each_append unplaced_value_row (value_rows us (suc n) (of_value n)) (value_rows rest (suc n + how_many_values us) o)))

pub all_value_rows_unplaced : (rs : List Resolved) (o n : ℕ) → all_value_rows (each unplaced_resolved rs) o n ≡ each unplaced_value_row (all_value_rows rs o n)
unfolding all_value_rows each
all_value_rows_unplaced [] o n = refl
all_value_rows_unplaced (r ∷ rs) o n =
    ap₂ ◌++◌ (value_rows_unplaced r n (of_object o))
    (ap (λ k. all_value_rows (each unplaced_resolved rs) (suc o) (n + k)) (how_many_unplaced r) ∙ all_value_rows_unplaced rs (suc o) (n + how_many_values r))
    ∙ sym (each_append unplaced_value_row (value_rows r n (of_object o)) (all_value_rows rs (suc o) (n + how_many_values r)))

pub how_many_all_unplaced : (rs : List Resolved) → how_many_in_all (each unplaced_resolved rs) ≡ how_many_in_all rs
unfolding how_many_in_all each
how_many_all_unplaced [] = refl
how_many_all_unplaced (r ∷ rs) = ap₂ ◌+◌ (how_many_unplaced r) (how_many_all_unplaced rs)

default_span : (o : Option Word) → span_or (if_there unplaced_word o) ≡ absent
unfolding span_or if_there span_of unplaced_word absent
default_span none = refl
default_span (some t) = refl

definition_row_unplaced : (u : Word) (d : Definition) → definition_row (unplaced_word u) (unplaced_definition d) ≡ unplaced_definition_row (definition_row u d)
unfolding definition_row unplaced_definition unplaced_definition_row unplaced_word span_of absent
definition_row_unplaced u d =
    ap (λ (p : Span). record { under = absent; name = absent; type = absent; list = d.list; auto = d.auto; range = absent; default = p; typed = d.type }) (default_span d.default)

mutual
  unfolding definition_rows unplaced_definitions each

  definition_rows_unplaced : (ds : Definitions) (u : Word) → definition_rows (unplaced_definitions ds) (unplaced_word u) ≡ each unplaced_definition_row (definition_rows ds u)
  definition_rows_unplaced no_more u = refl
  definition_rows_unplaced (define d vs ds) u =
      ap₂ ◌++◌ (definition_rows_under_unplaced vs) (ap₂ ◌∷◌ (definition_row_unplaced u d) (definition_rows_unplaced ds u))
      ∙ sym (each_append unplaced_definition_row (definition_rows_under vs) (definition_row u d ∷ definition_rows ds u))

  definition_rows_under_unplaced : (vs : Values) → definition_rows_under (unplaced_values vs) ≡ each unplaced_definition_row (definition_rows_under vs)
  definition_rows_under_unplaced no_value = refl
  definition_rows_under_unplaced (value w e us vs) =
      ap₂ ◌++◌ (definition_rows_unplaced us w) (definition_rows_under_unplaced vs)
      ∙ sym (each_append unplaced_definition_row (definition_rows us w) (definition_rows_under vs))

enumerator_row_unplaced : (b : Bool) (a : ℕ) (w : Word) → enumerator_row b a (unplaced_word w) ≡ each unplaced_enumerator_row (enumerator_row b a w)
unfolding enumerator_row each unplaced_enumerator_row unplaced_word span_of absent
enumerator_row_unplaced true a w = refl
enumerator_row_unplaced false a w = refl

mutual
  unfolding enumerator_rows unplaced_definitions unplaced_definition each

  enumerator_rows_unplaced : (ds : Definitions) → enumerator_rows (unplaced_definitions ds) ≡ each unplaced_enumerator_row (enumerator_rows ds)
  enumerator_rows_unplaced no_more = refl
  enumerator_rows_unplaced (define d vs ds) =
      ap₂ ◌++◌ (enumerator_rows_of_unplaced vs (is_enum d.type) d.row) (enumerator_rows_unplaced ds)
      ∙ sym (each_append unplaced_enumerator_row (enumerator_rows_of vs (is_enum d.type) d.row) (enumerator_rows ds))

  enumerator_rows_of_unplaced : (vs : Values) (b : Bool) (a : ℕ) → enumerator_rows_of (unplaced_values vs) b a ≡ each unplaced_enumerator_row (enumerator_rows_of vs b a)
  enumerator_rows_of_unplaced no_value b a = refl
  enumerator_rows_of_unplaced (value w e us vs) b a =
      ap₂ ◌++◌ (enumerator_row_unplaced b a w)
      (ap₂ ◌++◌ (enumerator_rows_unplaced us) (enumerator_rows_of_unplaced vs b a)
      ∙ sym (each_append unplaced_enumerator_row (enumerator_rows us) (enumerator_rows_of vs b a)))
      ∙ sym (each_append unplaced_enumerator_row (enumerator_row b a w) (enumerator_rows us ++ enumerator_rows_of vs b a))

pub all_definition_rows_unplaced : (xs : List Spec) → all_definition_rows (each unplaced_spec xs) ≡ each unplaced_definition_row (all_definition_rows xs)
unfolding all_definition_rows each unplaced_spec
all_definition_rows_unplaced [] = refl
all_definition_rows_unplaced (x ∷ xs) =
    ap₂ ◌++◌ (definition_rows_unplaced x.definitions x.word) (all_definition_rows_unplaced xs)
    ∙ sym (each_append unplaced_definition_row (definition_rows x.definitions x.word) (all_definition_rows xs))

pub all_enumerator_rows_unplaced : (xs : List Spec) → all_enumerator_rows (each unplaced_spec xs) ≡ each unplaced_enumerator_row (all_enumerator_rows xs)
unfolding all_enumerator_rows each unplaced_spec
all_enumerator_rows_unplaced [] = refl
all_enumerator_rows_unplaced (x ∷ xs) =
    ap₂ ◌++◌ (enumerator_rows_unplaced x.definitions) (all_enumerator_rows_unplaced xs)
    ∙ sym (each_append unplaced_enumerator_row (enumerator_rows x.definitions) (all_enumerator_rows xs))

pub object_rows_unplaced : (xs : List Object) → object_rows (each unplaced_object xs) ≡ each unplaced_object_row (object_rows xs)
unfolding object_rows each unplaced_object unplaced_object_row unplaced_word span_of absent
object_rows_unplaced [] = refl
object_rows_unplaced (x ∷ xs) = ap (record { kind = x.kind; word = absent; name = absent; block = absent; parts = x.parts } ∷◌) (object_rows_unplaced xs)

pub how_many_objects_unplaced : (k : Kind) (xs : List Object) → how_many k (each unplaced_object xs) ≡ how_many k xs
unfolding how_many each unplaced_object
how_many_objects_unplaced k [] = refl
how_many_objects_unplaced k (x ∷ xs) = ap (bit (same_kind k x.kind) +◌) (how_many_objects_unplaced k xs)

counts_of_unplaced : (ks : List Kind) (xs : List Object) → counts_of ks (each unplaced_object xs) ≡ counts_of ks xs
unfolding counts_of
counts_of_unplaced [] xs = refl
counts_of_unplaced (k ∷ ks) xs = ap₂ ◌∷◌ (how_many_objects_unplaced k xs) (counts_of_unplaced ks xs)

pub tables_same : {a a' : List DefinitionRow} {b b' : List EnumeratorRow} {c c' : List ObjectRow} {d d' : List ValueRow} {e e' : List ℕ}
    → a ≡ a' → b ≡ b' → c ≡ c' → d ≡ d' → e ≡ e'
    → ◌≡◌ {A = Tables} (record { definitions = a; enumerators = b; objects = c; values = d; counts = e }) (record { definitions = a'; enumerators = b'; objects = c'; values = d'; counts = e' })
tables_same {a'} {b'} {c} {c'} {d} {d'} {e} p q r s t =
    ap₂ (λ x y. record { definitions = x; enumerators = y; objects = c; values = d; counts = e }) p q
    ∙ ap₂ (λ x y. record { definitions = a'; enumerators = b'; objects = x; values = y; counts = e }) r s
    ∙ ap (λ x. record { definitions = a'; enumerators = b'; objects = c'; values = d'; counts = x }) t

-- The tables of the syntax without its places are its tables, without their places.
pub tables_unplaced : (f : File) (rs : List Resolved) → tables (unplaced f) (each unplaced_resolved rs) ≡ unplaced_tables (tables f rs)
unfolding tables unplaced unplaced_tables counts
tables_unplaced f rs =
    tables_same (all_definition_rows_unplaced f.specs) (all_enumerator_rows_unplaced f.specs) (object_rows_unplaced f.objects)
    (all_value_rows_unplaced rs 0 0) (counts_of_unplaced kinds f.objects)
