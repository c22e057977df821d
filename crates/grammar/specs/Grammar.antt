-- The grammar of document 01 (section "Grammar"): terminals, rules with their forms, derivations. Assumes nothing.
use Rattle.std.specs.Prelude.{◌≡◌, List, [], ◌∷◌, ◌++◌, Bool, true, false, ℕ, eqb}

-- Tokens -----------------------------------------------------------------------------------------------------------------------------

-- `{ } [ ] = ; : ,` and `..`
pub data Sign : Type 0 where
  lbrace rbrace lsquare rsquare equals semicolon colon comma dots : Sign

-- kind: "OS, APPMODE, .. (thirteen)"
pub data Kind : Type 0 where
  OS APPMODE TASK ISR COUNTER ALARM RESOURCE EVENT COM MESSAGE NETWORKMESSAGE IPDU NM : Kind

-- the four integer types
pub data Integer : Type 0 where
  UINT32 INT32 UINT64 INT64 : Integer

-- the other words that a form names; the last five are reserved
pub data Given : Type 0 where
  OIL-VERSION IMPLEMENTATION CPU STRING BOOLEAN ENUM FLOAT TRUE FALSE AUTO NO-DEFAULT WITH-AUTO : Given

-- What the grammar sees of a token: a word is a kind's, a kind's followed by `_TYPE`, an integer type's, one that a form names, or ordinary.
-- A token that is none of these is `other`.
pub data Class : Type 0 where
  ordinary numeral quoted floating other : Class
  kind_word type_word : Kind → Class
  integer_word : Integer → Class
  word : Given → Class
  sign : Sign → Class

pub record Token : Type 0 where
  pub class : Class
  pub place : ℕ
  pub length : ℕ

-- Terminals --------------------------------------------------------------------------------------------------------------------------

-- What may stand at a leaf: any name, number, string or float; any kind, any kind followed by `_TYPE`, any integer type; a word that the form
-- names; a sign that it names.
pub data Terminal : Type 0 where
  name number string float kind type integer : Terminal
  the : Given → Terminal
  sg : Sign → Terminal

-- "Reserved: TRUE, FALSE, AUTO, NO_DEFAULT, WITH_AUTO. Every other word may be a name, also TASK or UINT32"
unfoldable pub may_name : Given → Bool
may_name OIL-VERSION = true
may_name IMPLEMENTATION = true
may_name CPU = true
may_name STRING = true
may_name BOOLEAN = true
may_name ENUM = true
may_name FLOAT = true
may_name TRUE = false
may_name FALSE = false
may_name AUTO = false
may_name NO-DEFAULT = false
may_name WITH-AUTO = false

-- "Every other word may be a name, also TASK or UINT32"
unfoldable pub is_name : Class → Bool
unfolding may_name
is_name ordinary = true
is_name numeral = false
is_name quoted = false
is_name floating = false
is_name other = false
is_name (kind_word k) = true
is_name (type_word k) = true
is_name (integer_word i) = true
is_name (word g) = may_name g
is_name (sign s) = false

-- A number for each class, by which a terminal that is no name knows its tokens.
unfoldable pub given_code : Given → ℕ
given_code OIL-VERSION = 10
given_code IMPLEMENTATION = 11
given_code CPU = 12
given_code STRING = 13
given_code BOOLEAN = 14
given_code ENUM = 15
given_code TRUE = 16
given_code FALSE = 17
given_code AUTO = 18
given_code NO-DEFAULT = 19
given_code WITH-AUTO = 20
given_code FLOAT = 21

unfoldable pub sign_code : Sign → ℕ
sign_code lbrace = 30
sign_code rbrace = 31
sign_code lsquare = 32
sign_code rsquare = 33
sign_code equals = 34
sign_code semicolon = 35
sign_code colon = 36
sign_code comma = 37
sign_code dots = 38

unfoldable pub code : Class → ℕ
unfolding given_code sign_code
code ordinary = 0
code numeral = 1
code quoted = 2
code floating = 6
code other = 9
code (kind_word k) = 3
code (type_word k) = 4
code (integer_word i) = 5
code (word g) = given_code g
code (sign s) = sign_code s

unfoldable pub matches : Terminal → Class → Bool
unfolding code given_code sign_code is_name
matches name c = is_name c
matches number c = eqb 1 (code c)
matches string c = eqb 2 (code c)
matches float c = eqb 6 (code c)
matches kind c = eqb 3 (code c)
matches type c = eqb 4 (code c)
matches integer c = eqb 5 (code c)
matches (the g) c = eqb (given_code g) (code c)
matches (sg s) c = eqb (sign_code s) (code c)

-- Rules ------------------------------------------------------------------------------------------------------------------------------

-- "default: .. the type's own form (number, string, TRUE or FALSE, name)", and a float (document 02, Q-4)
pub data Sort : Type 0 where
  integers strings booleans enums floats : Sort

-- The rules. `auto` is "WITH_AUTO or nothing", `mark` "list mark or nothing", `block` "with or without `{` statements `}`", `own` what follows
-- the `=` of a default. "Specs, definitions, objects and statements may be none": each of these is a rule, none or one and more of them; so
-- is what follows the first of "one or more .. parted by commas" (`numbers`, `enumerators`).
pub data Rule : Type 0 where
  file version implementation specs spec definitions definition attribute reference : Rule
  D P auto mark integer_range numbers boolean_range float_range enumerator enumerators : Rule
  default own : Sort → Rule
  application objects object block statements statement value : Rule

-- A form is a list of symbols: terminals, and names of rules. N is the type of the names.
pub data Symbol (N : Type 0) : Type 0 where
  tok : Terminal → Symbol N
  rule : N → Symbol N

abbrev pub Form : Type 0
Form = List (Symbol Rule)

-- `x · f` is the form that begins with the terminal x, and `x ▸ f` the form that begins with the rule x.
infixr 60 ◌·◌ ◌▸◌
abbrev pub ◌·◌ : {N : Type 0} → Terminal → List (Symbol N) → List (Symbol N)
x · f = tok x ∷ f

abbrev pub ◌▸◌ : {N : Type 0} → N → List (Symbol N) → List (Symbol N)
x ▸ f = rule x ∷ f

abbrev pub ∎ : {N : Type 0} → List (Symbol N)
∎ = []

-- The forms. `x ⟶ f`: the rule x has the form f. A constructor names the form.
infix 20 ◌⟶◌
pub data ◌⟶◌ : Rule → Form → Type 0 where
  -- "D is nothing or `:` string"
  no_D : D ⟶ ∎
  a_D : D ⟶ sg colon · string · ∎
  -- "file: version, implementation, application, end." The end is that of the list: nothing follows.
  file_is : file ⟶ version ▸ implementation ▸ application ▸ ∎
  -- "version: OIL_VERSION `=` string D `;`"
  version_is : version ⟶ the OIL-VERSION · sg equals · string · D ▸ sg semicolon · ∎
  -- "implementation: IMPLEMENTATION name `{` specs `}` D `;` with each spec: kind `{` definitions `}` D `;`"
  implementation_is : implementation ⟶ the IMPLEMENTATION · name · sg lbrace · specs ▸ sg rbrace · D ▸ sg semicolon · ∎
  no_spec : specs ⟶ ∎
  a_spec : specs ⟶ spec ▸ specs ▸ ∎
  spec_is : spec ⟶ kind · sg lbrace · definitions ▸ sg rbrace · D ▸ sg semicolon · ∎
  -- a definition is an attribute or a reference
  no_definition : definitions ⟶ ∎
  a_definition : definitions ⟶ definition ▸ definitions ▸ ∎
  an_attribute : definition ⟶ attribute ▸ ∎
  a_reference : definition ⟶ reference ▸ ∎
  -- "attribute: type, WITH_AUTO or nothing, range, name, list mark `[` `]` or nothing, default, D `;`", a form for each sort of type
  an_integer : attribute ⟶ integer · auto ▸ integer_range ▸ name · mark ▸ default integers ▸ D ▸ sg semicolon · ∎
  a_string : attribute ⟶ the STRING · auto ▸ name · mark ▸ default strings ▸ D ▸ sg semicolon · ∎
  a_boolean : attribute ⟶ the BOOLEAN · auto ▸ boolean_range ▸ name · mark ▸ default booleans ▸ D ▸ sg semicolon · ∎
  an_enum : attribute ⟶ the ENUM · auto ▸ sg lsquare · enumerator ▸ enumerators ▸ sg rsquare · name · mark ▸ default enums ▸ D ▸ sg semicolon · ∎
  -- document 02, Q-4: "Add the type FLOAT, with WITH_AUTO, a range of two floats, list mark, default and values"
  a_float : attribute ⟶ the FLOAT · auto ▸ float_range ▸ name · mark ▸ default floats ▸ D ▸ sg semicolon · ∎
  no_float_range : float_range ⟶ ∎
  a_float_range : float_range ⟶ sg lsquare · float · sg dots · float · sg rsquare · ∎
  no_auto : auto ⟶ ∎
  with_auto : auto ⟶ the WITH-AUTO · ∎
  no_mark : mark ⟶ ∎
  a_mark : mark ⟶ sg lsquare · sg rsquare · ∎
  -- "reference: a kind followed by `_TYPE` as one word, name, list mark or nothing, D `;`"
  reference_is : reference ⟶ type · name · mark ▸ D ▸ sg semicolon · ∎
  -- "types: UINT32, INT32, UINT64, INT64 with a range of nothing, `[` number `..` number `]` or `[` one or more numbers parted by commas `]`;"
  no_range : integer_range ⟶ ∎
  a_range : integer_range ⟶ sg lsquare · number · sg dots · number · sg rsquare · ∎
  a_list : integer_range ⟶ sg lsquare · number · numbers ▸ sg rsquare · ∎
  no_number : numbers ⟶ ∎
  a_number : numbers ⟶ sg comma · number · numbers ▸ ∎
  -- "STRING and no range; BOOLEAN with nothing or `[` TRUE P D `,` FALSE P D `]`;"
  no_boolean_range : boolean_range ⟶ ∎
  a_boolean_range : boolean_range ⟶ sg lsquare · the TRUE · P ▸ D ▸ sg comma · the FALSE · P ▸ D ▸ sg rsquare · ∎
  -- "ENUM with `[` one or more of name P D parted by commas `]`."
  enumerator_is : enumerator ⟶ name · P ▸ D ▸ ∎
  no_enumerator : enumerators ⟶ ∎
  an_enumerator : enumerators ⟶ sg comma · enumerator ▸ enumerators ▸ ∎
  -- "P: nothing or `{` definitions `}`."
  no_P : P ⟶ ∎
  a_P : P ⟶ sg lbrace · definitions ▸ sg rbrace · ∎
  -- "default: nothing, or `=` and AUTO, NO_DEFAULT, or the type's own form (number, string, TRUE or FALSE, name)."
  no_default : {s : Sort} → default s ⟶ ∎
  a_default : {s : Sort} → default s ⟶ sg equals · own s ▸ ∎
  own_auto : {s : Sort} → own s ⟶ the AUTO · ∎
  own_none : {s : Sort} → own s ⟶ the NO-DEFAULT · ∎
  own_number : own integers ⟶ number · ∎
  own_string : own strings ⟶ string · ∎
  own_true : own booleans ⟶ the TRUE · ∎
  own_false : own booleans ⟶ the FALSE · ∎
  own_name : own enums ⟶ name · ∎
  own_float : own floats ⟶ float · ∎
  -- "application: CPU name `{` objects `}` D `;` with each object: kind name D `;` or kind name `{` statements `}` D `;`"
  application_is : application ⟶ the CPU · name · sg lbrace · objects ▸ sg rbrace · D ▸ sg semicolon · ∎
  no_object : objects ⟶ ∎
  an_object : objects ⟶ object ▸ objects ▸ ∎
  an_object_alone : object ⟶ kind · name · D ▸ sg semicolon · ∎
  an_object_with : object ⟶ kind · name · sg lbrace · statements ▸ sg rbrace · D ▸ sg semicolon · ∎
  -- "statement: name `=` value D `;` where value is a number, string, AUTO, or a name, TRUE or FALSE with or without `{` statements `}`."
  no_statement : statements ⟶ ∎
  a_statement : statements ⟶ statement ▸ statements ▸ ∎
  statement_is : statement ⟶ name · sg equals · value ▸ D ▸ sg semicolon · ∎
  value_number : value ⟶ number · ∎
  value_string : value ⟶ string · ∎
  value_float : value ⟶ float · ∎
  value_auto : value ⟶ the AUTO · ∎
  value_name : value ⟶ name · block ▸ ∎
  value_true : value ⟶ the TRUE · block ▸ ∎
  value_false : value ⟶ the FALSE · block ▸ ∎
  no_block : block ⟶ ∎
  a_block : block ⟶ sg lbrace · statements ▸ sg rbrace · ∎

-- Derivations ------------------------------------------------------------------------------------------------------------------------

-- Trees, one for each symbol of a form: under a terminal a token that it matches, under a rule's name the trees of one of its forms. G says
-- which forms a rule has.
pub data Trees {N : Type 0} (G : N → List (Symbol N) → Type 0) : List (Symbol N) → Type 0 where
  nil : Trees G []
  leaf : {a : Terminal} {f : List (Symbol N)} (t : Token) → matches a t.class ≡ true → Trees G f → Trees G (tok a ∷ f)
  node : {x : N} {g f : List (Symbol N)} → G x g → Trees G g → Trees G f → Trees G (rule x ∷ f)

-- the tokens at the leaves, in order
unfoldable pub tokens : {N : Type 0} {G : N → List (Symbol N) → Type 0} {f : List (Symbol N)} → Trees G f → List Token
tokens nil = []
tokens (leaf t m ts) = t ∷ tokens ts
tokens (node p us ts) = tokens us ++ tokens ts

-- "A derivation of a list of tokens, of any length and depth of braces, is a tree: file at its root, under each rule's name one of its
-- forms, at its leaves the whole list in order."
pub record Derivation (l : List Token) : Type 0 where
  pub tree : Trees ◌⟶◌ (file ▸ ∎)
  pub leaves : tokens tree ≡ l

-- The list l begins some list that the grammar derives: "a list begins another if it is a front part of it, be it empty or the whole".
pub record Begins (l : List Token) : Type 0 where
  pub more : List Token
  pub derivation : Derivation (l ++ more)
