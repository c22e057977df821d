-- The sorts of words by their codes. Assumes nothing.
use mathlib.Core.Path.{◌≡◌, refl, sym, ◌∙◌, ap, subst}
use mathlib.Core.Bool.{Bool, true, false}
use mathlib.Core.Option.{none, some}
use Prim.Native.Nat.{ℕ}
use lib.Dec.{eqb}
use borrow.Author.Tests.{ne_eqb}
use Rattle.meaning.specs.Cells.{integer_code}
use Rattle.token.specs.Find.{pick}
use Rattle.grammar.specs.Grammar.{Class, Kind, Integer, Given, Sign, ordinary, numeral, quoted, floating, other, kind_word, type_word, integer_word, word, sign, UINT32, INT32, UINT64, INT64, OIL-VERSION, IMPLEMENTATION, CPU, STRING, BOOLEAN, ENUM, FLOAT, TRUE, FALSE, AUTO, NO-DEFAULT, WITH-AUTO, lbrace, rbrace, lsquare, rsquare, equals, semicolon, colon, comma, dots, given_code, sign_code, code}
use Rattle.grammar.specs.Grammar.{OS, APPMODE, TASK, ISR, COUNTER, ALARM, RESOURCE, EVENT, COM, MESSAGE, NETWORKMESSAGE, IPDU, NM}
use Rattle.meaning.specs.Kinds.{kind_number}
use Rattle.meaning.specs.Scopes.{Sort, a_number, a_string, a_truth, an_auto, a_no_default, a_name, a_float, sort_of, sort_of_word}
use Rattle.meaning.specs.Syntax.{Word}
use Rattle.meaning.specs.Judging.{is_no_default, taken_by, taken}
use Rattle.meaning.specs.Resolving.{is_true}
use Rattle.layout.specs.Kept.{class_number, given_number, sign_number, code_of}

unfoldable pub sort_coded : ℕ → Sort
sort_coded n =
    pick (eqb n 43) a_number (pick (eqb n 44) a_string (pick (eqb n 1) a_truth (pick (eqb n 2) a_truth (pick (eqb n 3) an_auto (pick (eqb n 4) a_no_default (pick (eqb n 54) a_float a_name))))))

-- The sort and the truth that a code tells.
pub record Tells (c : Class) : Type 0 where
  pub sort : sort_of c ≡ sort_coded (class_number c)
  pub truth : is_true c ≡ eqb (class_number c) 1

tells_kind : (x : Kind) → Tells (kind_word x)
unfolding sort_of sort_of_word sort_coded class_number given_number sign_number integer_code kind_number is_true code given_code sign_code
tells_kind OS = record { sort = refl; truth = refl }
tells_kind APPMODE = record { sort = refl; truth = refl }
tells_kind TASK = record { sort = refl; truth = refl }
tells_kind ISR = record { sort = refl; truth = refl }
tells_kind COUNTER = record { sort = refl; truth = refl }
tells_kind ALARM = record { sort = refl; truth = refl }
tells_kind RESOURCE = record { sort = refl; truth = refl }
tells_kind EVENT = record { sort = refl; truth = refl }
tells_kind COM = record { sort = refl; truth = refl }
tells_kind MESSAGE = record { sort = refl; truth = refl }
tells_kind NETWORKMESSAGE = record { sort = refl; truth = refl }
tells_kind IPDU = record { sort = refl; truth = refl }
tells_kind NM = record { sort = refl; truth = refl }

tells_type : (x : Kind) → Tells (type_word x)
unfolding sort_of sort_of_word sort_coded class_number given_number sign_number integer_code kind_number is_true code given_code sign_code
tells_type OS = record { sort = refl; truth = refl }
tells_type APPMODE = record { sort = refl; truth = refl }
tells_type TASK = record { sort = refl; truth = refl }
tells_type ISR = record { sort = refl; truth = refl }
tells_type COUNTER = record { sort = refl; truth = refl }
tells_type ALARM = record { sort = refl; truth = refl }
tells_type RESOURCE = record { sort = refl; truth = refl }
tells_type EVENT = record { sort = refl; truth = refl }
tells_type COM = record { sort = refl; truth = refl }
tells_type MESSAGE = record { sort = refl; truth = refl }
tells_type NETWORKMESSAGE = record { sort = refl; truth = refl }
tells_type IPDU = record { sort = refl; truth = refl }
tells_type NM = record { sort = refl; truth = refl }

tells_integer : (x : Integer) → Tells (integer_word x)
unfolding sort_of sort_of_word sort_coded class_number given_number sign_number integer_code kind_number is_true code given_code sign_code
tells_integer UINT32 = record { sort = refl; truth = refl }
tells_integer INT32 = record { sort = refl; truth = refl }
tells_integer UINT64 = record { sort = refl; truth = refl }
tells_integer INT64 = record { sort = refl; truth = refl }

tells_word : (x : Given) → Tells (word x)
unfolding sort_of sort_of_word sort_coded class_number given_number sign_number integer_code kind_number is_true code given_code sign_code
tells_word OIL-VERSION = record { sort = refl; truth = refl }
tells_word IMPLEMENTATION = record { sort = refl; truth = refl }
tells_word CPU = record { sort = refl; truth = refl }
tells_word STRING = record { sort = refl; truth = refl }
tells_word BOOLEAN = record { sort = refl; truth = refl }
tells_word ENUM = record { sort = refl; truth = refl }
tells_word FLOAT = record { sort = refl; truth = refl }
tells_word TRUE = record { sort = refl; truth = refl }
tells_word FALSE = record { sort = refl; truth = refl }
tells_word AUTO = record { sort = refl; truth = refl }
tells_word NO-DEFAULT = record { sort = refl; truth = refl }
tells_word WITH-AUTO = record { sort = refl; truth = refl }

tells_sign : (x : Sign) → Tells (sign x)
unfolding sort_of sort_of_word sort_coded class_number given_number sign_number integer_code kind_number is_true code given_code sign_code
tells_sign lbrace = record { sort = refl; truth = refl }
tells_sign rbrace = record { sort = refl; truth = refl }
tells_sign lsquare = record { sort = refl; truth = refl }
tells_sign rsquare = record { sort = refl; truth = refl }
tells_sign equals = record { sort = refl; truth = refl }
tells_sign semicolon = record { sort = refl; truth = refl }
tells_sign colon = record { sort = refl; truth = refl }
tells_sign comma = record { sort = refl; truth = refl }
tells_sign dots = record { sort = refl; truth = refl }

pub tells : (c : Class) → Tells c
unfolding sort_of sort_coded class_number is_true code given_code
tells ordinary = record { sort = refl; truth = refl }
tells numeral = record { sort = refl; truth = refl }
tells quoted = record { sort = refl; truth = refl }
tells floating = record { sort = refl; truth = refl }
tells other = record { sort = refl; truth = refl }
tells (kind_word k) = tells_kind k
tells (type_word k) = tells_type k
tells (integer_word i) = tells_integer i
tells (word g) = tells_word g
tells (sign x) = tells_sign x

-- A code that is none of the others is a name's.
pub name_coded : (n : ℕ) → (n ≡ 43 → ⊥) → (n ≡ 44 → ⊥) → (n ≡ 1 → ⊥) → (n ≡ 2 → ⊥) → (n ≡ 3 → ⊥) → (n ≡ 4 → ⊥) → (n ≡ 54 → ⊥) → sort_coded n ≡ a_name
unfolding sort_coded
name_coded n a b c d e f g = rw (ne_eqb n 43 a, ne_eqb n 44 b, ne_eqb n 1 c, ne_eqb n 2 d, ne_eqb n 3 e, ne_eqb n 4 f, ne_eqb n 54 g)

-- Only the code 4 is that of NO_DEFAULT.
pub other_coded : (P : Sort → Type 0) → P a_number → P a_string → P a_truth → P an_auto → P a_name → P a_float → (n : ℕ) → (n ≡ 4 → ⊥) → P (sort_coded n)
unfolding sort_coded
other_coded P a b c d e f n h =
    subst (λ t. P (pick (eqb n 43) a_number (pick (eqb n 44) a_string (pick (eqb n 1) a_truth (pick (eqb n 2) a_truth (pick (eqb n 3) an_auto (pick t a_no_default (pick (eqb n 54) a_float a_name))))))))
    (sym (ne_eqb n 4 h)) (by (eqb n 43) (eqb n 44) (eqb n 1) (eqb n 2) (eqb n 3) (eqb n 54))
  where
    by : (p q r s t u : Bool) → P (pick p a_number (pick q a_string (pick r a_truth (pick s a_truth (pick t an_auto (pick u a_float a_name))))))
    by true q r s t u = a
    by false true r s t u = b
    by false false true s t u = c
    by false false false true t u = c
    by false false false false true u = d
    by false false false false false true = f
    by false false false false false false = e

-- NO_DEFAULT is not taken, any other default is.
pub taken_none : (t : Word) → code_of t ≡ 4 → taken (some t) ≡ none
unfolding taken taken_by code_of sort_coded is_no_default
taken_none t e = ap (λ q. taken_by (is_no_default q) t) ((tells t.class).sort ∙ ap sort_coded e)

pub taken_some : (t : Word) → (code_of t ≡ 4 → ⊥) → taken (some t) ≡ some t
unfolding taken taken_by code_of is_no_default
taken_some t h =
    ap (λ q. taken_by (is_no_default q) t) (tells t.class).sort
    ∙ other_coded (λ q. taken_by (is_no_default q) t ≡ some t) refl refl refl refl refl refl (class_number t.class) h
