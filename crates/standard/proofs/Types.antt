-- A type by its code: no two types have one code. Assumes nothing.
use mathlib.Core.Path.{◌≡◌, refl, sym, ◌∙◌, ap}
use Prim.Native.Nat.{ℕ}
use lib.Dec.{eqb}
use Rattle.token.specs.Find.{pick}
use Rattle.grammar.specs.Grammar.{OS, APPMODE, TASK, ISR, COUNTER, ALARM, RESOURCE, EVENT, COM, MESSAGE, NETWORKMESSAGE, IPDU, NM, UINT32, INT32, UINT64, INT64}
use Rattle.meaning.specs.Syntax.{AttributeType, integer, string, boolean, enum, float, reference}
use Rattle.meaning.specs.Kinds.{kind_number}
use Rattle.meaning.specs.Cells.{integer_code, type_code}

unfoldable type_of : ℕ → AttributeType
type_of n =
    pick (eqb n 22) (reference OS)
    (pick (eqb n 23) (reference APPMODE)
    (pick (eqb n 24) (reference TASK)
    (pick (eqb n 25) (reference ISR)
    (pick (eqb n 26) (reference COUNTER)
    (pick (eqb n 27) (reference ALARM)
    (pick (eqb n 28) (reference RESOURCE)
    (pick (eqb n 29) (reference EVENT)
    (pick (eqb n 30) (reference COM)
    (pick (eqb n 31) (reference MESSAGE)
    (pick (eqb n 32) (reference NETWORKMESSAGE)
    (pick (eqb n 33) (reference IPDU)
    (pick (eqb n 34) (reference NM)
    (pick (eqb n 35) (integer UINT32)
    (pick (eqb n 36) (integer INT32)
    (pick (eqb n 37) (integer UINT64)
    (pick (eqb n 38) (integer INT64)
    (pick (eqb n 40) boolean
    (pick (eqb n 41) enum
    (pick (eqb n 42) float
    string)))))))))))))))))))

type_back : (t : AttributeType) → type_of (type_code t) ≡ t
unfolding type_of type_code integer_code kind_number
type_back (reference OS) = refl
type_back (reference APPMODE) = refl
type_back (reference TASK) = refl
type_back (reference ISR) = refl
type_back (reference COUNTER) = refl
type_back (reference ALARM) = refl
type_back (reference RESOURCE) = refl
type_back (reference EVENT) = refl
type_back (reference COM) = refl
type_back (reference MESSAGE) = refl
type_back (reference NETWORKMESSAGE) = refl
type_back (reference IPDU) = refl
type_back (reference NM) = refl
type_back (integer UINT32) = refl
type_back (integer INT32) = refl
type_back (integer UINT64) = refl
type_back (integer INT64) = refl
type_back string = refl
type_back boolean = refl
type_back enum = refl
type_back float = refl

pub same_type : (t u : AttributeType) → type_code t ≡ type_code u → t ≡ u
same_type t u e = sym (type_back t) ∙ ap type_of e ∙ type_back u

pub enum_coded : (t : AttributeType) → type_code t ≡ 41 → t ≡ enum
unfolding type_of
enum_coded t e = sym (type_back t) ∙ ap type_of e

pub boolean_coded : (t : AttributeType) → type_code t ≡ 40 → t ≡ boolean
unfolding type_of
boolean_coded t e = sym (type_back t) ∙ ap type_of e
