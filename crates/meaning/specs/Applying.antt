-- The application: the rows of objects, the counts of the kinds, and the stage of 11, 17 and 24 (document 01, "Meaning" and "Refusals and
-- their order"; document 02, Q-2, Q-5). Assumes nothing.
use Rattle.std.specs.Prelude.{List, [], ◌∷◌, ◌++◌, Bool, false, not, ℕ, ◌+◌, eqb, ltb, leb}
use Rattle.std.proofs.Math.Option.{Option, none, some}
use Rattle.token.specs.Find.{bit, both, either}
use Rattle.grammar.specs.Grammar.{Kind}
use Rattle.meaning.specs.Syntax.{Word, Span, span_of, Statements, done, state, Object, File}
use Rattle.meaning.specs.Words.{alike}
use Rattle.meaning.specs.Kinds.{same_kind, kinds, fewest, most}
use Rattle.meaning.specs.Faults.{Fault, faults_if}

-- "an object row its kind, name and block": the kind with its word. "The object row holds its first part's block and its number of parts."
pub record ObjectRow : Type 0 where
  pub kind : Kind
  pub word : Span
  pub name : Span
  pub block : Span
  pub parts : ℕ

unfoldable pub object_rows : List Object → List ObjectRow
object_rows [] = []
object_rows (x ∷ xs) = record { kind = x.kind; word = span_of x.word; name = span_of x.name; block = x.block; parts = x.parts } ∷ object_rows xs

-- How many objects are of a kind: what is counted, and what "fewest and most objects" bound.
unfoldable pub how_many : Kind → List Object → ℕ
how_many k [] = 0
how_many k (x ∷ xs) = bit (same_kind k x.kind) + how_many k xs

-- "An accepted answer also counts the objects of each of the thirteen kinds."
unfoldable pub counts_of : List Kind → List Object → List ℕ
counts_of [] os = []
counts_of (k ∷ ks) os = how_many k os ∷ counts_of ks os

unfoldable pub counts : List Object → List ℕ
counts os = counts_of kinds os

-- 17, "no OS or no APPMODE", at the "CPU name": for each kind with fewer objects than its fewest.
unfoldable pub too_few : List Kind → List Object → Word → List Fault
too_few [] os cpu = []
too_few (k ∷ ks) os cpu = faults_if (ltb (how_many k os) (fewest k)) cpu 17 ++ too_few ks os cpu

-- 17, "second OS, COM or NM": where n objects are a kind's most, one more is too many.
unfoldable pub full : Option ℕ → ℕ → Bool
full none n = false
full (some m) n = leb m n

-- 11, "statement 2,049", at its "name".
unfoldable pub statement_faults : Statements → List Fault
statement_faults done = []
statement_faults (state x inside rest) = (faults_if (eqb x.number 2048) x.name 11 ++ statement_faults inside) ++ statement_faults rest

-- "The limit of 256 counts objects": 11 ("object 257") at the kind word of its first part, and 17 there; before are the objects before it. "A
-- further part of an OS, COM or NM is no second one for 17."
unfoldable pub each_object : (before : List Object) → List Object → List Fault
each_object before [] = []
each_object before (x ∷ xs) =
    (faults_if (eqb x.row 256) x.word 11 ++ faults_if (full (most x.kind) (how_many x.kind before)) x.word 17)
    ++ each_object (before ++ (x ∷ [])) xs

-- "and 512 counts parts; both give 11 at the kind word": part 513; and the statements.
unfoldable pub each_part : List Object → List Fault
each_part [] = []
each_part (x ∷ xs) = (faults_if (eqb x.row 512) x.word 11 ++ statement_faults x.statements) ++ each_part xs

-- 24, "a name already used by an object of another kind", "at the later name": whether one of those before has x's name and another kind.
unfoldable pub elsewhere : Object → List Object → Bool
elsewhere x [] = false
elsewhere x (y ∷ ys) = either (both (not (same_kind x.kind y.kind)) (alike y.name x.name)) (elsewhere x ys)

-- Of each part: before are the parts before it. (A further part of an object whose name was used elsewhere in between is at fault too, after
-- that one.)
unfoldable pub each_name : (before : List Object) → List Object → List Fault
each_name before [] = []
each_name before (x ∷ xs) = faults_if (elsewhere x before) x.name 24 ++ each_name (before ++ (x ∷ [])) xs

-- The stage of 11, 17 and 24. "Refusal 12 is retired."
unfoldable pub object_faults : File → List Fault
object_faults f = too_few kinds f.objects f.cpu ++ (each_object [] f.objects ++ (each_part f.parts ++ each_name [] f.parts))
