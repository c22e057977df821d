-- The statements that are dropped where a text is mended (document 02, Q-11: "drop each statement at fault by 13 or 14"), over the syntax, in the
-- terms of the stage of 13 to 16 and 18 (crates/meaning/specs/Judging.antt). Assumes nothing.
use Rattle.std.specs.Prelude.{List, [], ◌∷◌, ◌++◌, Bool, true, false, not, ℕ, set}
use Rattle.std.proofs.Math.Option.{Option, none, some}
use Rattle.token.specs.Find.{both}
use Rattle.meaning.specs.Syntax.{Word, Definitions, Defined, Statement, Statements, done, state, Object, File}
use Rattle.meaning.specs.Words.{among}
use Rattle.meaning.specs.Faults.{Fault}
use Rattle.meaning.specs.Scopes.{under, find_definition, of_kind}
use Rattle.meaning.specs.Judging.{own_faults}

-- A statement that is dropped: the place of its name, and the number, 13 or 14, by which it is at fault.
pub record Drop : Type 0 where
  pub place : ℕ
  pub number : ℕ

unfoldable pub drop_if : Bool → Word → ℕ → List Drop
drop_if true t n = record { place = t.place; number = n } ∷ []
drop_if false t n = []

-- 14, "single attribute stated again in its block": the names stated before it in its block are before.
unfoldable pub stated_again : Defined → Statement → (before : List Word) → Bool
stated_again d x before = both (not d.definition.list) (among x.name before)

-- "A statement at fault by 13, 14, 15 or 18 adds no fault from its braces" (document 01), so nothing in them is dropped by itself: a statement with
-- faults of its own is dropped if 14 is one of them; else the drops of its braces are k.
unfoldable pub or_inside : List Fault → (again : Bool) → Statement → Definitions → (Definitions → List Drop) → List Drop
or_inside [] again x us k = k us
or_inside (f ∷ fs) again x us k = drop_if again x.name 14

-- 13, "name not defined in its scope"; else by the attribute d.
unfoldable pub dropped : Option Defined → List Object → Statement → (before : List Word) → (Definitions → List Drop) → List Drop
dropped none os x before k = drop_if true x.name 13
dropped (some d) os x before k = or_inside (own_faults os x d before) (stated_again d x before) x (under d.values x.value) k

-- The statements of a block whose scope has the definitions ds.
unfoldable pub drops : Statements → List Object → Definitions → (before : List Word) → List Drop
drops done os ds before = []
drops (state x inside rest) os ds before =
    dropped (find_definition ds x.name) os x before (λ us. drops inside os us []) ++ drops rest os ds (before ++ (x.name ∷ []))

-- Each object in the scope of its kind, the parts of one kind and name as one object.
unfoldable pub drops_of : File → List Object → List Drop
drops_of f [] = []
drops_of f (x ∷ xs) = drops x.statements f.objects (of_kind x.kind f.specs) [] ++ drops_of f xs

-- "drop each statement at fault by 13 or 14".
unfoldable pub all_drops : File → List Drop
all_drops f = drops_of f f.objects

-- The number of each drop, at its place in m.
unfoldable pub scatter : List ℕ → List Drop → List ℕ
scatter m [] = m
scatter m (x ∷ xs) = scatter (set m x.place x.number) xs
