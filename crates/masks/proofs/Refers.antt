-- Which object refers to which, over rows and over objects. Assumes nothing.
use mathlib.Core.List.{List, [], ◌∷◌}
use mathlib.Core.Bool.{Bool, false}
use Prim.Native.Nat.{ℕ, suc}
use lib.Dec.{eqb}
use Rattle.token.specs.Find.{pick, both, either}
use Rattle.grammar.specs.Grammar.{TASK}
use Rattle.meaning.specs.Syntax.{Object}
use Rattle.meaning.specs.Kinds.{same_kind}
use Rattle.meaning.specs.Resolving.{Resolved, Owner, of_object, of_value, ValueRow}
use Rattle.masks.specs.Events.{leads, refers}

unfoldable pub owner_now : Owner → ℕ → ℕ
owner_now (of_object o) now = o
owner_now (of_value k) now = now

-- One of the rows, the first of which follows one of the object `now`, has the object t refer to the object x.
unfoldable pub row_refers : List ValueRow → (now t x : ℕ) → Bool
row_refers [] now t x = false
row_refers (r ∷ rs) now t x =
    let a = row_refers rs (owner_now r.owner now) t x in
    either (both (eqb (owner_now r.owner now) t) (leads x r.value)) a

-- The object t, of objects from number o on whose values are ys, refers to the object x.
unfoldable pub refers_nth : List Resolved → (o t x : ℕ) → Bool
refers_nth [] o t x = false
refers_nth (y ∷ ys) o t x = let a = refers_nth ys (suc o) t x in either (both (eqb o t) (refers x y)) a

-- The object t, of objects xs from number o on, is a task.
unfoldable pub task_kind : List Object → (o t : ℕ) → Bool
task_kind [] o t = false
task_kind (x ∷ xs) o t = let r = task_kind xs (suc o) t in pick (eqb o t) (same_kind TASK x.kind) r
