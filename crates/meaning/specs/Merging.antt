-- Objects in parts (document 02, Q-2: "a part of a kind and name used before, with braces or without, continues that object"). What stands in the
-- CPU's braces are parts; the objects are made of them. Assumes nothing.
use Rattle.std.specs.Prelude.{List, [], ◌∷◌, ◌++◌, Bool, ℕ, suc, ◌+◌}
use Rattle.token.specs.Find.{pick, both, bit, is_there}
use Rattle.meaning.specs.Syntax.{Statements, done, state, Object}
use Rattle.meaning.specs.Words.{alike, choose}
use Rattle.meaning.specs.Kinds.{same_kind}
use Rattle.meaning.specs.Scopes.{find_object}

-- One list of statements after another.
unfoldable pub then : Statements → Statements → Statements
then done b = b
then (state x inside rest) b = state x inside (then rest b)

-- y has the kind and name of x: it is a part of the same object.
unfoldable pub same_object : Object → Object → Bool
same_object x y = both (same_kind x.kind y.kind) (alike y.name x.name)

-- "a part of a kind and name used before": by one of the parts before it.
unfoldable pub used : Object → List Object → Bool
used x before = is_there (find_object x.kind before x.name)

-- The further parts of x among those after it: how many there are,
unfoldable pub further : Object → List Object → ℕ
further x [] = 0
further x (y ∷ ys) = bit (same_object x y) + further x ys

-- and their statements, "text order across parts".
unfoldable pub continued : Object → List Object → Statements
continued x [] = done
continued x (y ∷ ys) = let r = continued x ys in pick (same_object x y) (then y.statements r) r

-- The object of row n whose first part is x: "The object row holds its first part's block and its number of parts."
unfoldable pub merged : Object → ℕ → List Object → Object
merged x n behind = record {
  row = n;
  kind = x.kind;
  word = x.word;
  name = x.name;
  block = x.block;
  parts = suc (further x behind);
  statements = then x.statements (continued x behind);
}

-- The objects, each "where its first part stood", the first of them of row n; before are the parts before.
unfoldable pub merge_from : (before : List Object) → List Object → ℕ → List Object
merge_from before [] n = []
merge_from before (x ∷ xs) n =
    choose (used x before) (λ _. merge_from (before ++ (x ∷ [])) xs n) (λ _. merged x n xs ∷ merge_from (before ++ (x ∷ [])) xs (suc n))

unfoldable pub merge : List Object → List Object
merge xs = merge_from [] xs 0
