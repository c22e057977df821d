-- The value of one attribute of a text (document 02, Q-13: "asks for the value of one attribute by kind, object name and dotted path").
-- Assumes nothing.
use Rattle.std.specs.Prelude.{List, [], ◌∷◌, Bool, ℕ, suc}
use Rattle.std.proofs.Math.Option.{Option, none, some}
use Rattle.token.specs.Find.{both}
use Rattle.token.specs.Words.{same}
use Rattle.meaning.specs.Syntax.{Object, File}
use Rattle.meaning.specs.Words.{choose}
use Rattle.meaning.specs.Resolving.{Taken, Resolved, end, resolved, object_values}
use Rattle.attribute_values.specs.Paths.{steps, name_of, mark_of, picks}

-- The value t that a step picked, where no step is left; else what the further steps lead to.
unfoldable pub onward : List (List ℕ) → Taken → (List ℕ → List (List ℕ) → Option Taken) → Option Taken
onward [] t inner = some t
onward (b ∷ bs) t inner = inner b bs

-- The value that the step b and the further steps bs lead to, among a scope's resolved values; n entries of the step's attribute stand before
-- them. Further steps go on among what is under the value that b picks.
unfoldable pub leads_to : List ℕ → List (List ℕ) → ℕ → Resolved → Option Taken
leads_to b bs n end = none
leads_to b bs n (resolved t us rest) =
    choose (same t.definition.name.bytes (name_of b))
    (λ _. choose (picks t.definition.list (mark_of b) n) (λ _. onward bs t (λ c cs. leads_to c cs 0 us)) (λ _. leads_to b bs (suc n) rest))
    (λ _. leads_to b bs n rest)

unfoldable pub by_steps : List (List ℕ) → Resolved → Option Taken
by_steps [] x = none
by_steps (b ∷ bs) x = leads_to b bs 0 x

-- "by kind, object name": the object has this kind word and this name. A word that is no kind's is no object's.
unfoldable pub is_called : (kind name : List ℕ) → Object → Bool
is_called kind name x = both (same x.word.bytes kind) (same x.name.bytes name)

unfoldable pub value_among : File → (kind name path : List ℕ) → List Object → Option Taken
value_among f kind name path [] = none
value_among f kind name path (x ∷ xs) =
    choose (is_called kind name x) (λ _. by_steps (steps path) (object_values f x)) (λ _. value_among f kind name path xs)

-- The value "of one attribute by kind, object name and dotted path", or none: "not found".
unfoldable pub value_of : File → (kind name path : List ℕ) → Option Taken
value_of f kind name path = value_among f kind name path f.objects
