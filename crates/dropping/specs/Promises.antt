-- What the functions that mark the dropped statements promise, for every file whose text and rows these are. Assumes nothing.
use Rattle.std.specs.Prelude.{Result, Ok, Err, ◌≡◌, List, [], ◌∷◌, ◌++◌, ℕ, suc, ◌+◌, length}
use Rattle.std.proofs.Math.Option.{Option, none, some}
use Rattle.token.specs.Find.{pick}
use Rattle.meaning.specs.Merging.{then}
use Rattle.meaning.specs.Syntax.{Word, Definitions, no_more, Defined, Statement, Statements, state, Object, File, statements_in}
use Rattle.meaning.specs.Faults.{first, Fault as Refusal}
use Rattle.meaning.specs.Scopes.{names, under, find_definition, of_kind}
use Rattle.meaning.specs.Judging.{faults_as}
use Rattle.blocks.specs.Blocks.{BlockAt}
use Rattle.scopes.specs.Situations.{ScopeAt}
use Rattle.scopes.specs.Given.{Given, Places}
use Rattle.scopes.specs.declared.Sizes.{Sizes}
use Rattle.amounts.specs.Known.{Known}
use Rattle.lookups.specs.Names.{Named}
use Rattle.dropping.specs.Drops.{stated_again, dropped, drops, all_drops, scatter}

-- What is made before: x has the names, k the ranges.
pub record Prepared (s d e o st : List ℕ) (z : Sizes) (x k : List ℕ) : Type 0 where
  pub known : Known s d k
  pub named : Named s d e o st z x

-- One statement ----------------------------------------------------------------------------------------------------------------------------

unfoldable pub number_of : Option Refusal → Option ℕ
number_of none = none
number_of (some x) = some x.number

-- The verdict on a statement without its braces, by the attribute of its name: 13, 14, 15 or 18, or none.
unfoldable pub verdict : Option Defined → List Object → Statement → (before : List Word) → Option ℕ
verdict none os x before = some 13
verdict (some d) os x before = pick (stated_again d x before) (some 14) (number_of (first (faults_as d.definition.type os x d)))

-- The scope of its braces.
unfoldable pub scope_inside : Option Defined → Statement → Definitions
scope_inside none x = no_more
scope_inside (some d) x = under d.values x.value

-- r is the verdict, or has the word of that scope.
pub data VerdictOn (f : File) (o : Option Defined) (x : Statement) (before : List Word) : Result ℕ ℕ → Type 0 where
  passes : {u : ℕ} → verdict o f.objects x before ≡ none → ScopeAt f u (scope_inside o x) → VerdictOn f o x before (Ok u)
  faulty : {n : ℕ} → verdict o f.objects x before ≡ some n → VerdictOn f o x before (Err n)

-- What is known of a block: the scope ds of the word at key.
pub record Scoped (s d e o st : List ℕ) (z : Sizes) (key : ℕ) (f : File) (ds : Definitions) : Type 0 where
  pub given : Given s d e o st z f
  pub scope : ScopeAt f key ds

-- The verdict on the statement of row k, in the block from m to v.
abbrev pub Verdicts : (s d e o st : List ℕ) → Sizes → (key m k v : ℕ) → Result ℕ ℕ → Type 0
Verdicts s d e o st z key m k v r =
    (f : File) (ds : Definitions) (before : Statements) (x : Statement) (inside rest : Statements) → Scoped s d e o st z key f ds
    → BlockAt s st m v (then before (state x inside rest)) → k ≡ m + statements_in before → VerdictOn f (find_definition ds x.name) x (names before) r

-- Marks ------------------------------------------------------------------------------------------------------------------------------------

-- The drops of the statement of row k, in the block from m to v, and of those in its braces, which end before n, are put into the marks l.
abbrev pub DropsOne : (s d e o st : List ℕ) → Sizes → (key m k n v : ℕ) → (l l' : List ℕ) → Type 0
DropsOne s d e o st z key m k n v l l' =
    (f : File) (ds : Definitions) (before : Statements) (x : Statement) (inside rest : Statements) → Scoped s d e o st z key f ds
    → BlockAt s st m v (then before (state x inside rest)) → k ≡ m + statements_in before → n ≡ suc k + statements_in inside
    → l' ≡ scatter l (dropped (find_definition ds x.name) f.objects x (names before) (λ us. drops inside f.objects us []))

-- Those of a block's statements.
abbrev pub DropsBlock : (s d e o st : List ℕ) → Sizes → (key m n : ℕ) → (l l' : List ℕ) → Type 0
DropsBlock s d e o st z key m n l l' =
    (f : File) (ds : Definitions) (ss : Statements) → Scoped s d e o st z key f ds → BlockAt s st m n ss → l' ≡ scatter l (drops ss f.objects ds [])

-- Those of the object of row i.
abbrev pub DropsObject : (s d e o st : List ℕ) → Sizes → (ps : List ℕ) → ℕ → (l l' : List ℕ) → Type 0
DropsObject s d e o st z ps i l l' =
    (f : File) (front : List Object) (x : Object) (rest : List Object) → Given s d e o st z f → Places f ps
    → f.objects ≡ front ++ (x ∷ rest) → length front ≡ i → l' ≡ scatter l (drops x.statements f.objects (of_kind x.kind f.specs) [])

-- All.
abbrev pub DropsAll : (s d e o st : List ℕ) → Sizes → List ℕ → (l l' : List ℕ) → Type 0
DropsAll s d e o st z ps l l' = (f : File) → Given s d e o st z f → Places f ps → l' ≡ scatter l (all_drops f)
