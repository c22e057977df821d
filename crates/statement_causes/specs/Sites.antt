-- Where a statement stands, over the syntax, in the terms of the stage of 13 to 16 and 18 (crates/meaning/specs/Judging.antt). Assumes nothing.
use Rattle.std.specs.Prelude.{List, [], ◌∷◌, Bool, true, false, ℕ, eqb}
use Rattle.std.proofs.Math.Option.{Option, none, some}
use Rattle.token.specs.Find.{pick, either}
use Rattle.meaning.specs.Merging.{then}
use Rattle.meaning.specs.Syntax.{Word, Definitions, no_more, Defined, Statement, Statements, done, state, Object, File}
use Rattle.meaning.specs.Words.{alike}
use Rattle.meaning.specs.Scopes.{under, find_definition, of_kind}
use Rattle.layout.specs.Kept.{place_or}

-- A statement where it is judged: the definitions of its scope, the statements before it in its block, those in its braces and those behind it.
pub record Site : Type 0 where
  pub scope : Definitions
  pub before : Statements
  pub statement : Statement
  pub inside : Statements
  pub rest : Statements

-- The name of the statement x, its value or the brace behind it stands at p.
unfoldable pub touches : ℕ → Statement → Bool
touches p x = either (eqb x.name.place p) (either (eqb x.value.place p) (eqb (place_or x.brace) p))

-- "statements in braces after a value belong to the definitions under that value": those of a name that is not defined have no scope.
unfoldable pub inner : Option Defined → Statement → Definitions
inner none x = no_more
inner (some d) x = under d.values x.value

unfoldable pub or_site : Option Site → Option Site → Option Site
or_site none o = o
or_site (some q) o = some q

unfoldable pub site_if : Bool → Site → Option Site
site_if true q = some q
site_if false q = none

-- Of the statements of a block whose scope has the definitions ds, and of those in their braces, the one that is touched at p.
unfoldable pub site_in : ℕ → Statements → Definitions → (before : Statements) → Option Site
site_in p done ds before = none
site_in p (state x inside rest) ds before =
    or_site (site_if (touches p x) (record { scope = ds; before = before; statement = x; inside = inside; rest = rest }))
    (or_site (site_in p inside (inner (find_definition ds x.name) x) done) (site_in p rest ds (then before (state x inside done))))

-- The same of objects, each in the scope of its kind.
unfoldable pub site_of : File → ℕ → List Object → Option Site
site_of f p [] = none
site_of f p (x ∷ xs) = or_site (site_in p x.statements (of_kind x.kind f.specs) done) (site_of f p xs)

-- Of a text: the statement that is touched at p.
unfoldable pub site_at : File → ℕ → Option Site
site_at f p = site_of f p f.objects

-- Its attribute.
unfoldable pub attribute_of : Option Site → Option Defined
attribute_of none = none
attribute_of (some q) = find_definition q.scope q.statement.name

-- The place of the first of a block's own statements that has the name t, 0 for none.
unfoldable pub first_place : Word → Statements → ℕ
first_place t done = 0
first_place t (state x inside rest) = let r = first_place t rest in pick (alike t x.name) x.name.place r

-- Where its name is stated first in its block; 0 where there is no statement.
unfoldable pub first_of : Option Site → ℕ
first_of none = 0
first_of (some q) = first_place q.statement.name (then q.before (state q.statement q.inside q.rest))
