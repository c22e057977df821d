-- What is told of a place, by the rules. Assumes nothing.
use Rattle.std.specs.Prelude.{◌≡◌, List, [], ◌∷◌, true, false, ℕ, ◌≤◌, length, eqb}
use Rattle.std.proofs.Math.Option.{Option, none, some}
use Rattle.token.specs.Find.{pick, bit}
use Rattle.meaning.specs.Syntax.{Word, Definitions, Defined, Object, File}
use Rattle.meaning.specs.Words.{among}
use Rattle.meaning.specs.Faults.{first}
use Rattle.meaning.specs.Scopes.{names, under, find_definition, of_kind}
use Rattle.meaning.specs.Judging.{taken, lacks}
use Rattle.meaning.specs.Defining.{definition_faults}
use Rattle.meaning.specs.Applying.{object_faults}
use Rattle.meaning.specs.Reading.{parsed, parse}
use Rattle.layout.specs.Kept.{code_of}
use Rattle.scopes.specs.Situations.{HasDefinition, ScopeAt}
use Rattle.statement_causes.specs.Sites.{Site, inner, site_at, attribute_of, first_of}
use Rattle.statement_causes.specs.declared.Attribute.{Attribute}
use Rattle.statement_causes.specs.declared.Told.{Told}

-- The attribute of the statement there --------------------------------------------------------------------------------------------------------

-- Where the attribute x is defined, the word of its type and its code, and its range; WITH_AUTO, and whether it is a list.
pub record Defines (x : Defined) (r : Attribute) : Type 0 where
  pub found : r.found ≡ true
  pub name_place : r.name ≡ x.definition.name.place
  pub name_length : r.name_len ≡ x.definition.name.length
  pub type_place : r.word ≡ x.definition.word.place
  pub type_length : r.word_len ≡ x.definition.word.length
  pub type_code : r.code ≡ code_of x.definition.word
  pub range_place : r.range ≡ x.definition.range.place
  pub range_length : r.range_len ≡ x.definition.range.length
  pub auto : r.auto ≡ bit x.definition.auto

pub data AttributeIs (r : Attribute) : Option Defined → Type 0 where
  no_attribute : r.found ≡ false → AttributeIs r none
  an_attribute : {x : Defined} → Defines x r → AttributeIs r (some x)

-- The word at the place k is that of the statement's scope: a kind's, or a value's; 0 where it has no scope.
pub data ScopeIs (f : File) (k : ℕ) : Option Site → Type 0 where
  no_site : ScopeIs f k none
  a_site : {q : Site} → ScopeAt f k q.scope → ScopeIs f k (some q)

-- What the owner there lacks ------------------------------------------------------------------------------------------------------------------

-- r is the place of the name of an attribute that must be stated and is not, in a scope with these definitions, where these names are stated, or
-- under a value taken there by default; 0 where nothing is lacking.
pub data Missing : Definitions → List Word → ℕ → Type 0 where
  nothing : {ds : Definitions} {ns : List Word} → lacks ds ns ≡ false → Missing ds ns 0
  itself : {ds : Definitions} {ns : List Word} {x : Defined} → HasDefinition ds x → among x.definition.name ns ≡ false → taken x.definition.default ≡ none
      → x.definition.list ≡ false → Missing ds ns x.definition.name.place
  by_default : {ds : Definitions} {ns : List Word} {x : Defined} {t : Word} {r : ℕ} → HasDefinition ds x → among x.definition.name ns ≡ false
      → taken x.definition.default ≡ some t → (r ≡ 0 → ⊥) → Missing (under x.values t) [] r → Missing ds ns r

-- An owner: the definitions of its scope, and the names that are stated in it.
pub record Owner : Type 0 where
  pub scope : Definitions
  pub stated : List Word

-- The object whose name stands at p.
unfoldable pub object_at : ℕ → List Object → Option Object
object_at p [] = none
object_at p (x ∷ xs) = let r = object_at p xs in pick (eqb x.name.place p) (some x) r

-- The statement's value is the owner of what is in its braces.
unfoldable pub owner_inside : Option Site → Option Owner
owner_inside none = none
owner_inside (some q) = some (record { scope = inner (find_definition q.scope q.statement.name) q.statement; stated = names q.inside })

unfoldable pub owner_by : File → Option Object → Option Site → Option Owner
owner_by f none q = owner_inside q
owner_by f (some x) q = some (record { scope = of_kind x.kind f.specs; stated = names x.statements })

-- "the owner: object name or value word".
unfoldable pub owner_at : File → ℕ → Option Owner
owner_at f p = owner_by f (object_at p f.objects) (site_at f p)

pub data MissingAt (r : ℕ) : Option Owner → Type 0 where
  no_owner : r ≡ 0 → MissingAt r none
  an_owner : {o : Owner} → Missing o.scope o.stated r → MissingAt r (some o)

-- All of it -----------------------------------------------------------------------------------------------------------------------------------

pub record ToldOf (f : File) (p : ℕ) (r : Told) : Type 0 where
  pub scope : ScopeIs f r.scope (site_at f p)
  pub attribute : AttributeIs r.attribute (attribute_of (site_at f p))
  pub first_one : r.first ≡ first_of (site_at f p)
  pub missing : MissingAt r.missing (owner_at f p)

-- THE CONTRACT: so it is of a text that passes the stages before 13.
abbrev pub Tells : List ℕ → ℕ → Told → Type 0
Tells s p r =
    length s ≤ 65535 → (f : File) → parse s ≡ parsed f → first (definition_faults f) ≡ none → first (object_faults f) ≡ none → ToldOf f p r
