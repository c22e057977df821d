-- An implementation as the standard asks for, over the two trees of definitions: nothing of how it is searched (document 02, Q-9). Assumes nothing.
use Rattle.std.specs.Prelude.{◌≡◌, List, true, ◌≤◌, ◌<◌}
use Rattle.std.proofs.Math.Option.{none, some}
use Rattle.token.specs.Find.{is_there}
use Rattle.grammar.specs.Grammar.{Kind, Integer}
use Rattle.meaning.specs.Syntax.{Num, AttributeType, integer, string, boolean, enum, float, reference, Bounds, Values, Defined, Spec, File}
use Rattle.meaning.specs.Words.{in_type, in_bounds}
use Rattle.meaning.specs.Scopes.{Under, find_value, find_definition}
use Rattle.scopes.specs.Situations.{HasDefinition, HasValue, HasSpec}
use Rattle.standard.specs.Asking.{Scope, scope_of, has_default, has_list, Finding}

-- The standard attribute x is asked for in the scope u of the implementation: it is an attribute of a kind, and u the kind's scope; or it stands
-- under a value v of an attribute that is asked for and is there as d, and d's list has v too, as z, whose scope is u.
pub data Asks (gs : List Spec) (f : File) : Defined → Scope → Type 0 where
  of_kind : {g : Spec} {x : Defined} → HasSpec gs g → HasDefinition g.definitions x → Asks gs f x (scope_of f g.kind)
  under : {x y d : Defined} {u : Scope} {v z : Under} → Asks gs f x u → find_definition u.definitions x.definition.name ≡ some d
      → HasValue x.values v → find_value d.values v.word ≡ some z → HasDefinition v.definitions y
      → Asks gs f y (record { word = z.word; definitions = z.definitions })

-- "Zero is not negative": so are all numbers of a text.
abbrev pub Proper : Num → Type 0
Proper n = n.negative ≡ true → 0 < n.amount

-- "values no wider than the standard's", of two attributes of one type, the standard's bounds b and list ws and the implementation's c and vs: the
-- numbers of the type in the bounds c are in the bounds b; the words of the list vs are words of the list ws; "a BOOLEAN without its list differs".
-- Strings and references have nothing to compare, and section 5.2 has no FLOAT.
pub data NoWider (b : Bounds) (ws : Values) (c : Bounds) (vs : Values) : AttributeType → Type 0 where
  numbers : {i : Integer} → ((n : Num) → Proper n → in_type i n ≡ true → in_bounds n c ≡ true → in_bounds n b ≡ true) → NoWider b ws c vs (integer i)
  words : ((v : Under) → HasValue vs v → is_there (find_value ws v.word) ≡ true) → NoWider b ws c vs enum
  its_list : (has_list ws ≡ true → has_list vs ≡ true) → NoWider b ws c vs boolean
  strings : NoWider b ws c vs string
  floats : NoWider b ws c vs float
  references : {k : Kind} → NoWider b ws c vs (reference k)

-- "with the same type and list mark, values no wider than the standard's, and WITH_AUTO or a default only where the standard has one": the standard's
-- w, the implementation's d.
pub record Agrees (w d : Defined) : Type 0 where
  pub type : w.definition.type ≡ d.definition.type
  pub list : w.definition.list ≡ d.definition.list
  pub auto : d.definition.auto ≡ true → w.definition.auto ≡ true
  pub default : has_default d.definition ≡ true → has_default w.definition ≡ true
  pub values : NoWider w.definition.bounds w.values d.definition.bounds d.values w.definition.type

-- "every standard attribute and sub-attribute .. must be defined in its scope, with the same ..".
pub record Conforms (gs : List Spec) (f : File) : Type 0 where
  pub there : (x : Defined) (u : Scope) → Asks gs f x u → find_definition u.definitions x.definition.name ≡ none → ⊥
  pub same : (x d : Defined) (u : Scope) → Asks gs f x u → find_definition u.definitions x.definition.name ≡ some d → Agrees x d

-- "Leftmost place, then smaller number, then the order of names in section 5.2": a is not after b.
pub data NotBehind (a b : Finding) : Type 0 where
  left_of : a.place < b.place → NotBehind a b
  smaller : a.place ≡ b.place → a.number < b.number → NotBehind a b
  not_after : a.place ≡ b.place → a.number ≡ b.number → a.attribute ≤ b.attribute → NotBehind a b
