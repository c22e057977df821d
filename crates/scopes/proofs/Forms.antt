-- The definitions of a text by their types: what the grammar gives of the type's word, the range and the values. Assumes nothing.
use mathlib.Core.Path.{◌≡◌}
use mathlib.Core.List.{List}
use Prim.Native.Nat.{ℕ, ◌+◌}
use Rattle.meaning.specs.Cells.{integer_code}
use Rattle.grammar.specs.Grammar.{Kind, Integer}
use Rattle.meaning.specs.Kinds.{kind_number}
use Rattle.meaning.specs.Syntax.{Word, integer, string, boolean, enum, float, reference, no_bounds, Definition, Definitions, no_more, define, Values, no_value, value}
use Rattle.layout.specs.Kept.{code_of}
use Rattle.scopes.specs.Situations.{ReadAt}
use Rattle.scopes.specs.Ranges.{RangeAt, FloatsAt}

-- Nothing, or TRUE and FALSE.
pub data Truths : Values → Type 0 where
  no_truths : Truths no_value
  both_truths : {t f : Word} {a b : ℕ} {us vs : Definitions} → Truths (value t a us (value f b vs no_value))

-- One or more.
pub data NotEmpty : Values → Type 0 where
  at_least_one : {w : Word} {e : ℕ} {us : Definitions} {vs : Values} → NotEmpty (value w e us vs)

pub data Formed (s : List ℕ) (d : Definition) : Values → Type 0 where
  an_integer : (i : Integer) → d.type ≡ integer i → code_of d.word ≡ integer_code i → RangeAt s d.range.place d.bounds → Formed s d no_value
  a_string : d.type ≡ string → code_of d.word ≡ 39 → d.bounds ≡ no_bounds → Formed s d no_value
  a_boolean : {vs : Values} → d.type ≡ boolean → code_of d.word ≡ 40 → d.bounds ≡ no_bounds → Truths vs → Formed s d vs
  an_enum : {vs : Values} → d.type ≡ enum → code_of d.word ≡ 41 → d.bounds ≡ no_bounds → NotEmpty vs → Formed s d vs
  a_float : d.type ≡ float → code_of d.word ≡ 42 → FloatsAt s d.range.place d.bounds → Formed s d no_value
  a_reference : (k : Kind) → d.type ≡ reference k → code_of d.word ≡ 22 + kind_number k → d.bounds ≡ no_bounds → Formed s d no_value

-- So it is at every depth.
mutual
  pub data AllFormed (s : List ℕ) : Definitions → Type 0 where
    none_formed : AllFormed s no_more
    more_formed : {d : Definition} {vs : Values} {ds : Definitions} → Formed s d vs → ReadAt s d.word d.word.place d.word.length
        → AllFormedUnder s vs → AllFormed s ds → AllFormed s (define d vs ds)

  pub data AllFormedUnder (s : List ℕ) : Values → Type 0 where
    none_under : AllFormedUnder s no_value
    more_under : {w : Word} {e : ℕ} {us : Definitions} {vs : Values} → AllFormed s us → AllFormedUnder s vs → AllFormedUnder s (value w e us vs)
