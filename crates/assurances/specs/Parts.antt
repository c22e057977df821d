-- Objects in parts (document 02, Q-2), as a user of the tables would say it: what the parts of a text have to do with its objects. The rules make
-- the objects by `merge`; here is what that comes to, with no word of how it is done. Assumes nothing.
use Rattle.std.specs.Prelude.{◌≡◌, List, [], ◌∷◌, ◌++◌, false, ℕ, ◌+◌, ◌<◌}
use Rattle.token.specs.Find.{pick}
use Rattle.grammar.specs.Grammar.{Kind, file, ◌▸◌, ∎, ◌⟶◌, Trees, Derivation}
use Rattle.grammar.specs.Terminals.{tokens}
use Rattle.meaning.specs.Syntax.{Word, Span, span_of, Object}
use Rattle.meaning.specs.Places.{each}
use Rattle.meaning.specs.Merging.{same_object, used, further, continued, merge}
use Rattle.meaning.specs.Actions.{syntax}
use Rattle.meaning.specs.Applying.{ObjectRow}
use Rattle.meaning.specs.Answers.{Tables, accepted}
use Rattle.meaning.specs.Reading.{Answers}
use Rattle.assurances.specs.Own.{Row}

-- Of a list of parts or of objects: `same_object x y` is that y has the kind and name of x, `further x l` how many of l have it, and
-- `continued x l` the statements of those, one after another.

-- No two have one kind and name.
abbrev pub Distinct : List Object → Type 0
Distinct l = (i j : ℕ) (x y : Object) → i < j → Row l i x → Row l j y → same_object x y ≡ false

-- Each bears its number in the list and is one part, as all parts of a text do.
pub record OnePart (x : Object) (n : ℕ) : Type 0 where
  pub its_row : x.row ≡ n
  pub one : x.parts ≡ 1

abbrev pub Numbered : List Object → Type 0
Numbered l = (n : ℕ) (x : Object) → Row l n x → OnePart x n

-- The numbers of parts of the objects that have the kind and name of x, added up.
unfoldable pub parts_in : Object → List Object → ℕ
parts_in x [] = 0
parts_in x (y ∷ ys) = let r = parts_in x ys in pick (same_object x y) (y.parts + r) r

-- The first parts: those whose kind and name were not used before.
unfoldable pub firsts : (before : List Object) → List Object → List Object
firsts before [] = []
firsts before (x ∷ xs) = let r = firsts (before ++ (x ∷ [])) xs in pick (used x before) r (x ∷ r)

-- What an object has of its first part: "where its first part stood".
pub record Head : Type 0 where
  pub kind : Kind
  pub word : Word
  pub name : Word
  pub block : Span

unfoldable pub head : Object → Head
head x = record { kind = x.kind; word = x.word; name = x.name; block = x.block }

-- The object x of row n is made of all parts of its kind and name, and of nothing else.
pub record MadeOf (parts : List Object) (x : Object) (n : ℕ) : Type 0 where
  pub its_row : x.row ≡ n
  -- its number of parts is that of the parts of its kind and name,
  pub number : x.parts ≡ further x parts
  -- and its statements are theirs. "List entries keep text order across parts."
  pub own_statements : x.statements ≡ continued x parts

-- Objects of parts.
pub record InParts (parts objects : List Object) : Type 0 where
  -- "a part of a kind and name used before, with braces or without, continues that object": for every kind and name, the statements of the objects
  -- are those of the parts, all of them and in text order;
  pub statements : (z : Object) → continued z objects ≡ continued z parts
  -- the objects' numbers of parts add up to the number of parts;
  pub numbers : (z : Object) → parts_in z objects ≡ further z parts
  -- and no two objects have one kind and name.
  pub distinct : Distinct objects
  -- So each object is made of the parts of its kind and name.
  pub made : (n : ℕ) (x : Object) → Row objects n x → MadeOf parts x n
  -- The objects stand where their first parts stand, in that order, with their kinds, words, names and blocks.
  pub first_parts : each head objects ≡ each head (firsts [] parts)
  -- Where no two parts have one kind and name, the parts are the objects.
  pub whole : Distinct parts → Numbered parts → objects ≡ parts

-- Of every list of parts. proofs/Parts has `parts_merge`.
abbrev pub PartsMerge : Type 0
PartsMerge = (parts : List Object) → InParts parts (merge parts)

-- Of every text s and each derivation t of it, and so of every accepted text. proofs/Parts has `text_in_parts`.
pub record TextParts (s : List ℕ) (t : Trees ◌⟶◌ (file ▸ ∎)) : Type 0 where
  pub numbered : Numbered (syntax s t).parts
  pub in_parts : InParts (syntax s t).parts (syntax s t).objects
  -- A text without repeated kinds and names has its parts as objects.
  pub no_repeats : Distinct (syntax s t).parts → (syntax s t).objects ≡ (syntax s t).parts

abbrev pub TextInParts : Type 0
TextInParts = (s : List ℕ) (t : Trees ◌⟶◌ (file ▸ ∎)) → TextParts s t

-- The row of the object whose first part is x: "The object row holds its first part's block and its number of parts."
unfoldable pub row_of : (parts : List Object) → Object → ObjectRow
row_of parts x = record { kind = x.kind; word = span_of x.word; name = span_of x.name; block = x.block; parts = further x parts }

-- The table of objects has a row for each first part, in their order.
pub record PartRows (s : List ℕ) (t : Tables) : Type 0 where
  pub derivation : Derivation (tokens s)
  pub rows : t.objects ≡ each (row_of (syntax s derivation.tree).parts) (firsts [] (syntax s derivation.tree).parts)

-- Of every text that the rules accept with the tables t. proofs/Parts has `rows_of_parts`.
abbrev pub RowsOfParts : Type 0
RowsOfParts = (s : List ℕ) (t : Tables) → Answers s (accepted t) → PartRows s t
