-- Document 02, Q-10: "A place becomes a text number, from 0, and a byte .. everywhere (the end, and 0 in the table of refusals, are the main text's)
-- .. and lengths count expanded bytes". A text number and a byte are held in one number: the text's number times 65,536, and the byte.
-- Assumes nothing.
use Rattle.std.specs.Prelude.{Bool, List, ℕ, get_or, ltb, eqb}
use Rattle.token.specs.Find.{pick, either}
use Rattle.meaning.specs.Syntax.{Span}
use Rattle.meaning.specs.Defining.{DefinitionRow, EnumeratorRow}
use Rattle.meaning.specs.Applying.{ObjectRow}
use Rattle.meaning.specs.Resolving.{ValueRow}
use Rattle.meaning.specs.Answers.{Tables, Answer, accepted, refused}
use Rattle.meaning.specs.Places.{each}

-- where place p of an expanded text of n bytes comes from: by their origins g; "the end .. [is] the main text's", which has m bytes
unfoldable pub place_in : List ℕ → ℕ → ℕ → ℕ → ℕ
place_in g n m p = pick (ltb p n) (get_or g p 0) m

-- a word, range or block: where its length is 0 there is none, and no place
unfoldable pub placed_span : (ℕ → ℕ) → Span → Span
placed_span f s = record { place = pick (eqb s.length 0) s.place (f s.place); length = s.length }

-- rows, and all tables
unfoldable pub placed_definition_row : (ℕ → ℕ) → DefinitionRow → DefinitionRow
placed_definition_row f r = record {
  under = placed_span f r.under;
  name = placed_span f r.name;
  type = placed_span f r.type;
  list = r.list;
  auto = r.auto;
  range = placed_span f r.range;
  default = placed_span f r.default;
  typed = r.typed;
}

unfoldable pub placed_enumerator_row : (ℕ → ℕ) → EnumeratorRow → EnumeratorRow
placed_enumerator_row f r = record { attribute = r.attribute; name = placed_span f r.name }

unfoldable pub placed_object_row : (ℕ → ℕ) → ObjectRow → ObjectRow
placed_object_row f r = record {
  kind = r.kind;
  word = placed_span f r.word;
  name = placed_span f r.name;
  block = placed_span f r.block;
  parts = r.parts;
}

unfoldable pub placed_value_row : (ℕ → ℕ) → ValueRow → ValueRow
placed_value_row f r = record { definition = r.definition; owner = r.owner; value = r.value; stated = r.stated; word = placed_span f r.word }

unfoldable pub placed_tables : (ℕ → ℕ) → Tables → Tables
placed_tables f t = record {
  definitions = each (placed_definition_row f) t.definitions;
  enumerators = each (placed_enumerator_row f) t.enumerators;
  objects = each (placed_object_row f) t.objects;
  values = each (placed_value_row f) t.values;
  counts = t.counts;
}

-- "0 in the table of refusals": of 1, 19, 20 and 30
unfoldable pub is_at_start : ℕ → Bool
is_at_start n = either (eqb n 1) (either (eqb n 19) (either (eqb n 20) (eqb n 30)))

unfoldable pub placed_answer : (ℕ → ℕ) → Answer → Answer
placed_answer f (accepted t) = accepted (placed_tables f t)
placed_answer f (refused n p) = refused n (pick (is_at_start n) p (f p))
