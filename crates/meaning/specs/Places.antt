-- The tables without places and lengths: every place and length is 0. What document 01 says is the same "but places, lengths and the stated mark"
-- is the same here. Assumes nothing.
use Rattle.std.specs.Prelude.{List, [], ◌∷◌}
use Rattle.meaning.specs.Syntax.{absent}
use Rattle.meaning.specs.Defining.{DefinitionRow, EnumeratorRow}
use Rattle.meaning.specs.Applying.{ObjectRow}
use Rattle.meaning.specs.Resolving.{ValueRow}
use Rattle.meaning.specs.Answers.{Tables}

-- A function for each of a list.
unfoldable pub each : {A B : Type 0} → (A → B) → List A → List B
each f [] = []
each f (a ∷ l) = f a ∷ each f l

-- Rows, and all tables.
unfoldable pub unplaced_definition_row : DefinitionRow → DefinitionRow
unplaced_definition_row r = record
    { under = absent; name = absent; type = absent; list = r.list; auto = r.auto; range = absent; default = absent; typed = r.typed }

unfoldable pub unplaced_enumerator_row : EnumeratorRow → EnumeratorRow
unplaced_enumerator_row r = record { attribute = r.attribute; name = absent }

unfoldable pub unplaced_object_row : ObjectRow → ObjectRow
unplaced_object_row r = record { kind = r.kind; word = absent; name = absent; block = absent; parts = r.parts }

unfoldable pub unplaced_value_row : ValueRow → ValueRow
unplaced_value_row r = record { definition = r.definition; owner = r.owner; value = r.value; stated = r.stated; word = absent }

unfoldable pub unplaced_tables : Tables → Tables
unplaced_tables t = record {
  definitions = each unplaced_definition_row t.definitions;
  enumerators = each unplaced_enumerator_row t.enumerators;
  objects = each unplaced_object_row t.objects;
  values = each unplaced_value_row t.values;
  counts = t.counts;
}
