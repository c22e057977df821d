-- "Definitions and enumerators are counted, and their rows stand, in the order of their names in the text"; so do objects. Assumes nothing.
use Rattle.std.specs.Prelude.{List, ℕ, ◌<◌}
use Rattle.meaning.specs.Defining.{DefinitionRow, EnumeratorRow}
use Rattle.meaning.specs.Applying.{ObjectRow}
use Rattle.meaning.specs.Answers.{Tables, accepted}
use Rattle.meaning.specs.Reading.{Answers}
use Rattle.assurances.specs.Own.{Row}

-- Of two rows of a table, the name of the later one stands later in the text.
pub record InNameOrder (t : Tables) : Type 0 where
  pub definitions : (i j : ℕ) (r q : DefinitionRow) → i < j → Row t.definitions i r → Row t.definitions j q → r.name.place < q.name.place
  pub enumerators : (i j : ℕ) (r q : EnumeratorRow) → i < j → Row t.enumerators i r → Row t.enumerators j q → r.name.place < q.name.place
  pub objects : (i j : ℕ) (r q : ObjectRow) → i < j → Row t.objects i r → Row t.objects j q → r.name.place < q.name.place

-- Of every text that the rules accept with the tables t. proofs/Ordering has `names_rise`.
abbrev pub NamesRise : Type 0
NamesRise = (s : List ℕ) (t : Tables) → Answers s (accepted t) → InNameOrder t
