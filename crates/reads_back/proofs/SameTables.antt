-- Tables that are the same but places, lengths and the stated mark. Assumes nothing.
use mathlib.Core.Path.{◌≡◌, refl, ap, ap₂}
use mathlib.Core.List.{List, [], ◌∷◌}
use mathlib.Core.Bool.{Bool, true, false, false≢true}
use Rattle.meaning.specs.Defining.{DefinitionRow, EnumeratorRow}
use Rattle.meaning.specs.Applying.{ObjectRow}
use Rattle.meaning.specs.Resolving.{ValueRow}
use Rattle.meaning.specs.Answers.{Tables, Answer, accepted}
use Rattle.meaning.specs.Places.{each, unplaced_definition_row, unplaced_enumerator_row, unplaced_object_row, unplaced_value_row, unplaced_tables}
use Rattle.meaning.proofs.UnplacedFaults.{SameAnswer, both_accept, both_refuse}
use Rattle.meaning.proofs.Unplaced.{tables_same}
use Rattle.reads_back.specs.ReadsBack.{bare_value_row, bare_object_row, bare}

each_twice : {A B : Type 0} (g : A → B) (h : A → A) → ((a : A) → g (h a) ≡ g a) → (l : List A) → each g (each h l) ≡ each g l
unfolding each
each_twice g h e [] = refl
each_twice g h e (a ∷ l) = ap₂ ◌∷◌ (e a) (each_twice g h e l)

-- Places left out twice are left out once.
definition_twice : (r : DefinitionRow) → unplaced_definition_row (unplaced_definition_row r) ≡ unplaced_definition_row r
unfolding unplaced_definition_row
definition_twice r = refl

enumerator_twice : (r : EnumeratorRow) → unplaced_enumerator_row (unplaced_enumerator_row r) ≡ unplaced_enumerator_row r
unfolding unplaced_enumerator_row
enumerator_twice r = refl

object_twice : (r : ObjectRow) → bare_object_row (unplaced_object_row r) ≡ bare_object_row r
unfolding unplaced_object_row bare_object_row
object_twice r = refl

value_twice : (r : ValueRow) → bare_value_row (unplaced_value_row r) ≡ bare_value_row r
unfolding bare_value_row unplaced_value_row
value_twice r = refl

-- Tables without places are the same but places as the tables.
pub bare_unplaced : (t : Tables) → bare (unplaced_tables t) ≡ bare t
unfolding bare unplaced_tables
bare_unplaced t =
    tables_same (each_twice unplaced_definition_row unplaced_definition_row definition_twice t.definitions)
    (each_twice unplaced_enumerator_row unplaced_enumerator_row enumerator_twice t.enumerators)
    (each_twice bare_object_row unplaced_object_row object_twice t.objects)
    (each_twice bare_value_row unplaced_value_row value_twice t.values) refl

-- Where one is accepted, so is the other.
pub accepts_unplaced : {a b : Answer} (t : Tables) → SameAnswer a b → a ≡ accepted t → b ≡ accepted (unplaced_tables t)
accepts_unplaced t (both_accept u) e = let q : u ≡ t = cc in ap (λ z. accepted (unplaced_tables z)) q
accepts_unplaced t (both_refuse n p m q) e = absurd (let z : ◌≡◌ {A = Bool} false true = cc in false≢true z)
