-- Document 02, Q-5: "Add refusal 24: a name already used by an object of another kind, placed at the later name". The paper speaks of objects, and so
-- does this rule; the rule that the calls promise counts the parts (crates/meaning/specs/Applying.antt, `object_faults`). Both give one answer: the
-- first part at fault is the first part of its object. proofs/Clashes has it (`parts_or_objects`). Assumes nothing.
use Rattle.std.specs.Prelude.{◌≡◌, List, [], ◌++◌, ℕ}
use Rattle.grammar.specs.Grammar.{Derivation}
use Rattle.grammar.specs.Terminals.{tokens}
use Rattle.meaning.specs.Syntax.{File}
use Rattle.meaning.specs.Kinds.{kinds}
use Rattle.meaning.specs.Actions.{syntax}
use Rattle.meaning.specs.Faults.{Fault, first}
use Rattle.meaning.specs.Applying.{too_few, each_object, each_part, each_name, object_faults}

-- The stage of 11, 17 and 24 with 24 over objects.
unfoldable pub object_faults_of_objects : File → List Fault
object_faults_of_objects f = too_few kinds f.objects f.cpu ++ (each_object [] f.objects ++ (each_part f.parts ++ each_name [] f.objects))

-- THE STATEMENT: of every text that the grammar derives, the fault that answers is the same.
abbrev pub PartsOrObjects : Type 0
PartsOrObjects = (s : List ℕ) (d : Derivation (tokens s)) → first (object_faults (syntax s d.tree)) ≡ first (object_faults_of_objects (syntax s d.tree))
