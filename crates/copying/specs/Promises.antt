-- What each copy promises, for every file whose rows were kept: in a blank room, the rows of the lent table. Assumes nothing.
use Rattle.std.specs.Prelude.{◌≡◌, List, ℕ, ◌*◌, ◌≤◌, length}
use Rattle.meaning.specs.Syntax.{File}
use Rattle.meaning.specs.Defining.{all_definition_rows, all_enumerator_rows}
use Rattle.meaning.specs.Applying.{object_rows}
use Rattle.meaning.specs.Cells.{zeros, definition_room, enumerator_room, object_room}
use Rattle.layout.specs.Kept.{spec_entries, spec_choices, kept_definitions, kept_enumerators, kept_objects}
use Rattle.scopes.specs.Situations.{Situation}

-- The room of definitions, l before and l' after, from n kept in d.
abbrev pub CopiesDefinitions : List ℕ → ℕ → List ℕ → List ℕ → Type 0
CopiesDefinitions d n l l' =
    (length l' ≡ length l)
    × ((s : List ℕ) (f : File) → Situation s f → d ≡ kept_definitions f → n ≡ length (spec_entries f.specs) → n ≤ 512
    → l ≡ zeros (512 * 13) → l' ≡ definition_room (all_definition_rows f.specs))

-- The room of enumerators, from m kept in e, of n definitions kept in d.
abbrev pub CopiesEnumerators : List ℕ → ℕ → List ℕ → ℕ → List ℕ → List ℕ → Type 0
CopiesEnumerators d n e m l l' =
    (length l' ≡ length l)
    × ((s : List ℕ) (f : File) → Situation s f → d ≡ kept_definitions f → n ≡ length (spec_entries f.specs) → n ≤ 512
    → e ≡ kept_enumerators f → m ≡ length (spec_choices f.specs) → m ≤ 1024
    → l ≡ zeros (1024 * 3) → l' ≡ enumerator_room (all_enumerator_rows f.specs))

-- The room of objects, from n kept in o.
abbrev pub CopiesObjects : List ℕ → ℕ → List ℕ → List ℕ → Type 0
CopiesObjects o n l l' =
    (length l' ≡ length l)
    × ((s : List ℕ) (f : File) → Situation s f → o ≡ kept_objects f → n ≡ length f.objects → n ≤ 256
    → l ≡ zeros (256 * 8) → l' ≡ object_room (object_rows f.objects))
