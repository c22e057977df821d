-- THE CONTRACT of the walk of a whole text: its refusals are those of the grammar stage; where it ends in none there is a tree of the tokens
-- read, and the tables hold the rows of its syntax. Assumes nothing.
use Rattle.std.specs.Prelude.{◌≡◌, List, [], ◌∷◌, ℕ, ◌≤◌, min, length}
use Rattle.std.proofs.lemmas.List.Edits.{sets}
use Rattle.grammar.specs.Grammar.{file, ◌▸◌, ∎}
use Rattle.grammar.specs.Readers.{look_at, rest, Meets}
use Rattle.meaning.specs.Syntax.{Word, File, Spec}
use Rattle.meaning.specs.Applying.{counts}
use Rattle.meaning.specs.Actions.{Application}
use Rattle.layout.specs.Kept.{spec_entries, spec_choices, definition_cells, choice_cells, map_cells, object_rows, all_statement_rows, statement_count, kind_place, again_place, join}
use Rattle.filling.specs.Fills.{Told}
use Rattle.definitions.specs.Parts.{Spanned}
use Rattle.object_parts.specs.Rows.{All, numbers}
use Rattle.walk.specs.declared.Walked.{Walked}

-- The four tables: definitions, enumerators, parts, statements.
pub record Rooms : Type 0 where
  pub definitions : List ℕ
  pub enumerators : List ℕ
  pub parts : List ℕ
  pub statements : List ℕ

-- A word's place and length.
abbrev pub Stands : Word → ℕ → ℕ → Type 0
Stands w p n = (w.place ≡ p) × (w.length ≡ n)

-- The place of each kind's word, in the order of the kinds.
abbrev pub kind_places : List Spec → List ℕ
kind_places xs =
    kind_place 0 xs ∷ kind_place 1 xs ∷ kind_place 2 xs ∷ kind_place 3 xs ∷ kind_place 4 xs ∷ kind_place 5 xs ∷ kind_place 6 xs ∷ kind_place 7 xs
    ∷ kind_place 8 xs ∷ kind_place 9 xs ∷ kind_place 10 xs ∷ kind_place 11 xs ∷ kind_place 12 xs ∷ []

-- What was read is the file f: its spans, how many there are, and the rows that have been put from the first cell on. Counts end at 65,536;
-- of the cells of a table with more rows than that nothing is said.
pub record Tells (f : File) (x y : Rooms) (r : Walked) : Type 0 where
  pub version : Stands f.version r.version_at r.version_len
  pub implementation : Spanned f.implementation r.implementation_at r.implementation_len
  pub cpu : Stands f.cpu r.cpu_at r.cpu_len
  pub definitions : r.definitions ≡ min 65536 (length (spec_entries f.specs))
  pub enumerators : r.enumerators ≡ min 65536 (length (spec_choices f.specs))
  pub parts : r.parts ≡ min 65536 (length f.parts)
  pub statements : r.statements ≡ min 65536 (statement_count f.parts)
  pub definition_rows : length (spec_entries f.specs) ≤ 65536
      → y.definitions ≡ sets x.definitions 0 (join (map_cells definition_cells (spec_entries f.specs)))
  pub enumerator_rows : length (spec_choices f.specs) ≤ 65536
      → y.enumerators ≡ sets x.enumerators 0 (join (map_cells choice_cells (spec_choices f.specs)))
  pub part_table : length f.parts ≤ 65536 → statement_count f.parts ≤ 65536 → y.parts ≡ sets x.parts 0 (join (object_rows f.parts 0))
  pub statement_table : statement_count f.parts ≤ 65536 → y.statements ≡ sets x.statements 0 (join (all_statement_rows f.parts 0))
  pub places : r.places ≡ kind_places f.specs
  pub again : r.again ≡ again_place [] f.specs
  pub counted : length f.parts ≤ 65536 → r.counts ≡ counts f.parts

-- A text of at most 65,535 bytes has no more rows than are counted: what `Tells` asks is so.
unfoldable pub Few : List ℕ → File → Type 0
Few s f =
    length s ≤ 65535
    → (length (spec_entries f.specs) ≤ 65536) × (length (spec_choices f.specs) ≤ 65536) × (length f.parts ≤ 65536)
    × (statement_count f.parts ≤ 65536)

-- The tables keep their lengths.
pub record SameSizes (x y : Rooms) : Type 0 where
  pub definitions : length y.definitions ≡ length x.definitions
  pub enumerators : length y.enumerators ≡ length x.enumerators
  pub parts : length y.parts ≡ length x.parts
  pub statements : length y.statements ≡ length x.statements

pub record Whole (s : List ℕ) (x y : Rooms) (r : Walked) : Type 0 where
  -- the look that the grammar stage ends with
  pub meets : Meets 1 (file ▸ ∎) s (look_at s 0 0) r.look
  pub sizes : SameSizes x y
  -- where it is no refusal: a tree of the tokens read, with its syntax
  pub told : r.look.code ≤ 56 → Told s (file ▸ ∎) (rest s (look_at s 0 0)) (rest s r.look) (λ m. Tells m.0 x y r × Few s m.0)

-- The rows are those of an application whose name stands at p, with n bytes.
unfoldable pub ApplicationRows : ℕ → ℕ → All → Application → Type 0
ApplicationRows p n w m =
    Stands m.name p n × (numbers m.objects ≡ w.0) × (object_rows m.objects 0 ≡ w.1.0 0) × (all_statement_rows m.objects 0 ≡ w.1.1 0)
