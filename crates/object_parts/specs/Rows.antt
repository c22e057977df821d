-- The rows that the walk of the application puts, by the meaning of what it reads. A row of a statement holds the number of the row after the
-- last one in its braces: so what is done depends on the number k of the first statement. Assumes nothing.
use Rattle.std.specs.Prelude.{◌≡◌, List, [], ◌∷◌, ℕ, ◌+◌, ◌-◌, ◌*◌, ◌≤◌, min, length}
use Rattle.std.proofs.lemmas.List.Edits.{sets}
use Rattle.grammar.specs.declared.Look.{Look}
use Rattle.meaning.specs.Syntax.{Statements, done, state, Object}
use Rattle.meaning.specs.Kinds.{kind_number}
use Rattle.meaning.specs.Actions.{Block, ValueWithBlock, Stated}
use Rattle.layout.specs.Kept.{place_or, statement_rows, object_cells, object_rows, all_statement_rows, join}
use Rattle.rows.specs.Tally.{count_on}
use Rattle.filling.specs.Tables.{Wide, Wrote, Table}
use Rattle.filling.specs.Fills.{Seen}

-- Rows of statements, of which the first is row k.
abbrev pub Lines : Type 0
Lines = ℕ → List (List ℕ)

abbrev pub Fill : Table → Lines → Table → Type 0
Fill x w y = ((k : ℕ) → Wide 7 (w k)) × Wrote 7 x.0 x.1 (w x.1) y.0 y.1

-- The rows are those of statements, of one statement,
unfoldable pub StatementRows : Lines → (ℕ → Statements) → Type 0
StatementRows w m = (k : ℕ) → statement_rows (m k) k ≡ w k

unfoldable pub StatedRows : Lines → (ℕ → Stated) → Type 0
StatedRows w m = (k : ℕ) → statement_rows (state (m k).statement (m k).inside done) k ≡ w k

-- of the statements in braces, the `{` at b (0: there is none), and after a value's word that is seen at a.
unfoldable pub BlockRows : ℕ → Lines → Block → Type 0
BlockRows b w m = (place_or m.brace ≡ b) × ((k : ℕ) → statement_rows (m.inside k) k ≡ w k)

unfoldable pub ValueRows : List ℕ → Look → ℕ → Lines → ValueWithBlock → Type 0
ValueRows s a b w m = Seen s a m.word × (place_or m.block.brace ≡ b) × ((k : ℕ) → statement_rows (m.block.inside k) k ≡ w k)

-- Rows of parts, before which k statements stand, with the rows of their statements.
abbrev pub Put : Type 0
Put = Lines × Lines

-- The tables of parts and of statements have been filled. Rows of parts hold numbers of statements: nothing is said of their cells where
-- either table has more than 65,536 rows.
pub record FillBoth (x : Table × Table) (w : Put) (y : Table × Table) : Type 0 where
  pub wide : (k : ℕ) → Wide 10 (w.0 k)
  pub same : (k l : ℕ) → length (w.0 k) ≡ length (w.0 l)
  pub size : length y.0.0 ≡ length x.0.0
  pub count : y.0.1 ≡ x.0.1 + min (length (w.0 0)) (65536 - x.0.1)
  pub table : x.0.1 + length (w.0 0) ≤ 65536 → x.1.1 + length (w.1 x.1.1) ≤ 65536
      → y.0.0 ≡ sets x.0.0 (x.0.1 * 10) (join (w.0 x.1.1))
  pub lines : Fill x.1 w.1 y.1

-- With the counts of the kinds.
abbrev pub All : Type 0
All = List ℕ × Put

abbrev pub FillAll : List ℕ × (Table × Table) → All → List ℕ × (Table × Table) → Type 0
FillAll x w y = (y.0 ≡ count_on x.0 w.0) × FillBoth x.1 w.1 y.1

-- The numbers of the kinds of parts.
unfoldable pub numbers : List Object → List ℕ
numbers [] = []
numbers (x ∷ xs) = kind_number x.kind ∷ numbers xs

-- The rows are those of a part whose kind's word is seen at a, and those of parts.
unfoldable pub PartRows : Look → Put → (ℕ → ℕ → Object) → Type 0
PartRows a w m =
    (n k : ℕ) → (kind_number (m n k).kind ≡ a.code - 9) × ((object_cells (m n k) k ∷ []) ≡ w.0 k) × (statement_rows (m n k).statements k ≡ w.1 k)

unfoldable pub AllRows : All → (ℕ → ℕ → List Object) → Type 0
AllRows w m =
    (n k : ℕ) → (numbers (m n k) ≡ w.0) × (object_rows (m n k) k ≡ w.1.0 k) × (all_statement_rows (m n k) k ≡ w.1.1 k)
