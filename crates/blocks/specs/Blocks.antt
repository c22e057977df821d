-- The statements of a block as a range of the rows kept while a text is read: the row of a statement, then those of the statements in its braces,
-- then those of the statements after it. Assumes nothing.
use Rattle.std.specs.Prelude.{◌≡◌, List, ◌++◌, Bool, ℕ, suc, ◌+◌, ◌*◌, ◌≤◌, ◌<◌, length, get_or, ltb, leb}
use Rattle.std.proofs.Math.Option.{Option, none, some}
use Rattle.meaning.specs.Merging.{then}
use Rattle.token.specs.Find.{pick, both}
use Rattle.token.specs.Tokens.{part_of, step_at}
use Rattle.meaning.specs.Syntax.{Word, Statement, Statements, done, state, statements_in}
use Rattle.meaning.specs.Words.{alike, among}
use Rattle.meaning.specs.Scopes.{names}
use Rattle.meaning.specs.Actions.{num_of_step, float_of_step}
use Rattle.layout.specs.Kept.{statement_rows, kept, Wide}
use Rattle.rows.specs.Found.{Found}
use Rattle.std.specs.Prelude.{Some, None}

-- Tables -----------------------------------------------------------------------------------------------------------------------------------

-- The table t, of room for some rows of w cells, holds the rows rs, and no row was too many.
pub record Holds (room w : ℕ) (t : List ℕ) (rs : List (List ℕ)) : Type 0 where
  pub table : t ≡ kept (room * w) rs
  pub fits : length rs ≤ room
  pub wide : Wide w rs

-- Words ------------------------------------------------------------------------------------------------------------------------------------

-- The word t is one of the text s, and not its first.
pub record WordIn (s : List ℕ) (t : Word) : Type 0 where
  pub bytes : t.bytes ≡ part_of s t.place t.length
  pub number : t.number ≡ num_of_step (step_at s t.place)
  pub float : t.float ≡ float_of_step (step_at s t.place)
  pub long : 0 < t.length
  pub later : 0 < t.place

-- So is the `{` after a value where there is one,
pub data BraceIn (s : List ℕ) : Option Word → Type 0 where
  no_brace : BraceIn s none
  a_brace : {t : Word} → WordIn s t → BraceIn s (some t)

-- and the words of statements.
pub data StatementsIn (s : List ℕ) : Statements → Type 0 where
  none_in : StatementsIn s done
  more_in : {x : Statement} {inside rest : Statements} → WordIn s x.name → WordIn s x.value → BraceIn s x.brace
      → StatementsIn s inside → StatementsIn s rest → StatementsIn s (state x inside rest)

-- Blocks -----------------------------------------------------------------------------------------------------------------------------------

-- From row m on stand the rows of the statements ss.
pub record Block (rs : List (List ℕ)) (m : ℕ) (ss : Statements) : Type 0 where
  pub front : List (List ℕ)
  pub rest : List (List ℕ)
  pub whole : rs ≡ front ++ (statement_rows ss m ++ rest)
  pub place : length front ≡ m

-- The range of rows from m to e is the block of the statements ss of the text s, in the table st.
pub record BlockAt (s st : List ℕ) (m e : ℕ) (ss : Statements) : Type 0 where
  pub rows : List (List ℕ)
  pub holds : Holds 2049 7 st rows
  pub block : Block rows m ss
  pub words : StatementsIn s ss
  pub after : e ≡ m + statements_in ss

-- What the functions promise ---------------------------------------------------------------------------------------------------------------

-- The row that row k says comes after it and what is in its braces; e where that lies before row k or past e.
unfoldable pub row_after : List ℕ → ℕ → ℕ → ℕ
row_after st k e = let v = get_or st (k * 7 + 6) 0 in pick (both (ltb k v) (leb v e)) v e

-- The row of the first of a block's own statements that has a name; its first row is m.
unfoldable pub first_stated : Statements → ℕ → Word → Found
first_stated done m t = None
first_stated (state x inside rest) m t = let r = first_stated rest (suc m + statements_in inside) t in pick (alike t x.name) (Some m) r

-- The first statement of the block from m to e that has the name at a place.
abbrev pub FindsStated : (s st : List ℕ) → (m e at len : ℕ) → Found → Type 0
FindsStated s st m e at len r =
    (ss : Statements) (t : Word) → BlockAt s st m e ss → t.bytes ≡ part_of s at len → r ≡ first_stated ss m t

-- Whether the block from m to e has a statement with the name at a place.
abbrev pub IsStated : (s st : List ℕ) → (m e at len : ℕ) → Bool → Type 0
IsStated s st m e at len r =
    (ss : Statements) (t : Word) → BlockAt s st m e ss → t.bytes ≡ part_of s at len → r ≡ among t (names ss)

-- Whether the block from m to e has the name of its own statement of row k before it.
abbrev pub IsBefore : (s st : List ℕ) → (m k e : ℕ) → Bool → Type 0
IsBefore s st m k e r =
    (before : Statements) (x : Statement) (inside rest : Statements) → BlockAt s st m e (then before (state x inside rest)) → k ≡ m + statements_in before
    → r ≡ among x.name (names before)
