-- What the public calls promise by the rules themselves, without a reader: the answer and the normal text that document 01 gives to a text, and the
-- lent tables after a call. The contracts of `read`, `read_spanned` and `write` cite these (crates/reading/specs/Rules.antt,
-- crates/writing/specs/Rules.antt). Assumes nothing.
use Rattle.std.specs.Prelude.{◌≡◌, List, ◌++◌, ℕ, ◌*◌, ◌≤◌, length, drop}
use Rattle.grammar.specs.Grammar.{Derivation}
use Rattle.grammar.specs.Terminals.{tokens}
use Rattle.meaning.specs.Actions.{syntax}
use Rattle.meaning.specs.Normal.{normal}
use Rattle.meaning.specs.Answers.{Answer}
use Rattle.meaning.specs.Reading.{Answers}
use Rattle.meaning.specs.Cells.{RoomCells}

-- The answer of the rules to the text s, where the lent tables have full room and no output is asked for: the rules give it, and no other.
pub record TheAnswer (s : List ℕ) (a : Answer) : Type 0 where
  pub given : Answers s a
  pub no_other : (b : Answer) → Answers s b → b ≡ a

-- The normal text of s is w: the grammar derives its tokens, and whatever the derivation, w is written from the syntax that it has.
pub record TheNormalText (s w : List ℕ) : Type 0 where
  pub derivation : Derivation (tokens s)
  pub written : (d : Derivation (tokens s)) → w ≡ normal s (syntax s d.tree)

-- "Tables have room for 512 definitions (attributes and references), 1,024 enumerators, 256 objects and 2,048 resolved values"; "full room is the
-- room stated above or more". A row has 13, 3, 8 and 9 cells (docs/TABLES.md).
pub record FullRoom (d e o v : List ℕ) : Type 0 where
  pub definitions : 512 * 13 ≤ length d
  pub enumerators : 1024 * 3 ≤ length e
  pub objects : 256 * 8 ≤ length o
  pub values : 2048 * 9 ≤ length v

-- "Refusal 1 changes nothing."
pub record Untouched (d e o v d' e' o' v' : List ℕ) : Type 0 where
  pub definitions : d' ≡ d
  pub enumerators : e' ≡ e
  pub objects : o' ≡ o
  pub values : v' ≡ v

-- The rooms of the lent tables hold these cells afterwards. "Memory past the stated room is unchanged."
pub record InRooms (c : RoomCells) (d e o v d' e' o' v' : List ℕ) : Type 0 where
  pub definitions : d' ≡ c.definitions ++ drop (512 * 13) d
  pub enumerators : e' ≡ c.enumerators ++ drop (1024 * 3) e
  pub objects : o' ≡ c.objects ++ drop (256 * 8) o
  pub values : v' ≡ c.values ++ drop (2048 * 9) v
