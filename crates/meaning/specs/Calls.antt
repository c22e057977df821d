-- The reading with lent memory, and the program (document 01, "What the tool covers", refusals 1 and 20). Assumes nothing.
use Rattle.std.specs.Prelude.{List, ◌++◌, Bool, false, ℕ, length, ltb, leb}
use Rattle.std.proofs.Math.Option.{Option, none, some}
use Rattle.token.specs.Find.{pick, both}
use Rattle.token.specs.Words.{bytes_of}
use Rattle.meaning.specs.Words.{choose}
use Rattle.meaning.specs.Normal.{digits_in}
use Rattle.meaning.specs.Answers.{Answer, accepted, refused}
use Rattle.meaning.specs.Reading.{reading, normal_text}

-- How many rows each lent table has room for.
pub record Rooms : Type 0 where
  pub definitions : ℕ
  pub enumerators : ℕ
  pub objects : ℕ
  pub values : ℕ

-- "Tables have room for 512 definitions (attributes and references), 1,024 enumerators, 256 objects and 2,048 resolved values".
abbrev pub stated_rooms : Rooms
stated_rooms = record { definitions = 512; enumerators = 1024; objects = 256; values = 2048 }

-- "lent memory with less is refused"; "full room is the room stated above or more".
unfoldable pub enough : Rooms → Bool
enough r = both (leb 512 r.definitions) (both (leb 1024 r.enumerators) (both (leb 256 r.objects) (leb 2048 r.values)))

-- 20, "written text longer than the lent output; never where none is asked for".
unfoldable pub too_short : Option ℕ → ℕ → Bool
too_short none n = false
too_short (some m) n = ltb m n

unfoldable pub output_asked : Option ℕ → List ℕ → Answer → Answer
output_asked o w (accepted t) = pick (too_short o (length w)) (refused 20 0) (accepted t)
output_asked o w (refused n p) = refused n p

-- The answer of a public call: with the rooms of the lent tables, and the length of the lent output if one is asked for. 1 is "lent tables too
-- short", at 0.
unfoldable pub call : Rooms → Option ℕ → List ℕ → Answer
call r o s = choose (enough r) (λ _. output_asked o (normal_text s) (reading s)) (λ _. refused 1 0)

-- "a program that reads one text from standard input and writes the normal text, or one line: `refused`, tab, number, tab, place", where the
-- normal text is w.
unfoldable pub line : List ℕ → Answer → List ℕ
line w (accepted t) = w
line w (refused n p) = bytes_of "refused\t" ++ (digits_in 20 n ++ (bytes_of "\t" ++ (digits_in 20 p ++ bytes_of "\n")))

-- "The program lends 65,535 bytes for the output."
unfoldable pub program : List ℕ → List ℕ
program s = line (normal_text s) (call stated_rooms (some 65535) s)
