-- What the call `expected` answers: a flag for each terminal, and one for the text's end. Assumes nothing.
use Rattle.std.specs.Prelude.{◌≡◌, List, Bool, true, false, ◌↔◌, ℕ, ◌≤◌, length, get_or, Err}
use Rattle.grammar.specs.Grammar.{Terminal, Derivation, name, number, string, float, kind, type, integer, the, sg, OIL-VERSION, IMPLEMENTATION, CPU, STRING, BOOLEAN, ENUM, FLOAT, TRUE, FALSE, AUTO, NO-DEFAULT, WITH-AUTO, lbrace, rbrace, lsquare, rsquare, equals, semicolon, colon, comma, dots}
use Rattle.grammar.specs.Terminals.{tokens}
use Rattle.grammar.specs.Stage.{Answers}
use Rattle.grammar.specs.declared.Refusal.TheVariants.{NotAdmitted}
use Rattle.expecting.specs.Expected.{until, Expected}

-- The place of a terminal's flag: first a name and those whose words may be names.
unfoldable pub index : Terminal → ℕ
index name = 0
index kind = 1
index type = 2
index integer = 3
index (the OIL-VERSION) = 4
index (the IMPLEMENTATION) = 5
index (the CPU) = 6
index (the STRING) = 7
index (the BOOLEAN) = 8
index (the ENUM) = 9
index (the FLOAT) = 10
index number = 11
index string = 12
index float = 13
index (the TRUE) = 14
index (the FALSE) = 15
index (the AUTO) = 16
index (the NO-DEFAULT) = 17
index (the WITH-AUTO) = 18
index (sg lbrace) = 19
index (sg rbrace) = 20
index (sg lsquare) = 21
index (sg rsquare) = 22
index (sg equals) = 23
index (sg semicolon) = 24
index (sg colon) = 25
index (sg comma) = 26
index (sg dots) = 27

-- the place of the end's flag
abbrev pub end_index : ℕ
end_index = 28

abbrev pub flag : List Bool → ℕ → Bool
flag r i = get_or r i false

-- The text is not too long, and the grammar stage refuses it with 4 at p.
abbrev pub RefusedAt : List ℕ → ℕ → Type 0
RefusedAt s p = (length s ≤ 65535) × Answers s (Err (NotAdmitted p))

-- There a terminal's flag is set exactly if it is expected, and the end's exactly if the tokens before the place are a whole file. For any
-- other text or place no flag is set.
pub record Tells (s : List ℕ) (p : ℕ) (r : List Bool) : Type 0 where
  pub terminal : RefusedAt s p → (a : Terminal) → (flag r (index a) ≡ true) ↔ Expected s p a
  pub end : RefusedAt s p → (flag r end_index ≡ true) ↔ Derivation (until p (tokens s))
  pub elsewhere : (RefusedAt s p → ⊥) → (i : ℕ) → flag r i ≡ false

-- So the flags are decided. proofs/Telling has it (`tells_decided`).
abbrev pub TellsDecided : Type 0
TellsDecided = (s : List ℕ) (p : ℕ) (r q : List Bool) → length r ≡ 29 → length q ≡ 29 → Tells s p r → Tells s p q → r ≡ q
