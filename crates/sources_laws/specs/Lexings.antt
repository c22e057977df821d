-- How the tokens of a text end: with its end, or with refusal 3 at a place. Assumes nothing.
use Rattle.std.specs.Prelude.{◌≡◌, List, ℕ, true}
use Rattle.token.specs.Lexing.{Lexed, more, ended, refused, lex_from}
use Rattle.sources.specs.Texts.{told_well}
use Rattle.sources.specs.Expanding.{expanded}

-- number 0: with the end; any other: with refusal 3 at q, whatever number is given for it
abbrev pub EndsAs : ℕ → ℕ → Lexed → Type 0
EndsAs n q (more t l) = EndsAs n q l
EndsAs n q (ended m) = n ≡ 0
EndsAs n q (refused p) = (n ≡ 0 → ⊥) × (p ≡ q)

-- the token reader on the text s comes to its end where n is 0, and else is refused at q, and before it at no place
unfoldable pub Lexes : List ℕ → ℕ → ℕ → Type 0
Lexes s n q = EndsAs n q (lex_from s 0)

-- THE STATEMENT: the expanded text divides into tokens up to its end, or up to the first fault of 3 and 27 to 29, and there is no token. proofs/Expanded
-- has it (`expanded_lexes`); proofs/Crossing has "No token or comment crosses a text's end" (`include_tokens`, `fault_tokens`).
abbrev pub ExpandedLexes : Type 0
ExpandedLexes = (b l : List ℕ) → told_well b l ≡ true → Lexes (expanded b l).bytes (expanded b l).number (expanded b l).place
