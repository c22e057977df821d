-- The grammar stage of a reading: refusals 3 to 5, for every text. Assumes nothing.
use Rattle.std.specs.Prelude.{◌≡◌, List, [], ◌∷◌, ◌++◌, true, ℕ, ◌+◌, ◌≤◌, length, Ok, Err}
use Rattle.token.specs.Find.{bit}
use Rattle.token.specs.Lexing.{lex_from, Lexed, more, ended, refused, Divides as Wholly}
use Rattle.grammar.specs.Grammar.{Token, matches, sg, lbrace, rbrace, Derivation, Begins}
use Rattle.grammar.specs.Terminals.{tokens}
use Rattle.grammar.specs.Answered.{Answer}
use Rattle.grammar.specs.declared.Refusal.TheVariants.{NoToken, NotAdmitted, TooDeep}

-- The number that document 01 has for each answer; 0 where there is no refusal.
unfoldable pub number_of : Answer → ℕ
number_of (Ok _) = 0
number_of (Err (NoToken p)) = 3
number_of (Err (NotAdmitted p)) = 4
number_of (Err (TooDeep p)) = 5

unfoldable pub place_of : Answer → ℕ
place_of (Ok _) = 0
place_of (Err (NoToken p)) = p
place_of (Err (NotAdmitted p)) = p
place_of (Err (TooDeep p)) = p

-- "A text divides wholly into tokens if each byte, taken from the left by the token rules, is in a token or an ended comment or is one of the
-- six that part tokens": the token reader comes to the text's end, and to no refusal.
abbrev pub Divides : List ℕ → Type 0
Divides s = Wholly (lex_from s 0)

-- At p there is no token, or a string or comment that is not ended; before it stand the tokens of the text.
unfoldable pub StopsAt : Lexed → ℕ → Type 0
StopsAt (more t l) p = StopsAt l p
StopsAt (ended n) p = ⊥
StopsAt (refused q) p = q ≡ p

-- how many tokens of a list are `{`, and how many `}`
unfoldable pub opens : List Token → ℕ
opens [] = 0
opens (t ∷ l) = bit (matches (sg lbrace) t.class) + opens l

unfoldable pub closes : List Token → ℕ
closes [] = 0
closes (t ∷ l) = bit (matches (sg rbrace) t.class) + closes l

-- "Never more than sixteen braces are open if in no front part of its tokens the `{` outnumber the `}` by more than sixteen."
abbrev pub Shallow : List Token → Type 0
Shallow l = (l₁ l₂ : List Token) → l ≡ l₁ ++ l₂ → opens l₁ ≤ closes l₁ + 16

-- What the stage answers to a text, whatever its bytes: the leftmost fault of 3, 4 and 5. Each case says that there is none before it: the
-- tokens before the place begin a list that the grammar derives, with never more than sixteen braces open.
pub data Answers (s : List ℕ) : Answer → Type 0 where
  -- no fault
  passes : Divides s → Shallow (tokens s) → Derivation (tokens s) → Answers s (Ok tt)
  -- 3: "no token; string or `/*` unended", at "its first byte"
  no_token : (p : ℕ) → StopsAt (lex_from s 0) p → Shallow (tokens s) → Begins (tokens s) → Answers s (Err (NoToken p))
  -- 4: "token the grammar does not admit", at "the token"
  not_admitted : (l : List Token) (t : Token) (r : List Token) → tokens s ≡ l ++ (t ∷ r) → Shallow l → Begins l → (Begins (l ++ (t ∷ [])) → ⊥)
      → Answers s (Err (NotAdmitted t.place))
  -- 4: "text ends early", at the "text length"
  ends_early : Divides s → Shallow (tokens s) → Begins (tokens s) → (Derivation (tokens s) → ⊥) → Answers s (Err (NotAdmitted (length s)))
  -- 5: "`{` the grammar admits, but seventeenth open", at "the `{`"
  too_deep : (l : List Token) (t : Token) (r : List Token) → tokens s ≡ l ++ (t ∷ r) → Shallow l → Begins (l ++ (t ∷ []))
      → matches (sg lbrace) t.class ≡ true → opens l ≡ closes l + 16 → Answers s (Err (TooDeep t.place))

-- "A reading accepts or gives one numbered refusal and a byte place, both fixed by the rules": these cases decide the answer. proofs/Decided has it
-- (`answers_decided`).
abbrev pub AnswersDecided : Type 0
AnswersDecided = (s : List ℕ) (r q : Answer) → Answers s r → Answers s q → r ≡ q
