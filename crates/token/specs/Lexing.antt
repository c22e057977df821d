-- All tokens of a text from a place on.
-- Assumes nothing.
use Rattle.std.specs.Prelude.{ℕ, zero, suc, ◌-◌, List, length}
use Rattle.token.specs.Tokens.{step_at}
use Rattle.token.specs.declared.Token.{Token}
use Rattle.token.specs.declared.Step.{Step}
use Rattle.token.specs.declared.Step.TheVariants.{Found, Refused, End}

-- tokens, and then the end of the text, at its length, or refusal 3 at a place
pub data Lexed : Type 0 where
  more : Token → Lexed → Lexed
  ended : ℕ → Lexed
  refused : ℕ → Lexed

-- "A text divides wholly into tokens if each byte, taken from the left by the token rules, is in a token or an ended comment or is one of
-- the six that part tokens."
abbrev pub Divides : Lexed → Type 0
Divides (more t l) = Divides l
Divides (ended n) = Unit {0}
Divides (refused p) = ⊥

-- what a step found, and then on by k
abbrev pub after_step : Step → (ℕ → Lexed) → Lexed
after_step (Found t c) k = more t (k c.at)
after_step (Refused p) k = refused p
after_step (End n) k = ended n

-- what at most n steps from p on find
unfoldable pub lex_n : ℕ → List ℕ → ℕ → Lexed
lex_n zero s p = ended (length s)
lex_n (suc n) s p = after_step (step_at s p) (λ q. lex_n n s q)

-- what all steps from p on find: there are no more tokens than bytes, and one step finds the end
unfoldable pub lex_from : List ℕ → ℕ → Lexed
lex_from s p = lex_n (suc (length s - p)) s p
