-- The tokens that a lexing has, and tokens before one. Assumes nothing.
use mathlib.Core.List.{List, [], ◌∷◌}
use Rattle.token.specs.declared.Token.{Token}
use Rattle.token.specs.Lexing.{Lexed, ended, more, refused}

-- the tokens alone
unfoldable pub tokens_of : Lexed → List Token
tokens_of (more t l) = t ∷ tokens_of l
tokens_of (ended n) = []
tokens_of (refused p) = []

-- the tokens ts before those of a list
unfoldable pub after_all : List Token → Lexed → Lexed
after_all [] l = l
after_all (t ∷ ts) l = more t (after_all ts l)
