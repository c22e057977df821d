-- What the grammar admits at a place: the terminals of document 01 that may stand after the tokens before it. Assumes nothing.
use Rattle.std.specs.Prelude.{◌≡◌, List, [], ◌∷◌, ◌++◌, true, ℕ, ltb}
use Rattle.token.specs.Find.{pick}
use Rattle.grammar.specs.Grammar.{Terminal, Token, Symbol, file, ◌▸◌, ∎, ◌⟶◌, Trees, nil, leaf, node, matches, Begins}
use Rattle.grammar.specs.Terminals.{tokens}

-- A leaf of a tree: a token, and the terminal that it stands under.
pub record Leaf : Type 0 where
  pub terminal : Terminal
  pub token : Token

abbrev pub under : Terminal → Token → Leaf
under a t = record { terminal = a; token = t }

-- the leaves of trees, in order
unfoldable pub leaves : {N : Type 0} {G : N → List (Symbol N) → Type 0} {f : List (Symbol N)} → Trees G f → List Leaf
leaves nil = []
leaves (leaf {a} t m ts) = under a t ∷ leaves ts
leaves (node p us ts) = leaves us ++ leaves ts

unfoldable pub tokens_at : List Leaf → List Token
tokens_at [] = []
tokens_at (x ∷ l) = x.token ∷ tokens_at l

-- The tokens l, followed by a token of the terminal a, begin some list that the grammar derives: it has a derivation with these leaves.
-- The leaf's terminal matters: TASK is a kind, and may be a name too.
pub record Expects (l : List Token) (a : Terminal) : Type 0 where
  pub tree : Trees ◌⟶◌ (file ▸ ∎)
  pub before : List Leaf
  pub here : Token
  pub more : List Leaf
  pub leaves_are : leaves tree ≡ before ++ (under a here ∷ more)
  pub before_is : tokens_at before ≡ l

-- the tokens before a place, of tokens in the order of their places
unfoldable pub until : ℕ → List Token → List Token
until p [] = []
until p (t ∷ l) = pick (ltb t.place p) (t ∷ until p l) []

-- what may stand at the place p of the text s
abbrev pub Expected : List ℕ → ℕ → Terminal → Type 0
Expected s p a = Expects (until p (tokens s)) a

-- In terms of tokens alone. What is expected goes on with the tokens before it, whatever token of the terminal it is; and every token that
-- goes on with them is of a terminal that is expected. proofs/Exact has both (`goes_on`, `by_terminal`).
abbrev pub GoesOn : Type 0
GoesOn = (l : List Token) (a : Terminal) (t : Token) → matches a t.class ≡ true → Expects l a → Begins (l ++ (t ∷ []))

abbrev pub ByTerminal : Type 0
ByTerminal = (l : List Token) (t : Token) → Begins (l ++ (t ∷ [])) → (a : Terminal) × (matches a t.class ≡ true) × Expects l a
