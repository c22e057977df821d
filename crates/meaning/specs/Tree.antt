-- From tokens to their derivation, as a definition that computes: the tree that the grammar's machine finds. Assumes nothing.
use Rattle.std.specs.Prelude.{◌≡◌, List, [], ◌∷◌, true}
use Rattle.std.proofs.Math.Option.{Option, none, some}
use Rattle.grammar.specs.Grammar.{Token, file, ◌▸◌, ∎, ◌⟶◌, Trees}
use Rattle.grammar.specs.Factored.{Symbols, paper, ◌⟹◌}
use Rattle.grammar.specs.Machine.{Move, move, after, nullable_form, test}
use Rattle.grammar.specs.Building.{back, empty, from, lifted}

-- The trees of the symbols k without a token, if there are any.
unfoldable pub empty_trees : (k : Symbols) → Option (nullable_form k ≡ true) → Option (Trees ◌⟹◌ k)
empty_trees k none = none
empty_trees k (some h) = some (empty k h)

-- The trees of the symbols k that begin with the token t, by the move that takes it and the trees of what is left.
unfoldable pub trees_from : (t : Token) {k : Symbols} → Option (Move t.class k) → ((j : Symbols) → Option (Trees ◌⟹◌ j)) → Option (Trees ◌⟹◌ k)
trees_from t none f = none
trees_from t (some v) f = elim (f (after v)) [ none ↦ none | some ts ↦ some (back t v ts) ]

-- The trees of the symbols k that have these tokens, if there are any.
unfoldable pub trees_of : List Token → (k : Symbols) → Option (Trees ◌⟹◌ k)
trees_of [] k = empty_trees k (test (nullable_form k))
trees_of (t ∷ l) k = trees_from t (move t.class k) (λ j. trees_of l j)

-- The derivation of a list of tokens, if there is one.
unfoldable pub tree : List Token → Option (Trees ◌⟶◌ (file ▸ ∎))
tree l = elim (trees_of l (paper file ▸ ∎)) [ none ↦ none | some ts ↦ some (from ts (lifted (file ▸ ∎))) ]
