-- Trees of a form in two parts. Assumes nothing.
use mathlib.Core.Path.{◌≡◌, refl, sym, ◌∙◌, ap}
use mathlib.Core.List.{List, [], ◌∷◌, ◌++◌, append_assoc}
pub use Rattle.grammar.specs.Building.{left, right}
use Rattle.grammar.specs.Grammar.{Symbol, tok, rule, Trees, nil, leaf, node, tokens}

module _ {N : Type 0} {G : N → List (Symbol N) → Type 0} where
  unfoldable pub join : {g k : List (Symbol N)} → Trees G g → Trees G k → Trees G (g ++ k)
  join nil ks = ks
  join (leaf t m ts) ks = leaf t m (join ts ks)
  join (node p us ts) ks = node p us (join ts ks)

  pub tokens_parts : (g k : List (Symbol N)) (ts : Trees G (g ++ k)) → tokens ts ≡ tokens (left g k ts) ++ tokens (right g k ts)
  unfolding tokens left right
  tokens_parts [] k ts = refl
  tokens_parts (tok a ∷ g) k (leaf t m ts) = ap (t ∷◌) (tokens_parts g k ts)
  tokens_parts (rule x ∷ g) k (node p us ts) = ap (tokens us ++◌) (tokens_parts g k ts) ∙ sym (append_assoc (tokens us) _ _)

  pub left_join : {g k : List (Symbol N)} (ts : Trees G g) (ks : Trees G k) → left g k (join ts ks) ≡ ts
  unfolding left join
  left_join nil ks = refl
  left_join (leaf t m ts) ks = ap (leaf t m) (left_join ts ks)
  left_join (node p us ts) ks = ap (node p us) (left_join ts ks)

  pub right_join : {g k : List (Symbol N)} (ts : Trees G g) (ks : Trees G k) → right g k (join ts ks) ≡ ks
  unfolding right join
  right_join nil ks = refl
  right_join (leaf t m ts) ks = right_join ts ks
  right_join (node p us ts) ks = right_join ts ks

  pub tokens_join : {g k : List (Symbol N)} (ts : Trees G g) (us : Trees G k) → tokens (join ts us) ≡ tokens ts ++ tokens us
  unfolding tokens join
  tokens_join nil us = refl
  tokens_join (leaf t m ts) us = ap (t ∷◌) (tokens_join ts us)
  tokens_join (node p vs ts) us = ap (tokens vs ++◌) (tokens_join ts us) ∙ sym (append_assoc (tokens vs) (tokens ts) (tokens us))
