-- The leaves of trees: in two parts, after a move, and in the factored grammar. Assumes nothing.
use mathlib.Core.Path.{◌≡◌, refl, sym, ◌∙◌, ap, ap₂}
use mathlib.Core.List.{List, [], ◌∷◌, ◌++◌, append_assoc}
use Rattle.grammar.specs.Grammar.{Form, Rule, Class, Terminal, Token, Symbol, tok, rule, ◌⟶◌, ◌·◌, ◌▸◌, ∎, number, kind, name, lbrace, rbrace, lsquare, dots, sg, semicolon, comma, rsquare, D, numbers, Trees, nil, leaf, node, tokens, an_object_alone, an_object_with, no_block, a_block, no_range, a_range, a_list, no_number, a_number}
use Rattle.grammar.specs.Factored.{Changed, object_changed, range_changed, Status, same, changed, status, Symbols, lift, ◌⟹◌, keep, object_is, range_none, range_is, one_number, up_to, many_numbers}
use Rattle.grammar.specs.Machine.{Move, take, enter, skip, after}
use Rattle.grammar.specs.Building.{left, right, back, Lifted, lifted_nil, lifted_tok, lifted_rule, lifted, from}
use Rattle.grammar.proofs.Literal.{new_node, to_node, to}
use Rattle.expecting.specs.Expected.{Leaf, under, leaves, tokens_at}

-- The leaves are those of the tokens.
pub at_append : (l m : List Leaf) → tokens_at (l ++ m) ≡ tokens_at l ++ tokens_at m
unfolding tokens_at
at_append [] m = refl
at_append (x ∷ l) m = ap (x.token ∷◌) (at_append l m)

pub tokens_leaves : {N : Type 0} {G : N → List (Symbol N) → Type 0} {f : List (Symbol N)} (ts : Trees G f) → tokens_at (leaves ts) ≡ tokens ts
unfolding tokens_at leaves tokens
tokens_leaves nil = refl
tokens_leaves (leaf t m ts) = ap (t ∷◌) (tokens_leaves ts)
tokens_leaves (node p us ts) = at_append (leaves us) (leaves ts) ∙ ap₂ ◌++◌ (tokens_leaves us) (tokens_leaves ts)

module _ {N : Type 0} {G : N → List (Symbol N) → Type 0} where
  pub leaves_parts : (g k : List (Symbol N)) (ts : Trees G (g ++ k)) → leaves ts ≡ leaves (left g k ts) ++ leaves (right g k ts)
  unfolding leaves left right
  leaves_parts [] k ts = refl
  leaves_parts (tok a ∷ g) k (leaf t m ts) = ap (under a t ∷◌) (leaves_parts g k ts)
  leaves_parts (rule x ∷ g) k (node p us ts) = ap (leaves us ++◌) (leaves_parts g k ts) ∙ sym (append_assoc (leaves us) _ _)

-- The terminal that takes the token of a move.
unfoldable pub taker : {c : Class} {k : Symbols} → Move c k → Terminal
taker (take {a} m) = a
taker (enter p v) = taker v
taker (skip e v) = taker v

pub leaves_back : (t : Token) {k : Symbols} (v : Move t.class k) (ts : Trees ◌⟹◌ (after v)) → leaves (back t v ts) ≡ under (taker v) t ∷ leaves ts
unfolding back leaves taker
leaves_back t (take m) ts = refl
leaves_back t (enter {k} p v) ts =
    ap (◌++ leaves (right (after v) k ts)) (leaves_back t v (left (after v) k ts)) ∙ ap (under (taker v) t ∷◌) (sym (leaves_parts (after v) k ts))
leaves_back t (skip e v) ts = leaves_back t v ts

-- The factored grammar's trees have the same leaves.
leaves_new : {x : Rule} {g : Form} {k : Symbols} (c : Changed x) (p : x ⟶ g) (us : Trees ◌⟹◌ (lift g)) (ts : Trees ◌⟹◌ k)
    → leaves (new_node c p us ts) ≡ leaves us ++ leaves ts
unfolding leaves new_node
leaves_new object_changed an_object_alone (leaf k m₁ (leaf n m₂ r)) ts = refl
leaves_new object_changed an_object_with (leaf k m₁ (leaf n m₂ (leaf o m₃ (node q ss (leaf c m₄ r))))) ts =
    ap (λ l. under kind k ∷ under name n ∷ under (sg lbrace) o ∷ (l ++ leaves ts)) (append_assoc (leaves ss) (under (sg rbrace) c ∷ []) (leaves r))
leaves_new range_changed no_range nil ts = refl
leaves_new range_changed a_range (leaf o m₁ (leaf n m₂ (leaf d m₃ (leaf e m₄ r)))) ts = refl
leaves_new range_changed a_list (leaf o m₁ (leaf n m₂ (node (keep no_number e) nil r))) ts = refl
leaves_new range_changed a_list (leaf o m₁ (leaf n m₂ (node (keep a_number e) vs r))) ts = refl

leaves_node : {x : Rule} {g : Form} {k : Symbols} (s : Status x) (q : status x ≡ s) (p : x ⟶ g) (us : Trees ◌⟹◌ (lift g)) (ts : Trees ◌⟹◌ k)
    → leaves (to_node s q p us ts) ≡ leaves us ++ leaves ts
unfolding leaves to_node
leaves_node same q p us ts = refl
leaves_node (changed c) q p us ts = leaves_new c p us ts

pub leaves_to : {f : Form} (ts : Trees ◌⟶◌ f) → leaves (to ts) ≡ leaves ts
unfolding leaves to
leaves_to nil = refl
leaves_to (leaf {a} t m ts) = ap (under a t ∷◌) (leaves_to ts)
leaves_to (node {x} p us ts) = leaves_node (status x) refl p (to us) (to ts) ∙ ap₂ ◌++◌ (leaves_to us) (leaves_to ts)

pub leaves_from : {k : Symbols} (ts : Trees ◌⟹◌ k) {f : Form} (h : Lifted f k) → leaves (from ts h) ≡ leaves ts
unfolding leaves from
leaves_from nil lifted_nil = refl
leaves_from (leaf {a} t m ts) (lifted_tok h) = ap (under a t ∷◌) (leaves_from ts h)
leaves_from (node (keep {g} p e) us ts) (lifted_rule h) = ap₂ ◌++◌ (leaves_from us (lifted g)) (leaves_from ts h)
leaves_from (node object_is (leaf k m₁ (leaf n m₂ (node (keep no_block e) nil r))) ts) (lifted_rule h) =
    ap₂ (λ a b. under kind k ∷ under name n ∷ (a ++ b)) (leaves_from r (lifted (D ▸ sg semicolon · ∎))) (leaves_from ts h)
leaves_from (node object_is (leaf k m₁ (leaf n m₂ (node (keep a_block e) (leaf o m₃ (node (keep {g} q e') ss (leaf c m₄ nil))) r))) ts) (lifted_rule h) =
    ap₂ (λ a b. under kind k ∷ under name n ∷ under (sg lbrace) o ∷ (a ++ b))
    (ap₂ (λ a b. a ++ (under (sg rbrace) c ∷ b)) (leaves_from ss (lifted g)) (leaves_from r (lifted (D ▸ sg semicolon · ∎)))
    ∙ sym (append_assoc (leaves ss) (under (sg rbrace) c ∷ []) (leaves r)))
    (leaves_from ts h)
leaves_from (node range_none nil ts) (lifted_rule h) = leaves_from ts h
leaves_from (node range_is (leaf o m₁ (leaf n m₂ (node one_number nil r))) ts) (lifted_rule h) =
    ap₂ (λ a b. under (sg lsquare) o ∷ under number n ∷ (a ++ b)) (leaves_from r (lifted (sg rsquare · ∎))) (leaves_from ts h)
leaves_from (node range_is (leaf o m₁ (leaf n m₂ (node up_to (leaf d m₃ (leaf e m₄ nil)) r))) ts) (lifted_rule h) =
    ap₂ (λ a b. under (sg lsquare) o ∷ under number n ∷ under (sg dots) d ∷ under number e ∷ (a ++ b)) (leaves_from r (lifted (sg rsquare · ∎))) (leaves_from ts h)
leaves_from (node range_is (leaf o m₁ (leaf n m₂ (node many_numbers vs r))) ts) (lifted_rule h) =
    ap₂ (λ a b. under (sg lsquare) o ∷ under number n ∷ (a ++ b)) (ap₂ ◌++◌ (leaves_from vs (lifted (sg comma · number · numbers ▸ ∎))) (leaves_from r (lifted (sg rsquare · ∎)))) (leaves_from ts h)
leaves_from (node {f = f} one_number us ts) h = elim h [ ]
leaves_from (node {f = f} up_to us ts) h = elim h [ ]
leaves_from (node {f = f} many_numbers us ts) h = elim h [ ]
