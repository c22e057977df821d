-- The factored grammar has the same trees as the grammar of document 01: they are carried over and back, with the same tokens. Assumes nothing.
use mathlib.Core.Path.{◌≡◌, refl, sym, ◌∙◌, ap, ap₂}
use mathlib.Core.List.{[], ◌∷◌, ◌++◌, append_assoc}
pub use Rattle.grammar.specs.Building.{Lifted, lifted_nil, lifted_tok, lifted_rule, lifted, from}
use Rattle.grammar.specs.Grammar.{Form, Rule, ◌⟶◌, ◌·◌, ◌▸◌, ∎, number, sg, semicolon, comma, rsquare, D, numbers, Trees, nil, leaf, node, tokens, an_object_alone, an_object_with, no_block, a_block, no_range, a_range, a_list, no_number, a_number}
use Rattle.grammar.specs.Factored.{Changed, object_changed, range_changed, Status, same, changed, status, is_same, kept, paper, Symbols, lift, ◌⟹◌, keep, object_is, range_none, range_is, one_number, up_to, many_numbers}

-- From the grammar's trees ---------------------------------------------------------------------------------------------------------------

unfoldable pub new_node : {x : Rule} {g : Form} {k : Symbols} → Changed x → x ⟶ g → Trees ◌⟹◌ (lift g) → Trees ◌⟹◌ k → Trees ◌⟹◌ (paper x ▸ k)
unfolding kept
new_node object_changed an_object_alone (leaf k m₁ (leaf n m₂ r)) ts = node object_is (leaf k m₁ (leaf n m₂ (node (keep no_block refl) nil r))) ts
new_node object_changed an_object_with (leaf k m₁ (leaf n m₂ (leaf o m₃ (node q ss (leaf c m₄ r))))) ts =
    node object_is (leaf k m₁ (leaf n m₂ (node (keep a_block refl) (leaf o m₃ (node q ss (leaf c m₄ nil))) r))) ts
new_node range_changed no_range nil ts = node range_none nil ts
new_node range_changed a_range (leaf o m₁ (leaf n m₂ (leaf d m₃ (leaf e m₄ r)))) ts =
    node range_is (leaf o m₁ (leaf n m₂ (node up_to (leaf d m₃ (leaf e m₄ nil)) r))) ts
new_node range_changed a_list (leaf o m₁ (leaf n m₂ (node (keep no_number e) nil r))) ts = node range_is (leaf o m₁ (leaf n m₂ (node one_number nil r))) ts
new_node range_changed a_list (leaf o m₁ (leaf n m₂ (node (keep a_number e) vs r))) ts = node range_is (leaf o m₁ (leaf n m₂ (node many_numbers vs r))) ts

unfoldable pub to_node : {x : Rule} {g : Form} {k : Symbols} (s : Status x) → status x ≡ s → x ⟶ g → Trees ◌⟹◌ (lift g) → Trees ◌⟹◌ k → Trees ◌⟹◌ (paper x ▸ k)
unfolding new_node
to_node same e p us ts = node (keep p (ap is_same e)) us ts
to_node (changed c) e p us ts = new_node c p us ts

unfoldable pub to : {f : Form} → Trees ◌⟶◌ f → Trees ◌⟹◌ (lift f)
unfolding to_node
to nil = nil
to (leaf t m ts) = leaf t m (to ts)
to (node {x} p us ts) = to_node (status x) refl p (to us) (to ts)

-- There and back -------------------------------------------------------------------------------------------------------------------------

new_back : {x : Rule} {g : Form} {k : Symbols} {f : Form} (c : Changed x) (p : x ⟶ g) (us : Trees ◌⟹◌ (lift g)) (ts : Trees ◌⟹◌ k) (h : Lifted f k)
    → from (new_node c p us ts) (lifted_rule h) ≡ node p (from us (lifted g)) (from ts h)
unfolding from new_node lifted
new_back object_changed an_object_alone (leaf k m₁ (leaf n m₂ r)) ts h = refl
new_back object_changed an_object_with (leaf k m₁ (leaf n m₂ (leaf o m₃ (node (keep q e) ss (leaf c m₄ r))))) ts h = refl
new_back range_changed no_range nil ts h = refl
new_back range_changed a_range (leaf o m₁ (leaf n m₂ (leaf d m₃ (leaf e m₄ r)))) ts h = refl
new_back range_changed a_list (leaf o m₁ (leaf n m₂ (node (keep no_number e) nil r))) ts h = refl
new_back range_changed a_list (leaf o m₁ (leaf n m₂ (node (keep a_number e) vs r))) ts h = refl

node_back : {x : Rule} {g : Form} {k : Symbols} {f : Form} (s : Status x) (q : status x ≡ s) (p : x ⟶ g) (us : Trees ◌⟹◌ (lift g)) (ts : Trees ◌⟹◌ k)
    (h : Lifted f k) → from (to_node s q p us ts) (lifted_rule h) ≡ node p (from us (lifted g)) (from ts h)
unfolding from to_node
node_back same q p us ts h = refl
node_back (changed c) q p us ts h = new_back c p us ts h

pub back : {f : Form} (ts : Trees ◌⟶◌ f) → from (to ts) (lifted f) ≡ ts
unfolding from to lifted
back nil = refl
back (leaf t m ts) = ap (leaf t m) (back ts)
back (node {x} {f} p us ts) = node_back (status x) refl p (to us) (to ts) (lifted f) ∙ ap₂ (node p) (back us) (back ts)

-- The leaves stay ------------------------------------------------------------------------------------------------------------------------

tokens_new : {x : Rule} {g : Form} {k : Symbols} (c : Changed x) (p : x ⟶ g) (us : Trees ◌⟹◌ (lift g)) (ts : Trees ◌⟹◌ k)
    → tokens (new_node c p us ts) ≡ tokens us ++ tokens ts
unfolding tokens new_node
tokens_new object_changed an_object_alone (leaf k m₁ (leaf n m₂ r)) ts = refl
tokens_new object_changed an_object_with (leaf k m₁ (leaf n m₂ (leaf o m₃ (node q ss (leaf c m₄ r))))) ts =
    ap (λ l. k ∷ n ∷ o ∷ (l ++ tokens ts)) (append_assoc (tokens ss) (c ∷ []) (tokens r))
tokens_new range_changed no_range nil ts = refl
tokens_new range_changed a_range (leaf o m₁ (leaf n m₂ (leaf d m₃ (leaf e m₄ r)))) ts = refl
tokens_new range_changed a_list (leaf o m₁ (leaf n m₂ (node (keep no_number e) nil r))) ts = refl
tokens_new range_changed a_list (leaf o m₁ (leaf n m₂ (node (keep a_number e) vs r))) ts = refl

tokens_node : {x : Rule} {g : Form} {k : Symbols} (s : Status x) (q : status x ≡ s) (p : x ⟶ g) (us : Trees ◌⟹◌ (lift g)) (ts : Trees ◌⟹◌ k)
    → tokens (to_node s q p us ts) ≡ tokens us ++ tokens ts
unfolding tokens to_node
tokens_node same q p us ts = refl
tokens_node (changed c) q p us ts = tokens_new c p us ts

pub tokens_to : {f : Form} (ts : Trees ◌⟶◌ f) → tokens (to ts) ≡ tokens ts
unfolding tokens to
tokens_to nil = refl
tokens_to (leaf t m ts) = ap (t ∷◌) (tokens_to ts)
tokens_to (node {x} p us ts) = tokens_node (status x) refl p (to us) (to ts) ∙ ap₂ ◌++◌ (tokens_to us) (tokens_to ts)

pub tokens_from : {k : Symbols} (ts : Trees ◌⟹◌ k) {f : Form} (h : Lifted f k) → tokens (from ts h) ≡ tokens ts
unfolding tokens from
tokens_from nil lifted_nil = refl
tokens_from (leaf t m ts) (lifted_tok h) = ap (t ∷◌) (tokens_from ts h)
tokens_from (node (keep {g} p e) us ts) (lifted_rule h) = ap₂ ◌++◌ (tokens_from us (lifted g)) (tokens_from ts h)
tokens_from (node object_is (leaf k m₁ (leaf n m₂ (node (keep no_block e) nil r))) ts) (lifted_rule h) =
    ap₂ (λ a b. k ∷ n ∷ (a ++ b)) (tokens_from r (lifted (D ▸ sg semicolon · ∎))) (tokens_from ts h)
tokens_from (node object_is (leaf k m₁ (leaf n m₂ (node (keep a_block e) (leaf o m₃ (node (keep {g} q e') ss (leaf c m₄ nil))) r))) ts) (lifted_rule h) =
    ap₂ (λ a b. k ∷ n ∷ o ∷ (a ++ b))
    (ap₂ (λ a b. a ++ (c ∷ b)) (tokens_from ss (lifted g)) (tokens_from r (lifted (D ▸ sg semicolon · ∎))) ∙ sym (append_assoc (tokens ss) (c ∷ []) (tokens r)))
    (tokens_from ts h)
tokens_from (node range_none nil ts) (lifted_rule h) = tokens_from ts h
tokens_from (node range_is (leaf o m₁ (leaf n m₂ (node one_number nil r))) ts) (lifted_rule h) =
    ap₂ (λ a b. o ∷ n ∷ (a ++ b)) (tokens_from r (lifted (sg rsquare · ∎))) (tokens_from ts h)
tokens_from (node range_is (leaf o m₁ (leaf n m₂ (node up_to (leaf d m₃ (leaf e m₄ nil)) r))) ts) (lifted_rule h) =
    ap₂ (λ a b. o ∷ n ∷ d ∷ e ∷ (a ++ b)) (tokens_from r (lifted (sg rsquare · ∎))) (tokens_from ts h)
tokens_from (node range_is (leaf o m₁ (leaf n m₂ (node many_numbers vs r))) ts) (lifted_rule h) =
    ap₂ (λ a b. o ∷ n ∷ (a ++ b)) (ap₂ ◌++◌ (tokens_from vs (lifted (sg comma · number · numbers ▸ ∎))) (tokens_from r (lifted (sg rsquare · ∎)))) (tokens_from ts h)
tokens_from (node {f = f} one_number us ts) h = elim h [ ]
tokens_from (node {f = f} up_to us ts) h = elim h [ ]
tokens_from (node {f = f} many_numbers us ts) h = elim h [ ]
