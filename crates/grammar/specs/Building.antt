-- From tokens to trees, as definitions that compute: what the machine's moves build, and how a tree of the factored grammar is carried over to the
-- grammar of document 01. `reading` computes with them (crates/meaning/specs/Tree.antt); the rules themselves do not name them. Assumes nothing.
use Rattle.std.specs.Prelude.{◌≡◌, refl, List, [], ◌∷◌, ◌++◌, Bool, true, false, ◌&&◌}
use Rattle.std.proofs.lemmas.Bool.{false≢true}
use Rattle.grammar.specs.Grammar.{Form, Rule, Symbol, Terminal, Token, tok, rule, ◌⟶◌, ◌·◌, ◌▸◌, ∎, number, sg, semicolon, comma, rsquare, D, numbers, Trees, nil, leaf, node, an_object_alone, an_object_with, no_block, a_block, no_range, a_range, a_list, no_number, a_number}
use Rattle.grammar.specs.Factored.{paper, Symbols, lift, ◌⟹◌, keep, object_is, range_none, range_is, one_number, up_to, many_numbers}
use Rattle.grammar.specs.Machine.{nullable, empty_form, nullable_form, Move, take, enter, skip, after}

-- Trees of a form in two parts.
module _ {N : Type 0} {G : N → List (Symbol N) → Type 0} where
  unfoldable pub left : (g k : List (Symbol N)) → Trees G (g ++ k) → Trees G g
  left [] k ts = nil
  left (tok a ∷ g) k (leaf t m ts) = leaf t m (left g k ts)
  left (rule x ∷ g) k (node p us ts) = node p us (left g k ts)

  unfoldable pub right : (g k : List (Symbol N)) → Trees G (g ++ k) → Trees G k
  right [] k ts = ts
  right (tok a ∷ g) k (leaf t m ts) = right g k ts
  right (rule x ∷ g) k (node p us ts) = right g k ts

-- A move and the trees of what is left make trees.
unfoldable pub back : (t : Token) {k : Symbols} (v : Move t.class k) → Trees ◌⟹◌ (after v) → Trees ◌⟹◌ k
unfolding after left right empty_form
back t (take m) ts = leaf t m ts
back t (enter {k} p v) ts = node p (back t v (left (after v) k ts)) (right (after v) k ts)
back t (skip e v) ts = node (empty_form _ e) nil (back t v ts)

pub and_parts : (a b : Bool) → (a && b) ≡ true → (a ≡ true) × (b ≡ true)
and_parts true true e = (refl, refl)
and_parts true false e = (refl, e)
and_parts false true e = (e, refl)
and_parts false false e = (e, e)

-- The trees of symbols that may have no token, without one.
unfoldable pub empty : (k : Symbols) → nullable_form k ≡ true → Trees ◌⟹◌ k
unfolding nullable_form
empty [] h = nil
empty (tok a ∷ k) h = absurd (false≢true h)
empty (rule x ∷ k) h = node (empty_form x (and_parts (nullable x) (nullable_form k) h).0) nil (empty k (and_parts (nullable x) (nullable_form k) h).1)

-- The symbols k are those of the form f.
pub data Lifted : Form → Symbols → Type 0 where
  lifted_nil : Lifted [] []
  lifted_tok : {a : Terminal} {f : Form} {k : Symbols} → Lifted f k → Lifted (tok a ∷ f) (tok a ∷ k)
  lifted_rule : {x : Rule} {f : Form} {k : Symbols} → Lifted f k → Lifted (rule x ∷ f) (rule (paper x) ∷ k)

unfoldable pub lifted : (f : Form) → Lifted f (lift f)
lifted [] = lifted_nil
lifted (tok a ∷ f) = lifted_tok (lifted f)
lifted (rule x ∷ f) = lifted_rule (lifted f)

unfoldable pub from : {k : Symbols} → Trees ◌⟹◌ k → {f : Form} → Lifted f k → Trees ◌⟶◌ f
from nil lifted_nil = nil
from (leaf t m ts) (lifted_tok h) = leaf t m (from ts h)
from (node (keep {g} p e) us ts) (lifted_rule h) = node p (from us (lifted g)) (from ts h)
from (node object_is (leaf k m₁ (leaf n m₂ (node (keep no_block e) nil r))) ts) (lifted_rule h) =
    node an_object_alone (leaf k m₁ (leaf n m₂ (from r (lifted (D ▸ sg semicolon · ∎))))) (from ts h)
from (node object_is (leaf k m₁ (leaf n m₂ (node (keep a_block e) (leaf o m₃ (node (keep {g} q e') ss (leaf c m₄ nil))) r))) ts) (lifted_rule h) =
    node an_object_with (leaf k m₁ (leaf n m₂ (leaf o m₃ (node q (from ss (lifted g)) (leaf c m₄ (from r (lifted (D ▸ sg semicolon · ∎)))))))) (from ts h)
from (node range_none nil ts) (lifted_rule h) = node no_range nil (from ts h)
from (node range_is (leaf o m₁ (leaf n m₂ (node one_number nil r))) ts) (lifted_rule h) =
    node a_list (leaf o m₁ (leaf n m₂ (node no_number nil (from r (lifted (sg rsquare · ∎)))))) (from ts h)
from (node range_is (leaf o m₁ (leaf n m₂ (node up_to (leaf d m₃ (leaf e m₄ nil)) r))) ts) (lifted_rule h) =
    node a_range (leaf o m₁ (leaf n m₂ (leaf d m₃ (leaf e m₄ (from r (lifted (sg rsquare · ∎))))))) (from ts h)
from (node range_is (leaf o m₁ (leaf n m₂ (node many_numbers vs r))) ts) (lifted_rule h) =
    node a_list (leaf o m₁ (leaf n m₂ (node a_number (from vs (lifted (sg comma · number · numbers ▸ ∎))) (from r (lifted (sg rsquare · ∎)))))) (from ts h)
from (node {f = f} one_number us ts) h = elim h [ ]
from (node {f = f} up_to us ts) h = elim h [ ]
from (node {f = f} many_numbers us ts) h = elim h [ ]
