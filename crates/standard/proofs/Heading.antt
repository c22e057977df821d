-- The implementation's name is the token behind the word IMPLEMENTATION. Assumes nothing.
use mathlib.Core.Path.{◌≡◌, sym, ◌∙◌, ap, subst}
use mathlib.Core.List.{List, [], ◌∷◌, ◌++◌}
use Prim.Native.Nat.{ℕ, ◌+◌, ◌<◌}
use native.Mathlib.Omega.{arith}
use Rattle.grammar.specs.Grammar.{Token, file, ◌▸◌, ∎, ◌⟶◌, Trees, nil, leaf, node, tokens, file_is, implementation_is}
use Rattle.grammar.specs.Terminals.{token_of}
use Rattle.meaning.specs.Syntax.{through, File}
use Rattle.meaning.specs.Actions.{word_of, means, meaning, syntax}
use Rattle.scopes.specs.declared.Item.{Item}
use Rattle.scopes.specs.Items.{item_at}
use Rattle.scopes.specs.Situations.{Situation}
use Rattle.scopes.proofs.Chains.{StepTo, Chain, text_chain, chain_front, chain_back, step_on, step_self, step_next, step_item, item_at_lem}
use Rattle.standard.specs.Heads.{NamesAt}

-- What a step finds stands at the token's place.
step_at : (s : List ℕ) (p : ℕ) (t : Token) → StepTo s p t → (item_at s p).at ≡ t.place
unfolding token_of
step_at s p t h =
    let x = h.lexeme in
    let c = h.cursor in
    let a : x.at ≡ t.place = ap (λ (y : Token). y.place) h.is in
    ap (λ (z : Item). z.at) (step_item s p x c h.finds) ∙ item_at_lem x.sort x.at c.at ∙ a

record Behind (s : List ℕ) (f : File) : Type 0 where
  name : (item_at s (item_at s f.implementation.place).next).at ≡ f.implementation_name.place
  low : 0 < f.implementation_name.place

tree_behind : (s : List ℕ) (t : Trees ◌⟶◌ (file ▸ ∎)) → Chain s 0 (tokens t) → Behind s (syntax s t)
unfolding syntax meaning means tokens through word_of
tree_behind s (node file_is (node v vs (node implementation_is (leaf i _ (leaf x _ (leaf b _ (node p us (leaf e _ (node q ds (leaf c _ nil))))))) ts)) nil) k =
    let l = e ∷ (tokens ds ++ (c ∷ [])) in
    let m = i ∷ x ∷ b ∷ (tokens us ++ l) in
    let k₁ = chain_back s 0 (tokens vs) (m ++ tokens ts) (chain_front s 0 (tokens vs ++ (m ++ tokens ts)) [] k) in
    let k₂ = chain_front s k₁.from m (tokens ts) k₁.chain in
    let n = step_next s i.place i (step_self s k₁.from i k₂.0) in
    let o = step_on s k₁.from i k₂.0 in
    let y = step_on s (i.place + i.length) x k₂.1.0 in
    let o₁ = o.1 in
    let y₀ = y.0 in
    record {
      name = ap (λ (j : ℕ). (item_at s j).at) n ∙ step_at s (i.place + i.length) x k₂.1.0;
      low = omega (arith, o₁, y₀);
    }

behind : {s : List ℕ} {f : File} → Situation s f → Behind s f
behind {s} t = subst (Behind s) (sym t.syntax_of) (tree_behind s t.derivation.tree (subst (Chain s 0) (sym t.derivation.leaves) (text_chain s)))

pub names_at : (s : List ℕ) (p : ℕ) (i n : Item) → i ≡ item_at s p → n ≡ item_at s i.next → NamesAt s p n.at
names_at s p i n e h f t q =
    let b = behind t in
    let w : n.at ≡ f.implementation_name.place =
    ap (λ (z : Item). z.at) h ∙ ap (λ (z : Item). (item_at s z.next).at) (e ∙ ap (item_at s) q) ∙ b.name in
    let l = b.low in
    (w, omega (arith, w, l))
