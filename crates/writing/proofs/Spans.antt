-- The implementation of a text and the CPU's name stand in it. Assumes nothing.
use mathlib.Core.Path.{◌≡◌, sym, ap, subst}
use mathlib.Core.List.{List, [], ◌∷◌, ◌++◌}
use Prim.Native.Nat.{ℕ, ◌+◌, ◌≤◌}
use native.Mathlib.Omega.{arith}
use lib.ListN.{length}
use Rattle.token.specs.Tokens.{part_of}
use Rattle.token.proofs.Steps.{found_fits}
use Rattle.grammar.specs.Grammar.{Token, file, ◌▸◌, ∎, ◌⟶◌, Trees, nil, leaf, node, tokens, file_is, implementation_is}
use Rattle.grammar.specs.Terminals.{token_of}
use Rattle.meaning.specs.Syntax.{through, File}
use Rattle.meaning.specs.Actions.{word_of, means, meaning, syntax}
use Rattle.meaning.specs.Normal.{part}
use Rattle.blocks.proofs.Files.{AllIn, part_inside, words_of, file_in, in_back}
use Rattle.meaning.proofs.Sites.{spec_words, object_words}
use Rattle.scopes.specs.Situations.{Situation}
use Rattle.scopes.proofs.Chains.{StepTo, Chain, text_chain, chain_front, chain_back}

step_inside : (s : List ℕ) (p : ℕ) (t : Token) → StepTo s p t → t.place + t.length ≤ length s
unfolding token_of
step_inside s p t h =
    let o = found_fits s p h.lexeme h.cursor h.finds in
    let a : h.lexeme.at ≡ t.place = ap (λ (x : Token). x.place) h.is in
    let b : h.lexeme.len ≡ t.length = ap (λ (x : Token). x.length) h.is in
    let x = o.next in
    let y = o.inside in
    omega (arith, a, b, x, y)

tree_inside : (s : List ℕ) (t : Trees ◌⟶◌ (file ▸ ∎)) → Chain s 0 (tokens t) → (syntax s t).implementation.place + (syntax s t).implementation.length ≤ length s
unfolding syntax meaning means tokens through word_of
tree_inside s (node file_is (node v vs (node implementation_is (leaf i _ (leaf x _ (leaf b _ (node p us (leaf e _ (node q ds (leaf c _ nil))))))) ts)) nil) k =
    let l = e ∷ (tokens ds ++ (c ∷ [])) in
    let m = i ∷ x ∷ b ∷ (tokens us ++ l) in
    let k₁ = chain_back s 0 (tokens vs) (m ++ tokens ts) (chain_front s 0 (tokens vs ++ (m ++ tokens ts)) [] k) in
    let k₂ = chain_front s k₁.from m (tokens ts) k₁.chain in
    let k₃ = chain_back s (b.place + b.length) (tokens us) l k₂.1.1.1 in
    let k₄ = chain_back s (e.place + e.length) (tokens ds) (c ∷ []) k₃.chain.1 in
    let a = step_inside s k₁.from i k₂.0 in
    let z = step_inside s k₄.from c k₄.chain.0 in
    omega (arith, a, z)

module _ {s : List ℕ} {f : File} (t : Situation s f) where
  inside : f.implementation.place + f.implementation.length ≤ length s
  inside =
      subst (λ (g : File). g.implementation.place + g.implementation.length ≤ length s) (sym t.syntax_of)
      (tree_inside s t.derivation.tree (subst (Chain s 0) (sym t.derivation.leaves) (text_chain s)))

  pub implementation_part : part_of s f.implementation.place f.implementation.length ≡ part s f.implementation
  unfolding part
  implementation_part = part_inside s f.implementation.place f.implementation.length inside

  pub cpu_part : part_of s f.cpu.place f.cpu.length ≡ f.cpu.bytes
  unfolding words_of
  cpu_part =
      let w : AllIn s (words_of f) = subst (λ (g : File). AllIn s (words_of g)) (sym t.syntax_of) (file_in s t.derivation) in
      sym (in_back s (spec_words f.specs) (f.cpu ∷ object_words f.parts) w).0.bytes
