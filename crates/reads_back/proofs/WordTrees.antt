-- Trees over unplaced words: what a form derives of words, whatever text they stand in. Assumes nothing.
use mathlib.Core.Path.{◌≡◌, refl, sym, ◌∙◌, ap, ap₂, subst, subst₂}
use mathlib.Core.List.{List, [], ◌∷◌, ◌++◌, head_d, tail}
use mathlib.Core.Bool.{true}
use Prim.Native.Nat.{ℕ}
use native.Mathlib.Omega.{arith}
use lib.ListN.{length}
use Rattle.grammar.specs.Grammar.{Token, Terminal, matches, Rule, rule, tok, Form, ∎, ◌⟶◌, Trees, nil, leaf, node, tokens}
use Rattle.meaning.specs.Syntax.{Word}
use Rattle.meaning.specs.Actions.{word_of, Parts, means, meaning}
use Rattle.meaning.specs.Places.{each}
use Rattle.meaning.proofs.Unplaced.{unplaced_word, each_append}
use Rattle.reads_back.proofs.Restated.{plain_word}
use Rattle.reads_back.proofs.Unplacing.{bare_parts, means_bare}

-- The form f derives the words ws, and its parts mean m.
pub data WordTrees : (f : Form) → List Word → Parts f → Type 0 where
  word_nil : WordTrees ∎ [] tt
  word_leaf : {a : Terminal} {f : Form} {ws : List Word} {m : Parts f} (w : Word) → matches a w.class ≡ true → WordTrees f ws m
      → WordTrees (tok a ∷ f) (w ∷ ws) (w, m)
  word_node : {x : Rule} {g f : Form} {us ws : List Word} {m : Parts g} {k : Parts f} (p : x ⟶ g) → WordTrees g us m → WordTrees f ws k
      → WordTrees (rule x ∷ f) (us ++ ws) (means p m, k)

-- Of trees -----------------------------------------------------------------------------------------------------------------------------------

-- The trees of a text, over its words.
pub lifted : {f : Form} (s : List ℕ) (t : Trees ◌⟶◌ f) → WordTrees f (each (plain_word s) (tokens t)) (bare_parts f (meaning s t))
unfolding each tokens meaning bare_parts plain_word unplaced_word word_of
lifted s nil = word_nil
lifted s (leaf t h ts) = word_leaf (plain_word s t) h (lifted s ts)
lifted {f = rule x ∷ f} s (node {g = g} p us ts) =
    subst₂ (λ l m. WordTrees (rule x ∷ f) l m)
    (sym (each_append (plain_word s) (tokens us) (tokens ts)))
    (ap (λ m. (m, bare_parts f (meaning s ts))) (means_bare p (meaning s us)))
    (word_node p (lifted s us) (lifted s ts))

-- To trees -----------------------------------------------------------------------------------------------------------------------------------

-- Some tokens in two parts, of which the words are us and ws.
record Parted (n : List ℕ) (ts : List Token) (us ws : List Word) : Type 0 where
  before : List Token
  after : List Token
  whole : ts ≡ before ++ after
  before_words : each (plain_word n) before ≡ us
  after_words : each (plain_word n) after ≡ ws

-- Trees of the form f over the tokens ts of the text n, whose parts mean m.
pub record PlantedAs (n : List ℕ) (f : Form) (ts : List Token) (m : Parts f) : Type 0 where
  pub tree : Trees ◌⟶◌ f
  pub leaves : tokens tree ≡ ts
  pub meaning_is : bare_parts f (meaning n tree) ≡ m

heads : {A : Type 0} {a b : A} {l m : List A} → a ∷ l ≡ b ∷ m → a ≡ b
unfolding head_d
heads {b} e = ap (λ l. head_d l b) e

tails : {A : Type 0} {a b : A} {l m : List A} → a ∷ l ≡ b ∷ m → l ≡ m
tails e = ap tail e

parted : (n : List ℕ) (ts : List Token) (us ws : List Word) → each (plain_word n) ts ≡ us ++ ws → Parted n ts us ws
unfolding each
parted n ts [] ws e = record { before = []; after = ts; whole = refl; before_words = refl; after_words = e }
parted n [] (u ∷ us) ws e = let z : 0 ≡ length (u ∷ (us ++ ws)) = ap length e in absurd (omega arith)
parted n (t ∷ ts) (u ∷ us) ws e =
    let r = parted n ts us ws (tails e) in
    record {
      before = t ∷ r.before;
      after = r.after;
      whole = ap (t ∷◌) r.whole;
      before_words = ap₂ ◌∷◌ (heads e) r.before_words;
      after_words = r.after_words;
    }

planted_leaf : {a : Terminal} {f : Form} {m : Parts f} (n : List ℕ) (t : Token) (ts : List Token) (w : Word) → matches a w.class ≡ true
    → plain_word n t ≡ w → PlantedAs n f ts m → PlantedAs n (tok a ∷ f) (t ∷ ts) (w, m)
unfolding tokens meaning bare_parts plain_word unplaced_word word_of
planted_leaf {a} {f} n t ts w h e r = record {
  tree = leaf t (ap (λ (u : Word). matches a u.class) e ∙ h) r.tree;
  leaves = ap (t ∷◌) r.leaves;
  meaning_is = ap₂ (λ u k. (u, k)) e r.meaning_is;
}

planted_node : {x : Rule} {g f : Form} {m : Parts g} {k : Parts f} (n : List ℕ) (p : x ⟶ g) (us ts : List Token) → PlantedAs n g us m → PlantedAs n f ts k
    → PlantedAs n (rule x ∷ f) (us ++ ts) (means p m, k)
unfolding tokens meaning bare_parts
planted_node n p us ts r q = record {
  tree = node p r.tree q.tree;
  leaves = ap₂ ◌++◌ r.leaves q.leaves;
  meaning_is = ap₂ (λ u v. (u, v)) (sym (means_bare p (meaning n r.tree)) ∙ ap (means p) r.meaning_is) q.meaning_is;
}

-- Where tokens have the words of trees, there are such trees over them.
pub planted : {f : Form} {ws : List Word} {m : Parts f} → WordTrees f ws m → (n : List ℕ) (ts : List Token) → each (plain_word n) ts ≡ ws → PlantedAs n f ts m
unfolding each tokens meaning bare_parts
planted word_nil n [] e = record { tree = nil; leaves = refl; meaning_is = refl }
planted word_nil n (t ∷ ts) e = let z : length (each (plain_word n) (t ∷ ts)) ≡ 0 = ap length e in absurd (omega arith)
planted (word_leaf {ws = ws} w h r) n [] e = let z : 0 ≡ length (w ∷ ws) = ap length e in absurd (omega arith)
planted (word_leaf w h r) n (t ∷ ts) e = planted_leaf n t ts w h (heads e) (planted r n ts (tails e))
planted (word_node {x = x} {f = f} {us = us} {ws = ws} {m = m} {k = k} p u r) n ts e =
    let c = parted n ts us ws e in
    subst (λ l. PlantedAs n (rule x ∷ f) l (means p m, k)) (sym c.whole)
    (planted_node n p c.before c.after (planted u n c.before c.before_words) (planted r n c.after c.after_words))
