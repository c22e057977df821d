-- How many braces words open at most: front parts by recursion, and words that stand within k open braces. Assumes nothing.
use mathlib.Core.Path.{◌≡◌, refl, ◌∙◌, ap, subst}
use mathlib.Core.List.{List, [], ◌∷◌, ◌++◌}
use mathlib.Core.Bool.{false}
use Prim.Native.Nat.{ℕ, suc, ◌+◌, ◌≤◌}
use native.Mathlib.Omega.{arith}
use Rattle.token.specs.Find.{bit}
use Rattle.grammar.specs.Grammar.{Token, matches, sg, lbrace, rbrace}
use Rattle.grammar.specs.Stage.{opens, closes, Shallow}
use Rattle.meaning.specs.Syntax.{Word}
use Rattle.meaning.specs.Actions.{word_of}
use Rattle.meaning.specs.Places.{each}
use Rattle.meaning.proofs.Unplaced.{unplaced_word, each_append}
use Rattle.reads_back.proofs.Restated.{given, opening, closing, plain_word, word_opens, word_closes, ShallowWords}

-- Front parts -------------------------------------------------------------------------------------------------------------------------------

-- Behind a `{` and b `}`, in no front part of the words l the `{` outnumber the `}` by more than sixteen.
abbrev pub Low : ℕ → ℕ → List Word → Type 0
Low a b [] = a ≤ b + 16
Low a b (w ∷ l) = (a ≤ b + 16) × Low (bit (matches (sg lbrace) w.class) + a) (bit (matches (sg rbrace) w.class) + b) l

-- Before the first word.
pub low_here : (l : List Word) (a b : ℕ) → Low a b l → a ≤ b + 16
low_here [] a b h = h
low_here (w ∷ l) a b h = h.0

-- Only how many are open counts.
pub low_shift : (l : List Word) (a b a' b' : ℕ) → a' + b ≤ a + b' → Low a b l → Low a' b' l
low_shift [] a b a' b' e h = omega arith
low_shift (w ∷ l) a b a' b' e h =
    let x = bit (matches (sg lbrace) w.class) in
    let y = bit (matches (sg rbrace) w.class) in
    let i = h.0 in
    (omega arith, low_shift l (x + a) (y + b) (x + a') (y + b') (omega arith) h.1)

-- Of a front part.
pub low_front : (l m : List Word) (a b : ℕ) → Low a b (l ++ m) → Low a b l
low_front [] m a b h = low_here m a b h
low_front (w ∷ l) m a b h = (h.0, low_front l m _ _ h.1)

-- Of what is behind a front part.
pub low_back : (l m : List Word) (a b a' b' : ℕ) → a' + (word_closes l + b) ≤ (word_opens l + a) + b' → Low a b (l ++ m) → Low a' b' m
unfolding word_opens word_closes
low_back [] m a b a' b' e h = low_shift m a b a' b' (omega arith) h
low_back (w ∷ l) m a b a' b' e h =
    let x = bit (matches (sg lbrace) w.class) in
    let y = bit (matches (sg rbrace) w.class) in
    low_back l m (x + a) (y + b) a' b' (omega arith) h.1

-- Of both.
pub low_append : (l m : List Word) (a b a' b' : ℕ) → (word_opens l + a) + b' ≤ a' + (word_closes l + b) → Low a b l → Low a' b' m → Low a b (l ++ m)
unfolding word_opens word_closes
low_append [] m a b a' b' e h k = low_shift m a' b' a b (omega arith) k
low_append (w ∷ l) m a b a' b' e h k =
    let x = bit (matches (sg lbrace) w.class) in
    let y = bit (matches (sg rbrace) w.class) in
    (h.0, low_append l m (x + a) (y + b) a' b' (omega arith) h.1 k)

low_end : (l : List Word) (a b : ℕ) → Low a b l → word_opens l + a ≤ (word_closes l + b) + 16
unfolding word_opens word_closes
low_end [] a b h = omega arith
low_end (w ∷ l) a b h =
    let x = bit (matches (sg lbrace) w.class) in
    let y = bit (matches (sg rbrace) w.class) in
    let r = low_end l (x + a) (y + b) h.1 in
    omega arith

-- From the first word on.
pub low_shallow : (l : List Word) → Low 0 0 l → ShallowWords l
low_shallow l h l₁ l₂ e = let r = low_end l₁ 0 0 (low_front l₁ l₂ 0 0 (subst (λ m. Low 0 0 m) e h)) in omega arith

-- Tokens as words ---------------------------------------------------------------------------------------------------------------------------

opens_words : (s : List ℕ) (l : List Token) → word_opens (each (plain_word s) l) ≡ opens l
unfolding word_opens opens each plain_word unplaced_word word_of
opens_words s [] = refl
opens_words s (t ∷ l) = ap (bit (matches (sg lbrace) t.class) +◌) (opens_words s l)

closes_words : (s : List ℕ) (l : List Token) → word_closes (each (plain_word s) l) ≡ closes l
unfolding word_closes closes each plain_word unplaced_word word_of
closes_words s [] = refl
closes_words s (t ∷ l) = ap (bit (matches (sg rbrace) t.class) +◌) (closes_words s l)

-- Tokens are never deeper than their words.
pub shallow_by_words : (n : List ℕ) (ts : List Token) → ShallowWords (each (plain_word n) ts) → Shallow ts
shallow_by_words n ts h l₁ l₂ e =
    let r = h (each (plain_word n) l₁) (each (plain_word n) l₂) (ap (each (plain_word n)) e ∙ each_append (plain_word n) l₁ l₂) in
    let x = opens_words n l₁ in
    let y = closes_words n l₁ in
    omega arith

low_from : (s : List ℕ) (ts : List Token) (a b : ℕ) → ((l₁ l₂ : List Token) → ts ≡ l₁ ++ l₂ → opens l₁ + a ≤ (closes l₁ + b) + 16)
    → Low a b (each (plain_word s) ts)
unfolding each plain_word unplaced_word word_of opens closes
low_from s [] a b h = let r = h [] [] refl in omega arith
low_from s (t ∷ ts) a b h =
    let x = bit (matches (sg lbrace) t.class) in
    let y = bit (matches (sg rbrace) t.class) in
    let r = h [] (t ∷ ts) refl in
    (omega arith, low_from s ts (x + a) (y + b) (λ l₁ l₂ e. let k = h (t ∷ l₁) l₂ (ap (t ∷◌) e) in omega arith))

-- The words of tokens are never deeper than the tokens.
pub tokens_low : (s : List ℕ) (ts : List Token) → Shallow ts → Low 0 0 (each (plain_word s) ts)
tokens_low s ts h = low_from s ts 0 0 (λ l₁ l₂ e. let r = h l₁ l₂ e in omega arith)

-- Words within braces -----------------------------------------------------------------------------------------------------------------------

-- Words that close the braces that they open, and are never too deep where at most k are open before them.
pub record Level (k : ℕ) (l : List Word) : Type 0 where
  pub balanced : word_opens l ≡ word_closes l
  pub low : (a b : ℕ) → a ≤ b + k → Low a b l

-- A word that is no brace.
pub record Flat (w : Word) : Type 0 where
  pub no_open : matches (sg lbrace) w.class ≡ false
  pub no_close : matches (sg rbrace) w.class ≡ false

-- The braces that two lists of words open.
pub append_opens : (l m : List Word) → word_opens (l ++ m) ≡ word_opens l + word_opens m
unfolding word_opens
append_opens [] m = omega arith
append_opens (w ∷ l) m = let r = append_opens l m in omega arith

-- The braces that two lists of words close.
pub append_closes : (l m : List Word) → word_closes (l ++ m) ≡ word_closes l + word_closes m
unfolding word_closes
append_closes [] m = omega arith
append_closes (w ∷ l) m = let r = append_closes l m in omega arith

-- No words.
pub level_none : {k : ℕ} → k ≤ 16 → Level k []
unfolding word_opens word_closes
level_none h = record { balanced = refl; low = λ a b e. omega arith }

-- Words behind words.
pub level_append : {k : ℕ} (l m : List Word) → Level k l → Level k m → Level k (l ++ m)
level_append l m p q =
    let x = p.balanced in
    let y = q.balanced in
    let u = append_opens l m in
    let v = append_closes l m in
    record { balanced = omega arith; low = λ a b e. low_append l m a b a b (omega arith) (p.low a b e) (q.low a b e) }

-- A word that is no brace, before words.
pub level_word : {k : ℕ} (w : Word) (l : List Word) → Flat w → Level k l → Level k (w ∷ l)
unfolding word_opens word_closes bit
level_word w l f p =
    let x = p.balanced in
    let u : bit (matches (sg lbrace) w.class) ≡ 0 = ap bit f.no_open in
    let v : bit (matches (sg rbrace) w.class) ≡ 0 = ap bit f.no_close in
    record { balanced = omega arith; low = λ a b e. (low_here l a b (p.low a b e), low_shift l a b _ _ (omega arith) (p.low a b e)) }

-- Words in braces, before words.
pub level_braces : {k : ℕ} (l m : List Word) → Level (suc k) l → Level k m → Level k (opening ∷ (l ++ (closing ∷ m)))
unfolding word_opens word_closes bit given matches
level_braces {k} l m p q =
    let x = p.balanced in
    let y = q.balanced in
    let u = append_opens l (closing ∷ m) in
    let v = append_closes l (closing ∷ m) in
    record {
      balanced = omega arith;
      low = λ a b e.
          let a' = 1 + a in
          let b' = 0 + b in
          let i : Low a' b' l = p.low a' b' (omega arith) in
          let j : Low (0 + a') (1 + b') m = low_shift m a b (0 + a') (1 + b') (omega arith) (q.low a b e) in
          (low_here m a b (q.low a b e), low_append l (closing ∷ m) a' b' a' b' (omega arith) i (low_here l a' b' i, j));
    }

-- Words that stand in no brace are never too deep.
pub level_shallow : (l : List Word) → Level 0 l → ShallowWords l
level_shallow l p = low_shallow l (p.low 0 0 (omega arith))
