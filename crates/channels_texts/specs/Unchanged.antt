-- "No channel may depend on its neighbours" (document 02, Q-12), over lent texts (Q-10): its two statements. Assumes nothing.
use Rattle.std.specs.Prelude.{◌≡◌, List, ◌++◌, ℕ}
use Rattle.grammar.specs.Grammar.{Kind}
use Rattle.meaning.specs.Answers.{Tables, Answer, accepted}
use Rattle.sources_reading.specs.Answering.{text, Answers}
use Rattle.channels.specs.Neighbours.{key_in, SameChannel, Inside, Pairs}
use Rattle.channels_texts.specs.Lent.{InText, OfTwo, IsText}

-- The rules accept the lent texts b' with lengths l, and each channel is that of the lent texts b.
pub record LentUnchanged (b b' l : List ℕ) : Type 0 where
  pub tables : Tables
  pub accepts : Answers b' l (accepted tables)
  pub no_other : (a : Answer) → Answers b' l a → a ≡ accepted tables
  pub same : (k : Kind) (n : List ℕ) → SameChannel (text b l) (text b' l) k n

-- "exchange two neighbouring objects or parts of different ones in one file .., with no include line in or between: the text is accepted, every object
-- has the same resolved values, and each reference leads to the same kind and name." What is asked of x and y is asked of the file alone; it may be
-- included in one place, in several places, or in none.
abbrev pub LentExchange : Type 0
LentExchange =
    (P a x m y c Q l : List ℕ) (k : ℕ) (t : Tables) → Answers (P ++ ((a ++ (x ++ (m ++ (y ++ c)))) ++ Q)) l (accepted t) → IsText P (a ++ (x ++ (m ++ (y ++ c)))) l k
    → (i : InText a x m y c) → OfTwo a x m y c i
    → LentUnchanged (P ++ ((a ++ (x ++ (m ++ (y ++ c)))) ++ Q)) (P ++ ((a ++ (y ++ (m ++ (x ++ c)))) ++ Q)) l

-- "if two accepted texts, expanded, differ only between the braces of one object or part, which pair with each other in both, every other object's
-- resolved values and references are equal in both."
abbrev pub LentIsolation : Type 0
LentIsolation =
    (b l b' l' : List ℕ) (t u : Tables) → Answers b l (accepted t) → Answers b' l' (accepted u) → (a i j c : List ℕ) → text b l ≡ a ++ (i ++ c) → text b' l' ≡ a ++ (j ++ c)
    → (x : Inside a i c) → Pairs a j c → (k : Kind) (n : List ℕ) → (key_in (a ++ (i ++ c)) x.this ≡ record { kind = k; name = n } → ⊥)
    → SameChannel (text b l) (text b' l') k n
