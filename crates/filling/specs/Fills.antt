-- THE CONTRACTS of readers that also fill tables: the trees read, by their meaning, and what was done. Assumes nothing.
use Rattle.std.specs.Prelude.{◌≡◌, List, ℕ, ◌≤◌, ◌<◌}
use Rattle.grammar.specs.Grammar.{Form, Trees, tokens, ◌⟶◌}
use Rattle.grammar.specs.Machine.{Stream, prepend}
use Rattle.grammar.specs.Readers.{seen, rest, Meets}
use Rattle.grammar.specs.declared.Look.{Look}
use Rattle.meaning.specs.Syntax.{Word}
use Rattle.meaning.specs.Actions.{Parts, word_of, meaning}

-- The word w of the text s is that of the token that is seen.
pub record Seen (s : List ℕ) (a : Look) (w : Word) : Type 0 where
  pub word : w ≡ word_of s (seen a)
  pub low : a.code < 56

-- The tokens of u before v are those of trees of the form f over the text s, whose meaning has Q.
pub record Told (s : List ℕ) (f : Form) (u v : Stream) (Q : Parts f → Type 0) : Type 0 where
  pub trees : Trees ◌⟶◌ f
  pub split : u ≡ prepend (tokens trees) v
  pub holds : Q (meaning s trees)

-- A reader of the form f that, where it ends in no refusal, has read trees whose meaning has Q.
pub record Fills (e : ℕ) (f : Form) (s : List ℕ) (a b : Look) (Q : Parts f → Type 0) : Type 0 where
  pub meets : Meets e f s a b
  pub told : b.code ≤ 56 → Told s f (rest s a) (rest s b) Q

-- A reader of the form f that has done something to the state x; where it ends in no refusal, Q says what by the meaning of what it read.
pub record Walks {W S : Type 0} (Does : S → W → S → Type 0) (e : ℕ) (f : Form) (Q : W → Parts f → Type 0) (s : List ℕ) (a b : Look) (x y : S) : Type 0 where
  pub what : W
  pub does : Does x what y
  pub fills : Fills e f s a b (Q what)
