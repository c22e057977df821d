-- The expected set, computed: the terminals that may be first in what the machine of the factored grammar has still to read. Assumes nothing.
use Rattle.std.specs.Prelude.{◌≡◌, Bool, true, ◌&&◌, ◌||◌, ◌↔◌, ℕ, zero, suc, eqb}
use mathlib.Core.List.{List, [], ◌∷◌}
use Rattle.std.proofs.Math.Bool.{false}
use Rattle.std.proofs.Math.Option.{Option, none, some}
use Rattle.grammar.specs.Grammar.{Terminal, Token, file, tok, rule, ◌▸◌, ∎}
use Rattle.grammar.specs.Terminals.{tokens}
use Rattle.grammar.specs.Factored.{Nonterminal, paper, Symbols, Choice, by, choices}
use Rattle.grammar.specs.Machine.{nullable, feed}
use Rattle.expecting.specs.Flags.{index}
use Rattle.expecting.specs.Expected.{until, Expected}

unfoldable pub same : Terminal → Terminal → Bool
unfolding index
same a b = eqb (index a) (index b)

module _ (b : Nonterminal → Bool) (a : Terminal) where
  -- whether a may be first in the symbols k, where b says it of a rule
  unfoldable pub first_with : Symbols → Bool
  unfolding same nullable
  first_with [] = false
  first_with (tok c ∷ k) = same c a
  first_with (rule x ∷ k) = b x || nullable x && first_with k

  unfoldable pub some_first : {x : Nonterminal} → List (Choice x) → Bool
  unfolding first_with
  some_first [] = false
  some_first (by {f} p ∷ cs) = first_with f || some_first cs

unfoldable pub first_within : ℕ → Terminal → Nonterminal → Bool
unfolding some_first choices
first_within zero a x = false
first_within (suc n) a x = some_first (first_within n a) a (choices x)

-- No rule leads to its first terminal through more than five others.
unfoldable pub first : Terminal → Nonterminal → Bool
unfolding first_within
first a x = first_within 6 a x

-- a may be first in what is still to be read
unfoldable pub admits : Symbols → Terminal → Bool
unfolding first_with first
admits k a = first_with (first a) a k

unfoldable pub admits_at : Option Symbols → Terminal → Bool
unfolding admits
admits_at none a = false
admits_at (some k) a = admits k a

-- what is still to be read after tokens, if the machine takes them all
abbrev pub onwards : Option Symbols → (Symbols → Option Symbols) → Option Symbols
onwards none f = none
onwards (some k) f = f k

unfoldable pub rest_after : Symbols → List Token → Option Symbols
unfolding feed
rest_after k [] = some k
rest_after k (t ∷ l) = onwards (feed k t.class) (λ j. rest_after j l)

-- a may stand after the tokens l
unfoldable pub expects : List Token → Terminal → Bool
unfolding admits_at rest_after
expects l a = admits_at (rest_after (paper file ▸ ∎) l) a

-- THE SET: a may stand at the place p of the text s.
unfoldable pub expected : List ℕ → ℕ → Terminal → Bool
unfolding expects until
expected s p a = expects (until p (tokens s)) a

-- It is exact, of any text and any place. proofs/Exact has it (`expected_exact`).
abbrev pub ExpectedExact : Type 0
ExpectedExact = (s : List ℕ) (p : ℕ) (a : Terminal) → (expected s p a ≡ true) ↔ Expected s p a
