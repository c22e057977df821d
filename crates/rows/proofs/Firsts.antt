-- Comparing names: where the first bytes are the same the rest decides, and a part is the same as itself.
-- Assumes nothing.
use Prim.Native.Nat.{ℕ}
use mathlib.Core.Path.{◌≡◌, refl, sym, ◌∙◌, ap₂}
use mathlib.Core.Bool.{true}
use mathlib.Core.List.{List, [], ◌∷◌}
use native.Mathlib.Omega.{arith}
use lib.ListN.{length, get_or, drop}
use Rattle.token.specs.Words.{same}
use Rattle.token.specs.Tokens.{part_of}
use Rattle.token.proofs.Codes.{same_next, same_self}

pub rest_decides : (a b : List ℕ) → length a ≡ length b → get_or a 0 0 ≡ get_or b 0 0 → same (drop 1 a) (drop 1 b) ≡ same a b
rest_decides [] [] n e = refl
rest_decides [] (y ∷ b) n e = absurd (omega arith)
rest_decides (x ∷ a) [] n e = absurd (omega arith)
rest_decides (x ∷ a) (y ∷ b) n e = sym (same_next (x ∷ a) (y ∷ b) 0 0 0 (omega arith) (omega arith) e)

-- A part is the same as itself.
pub same_part_self : (s : List ℕ) (at len at₂ len₂ : ℕ) → at ≡ at₂ → len ≡ len₂ → true ≡ same (part_of s at len) (part_of s at₂ len₂)
same_part_self s at len at₂ len₂ p q = sym (same_self (part_of s at len)) ∙ ap₂ (λ a n. same (part_of s at len) (part_of s a n)) p q
