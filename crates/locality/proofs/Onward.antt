-- Induction on the places of a text, from its end: what holds at p if it holds at all places after p holds everywhere. Assumes nothing.
use Prim.Native.Nat.{ℕ, zero, suc, ◌+◌, ◌≤◌, ◌<◌}
use mathlib.Core.Path.{◌≡◌, refl, sym, subst}
use mathlib.Core.List.{List}
use native.Mathlib.Omega.{arith}
use lib.ListN.{length}
use Rattle.token.specs.Tokens.{step_at}
use Rattle.token.specs.Lexing.{Lexed, more, ended, refused, lex_from}
use Rattle.token.specs.declared.Cursor.{Cursor}
use Rattle.token.specs.declared.Token.{Token}
use Rattle.token.specs.declared.Step.{Step}
use Rattle.token.specs.declared.Step.TheVariants.{Found, Refused, End}
use Rattle.token.proofs.Steps.{TokenFits, found_fits, lex_found, lex_bad, lex_end}

module _ (n : ℕ) (P : ℕ → Type 0) (f : (p : ℕ) → ((q : ℕ) → p < q → q ≤ n → P q) → P p) where
  within : (k p : ℕ) → n ≤ p + k → P p
  within zero p h = f p (λ q l m. absurd (omega arith))
  within (suc k) p h = f p (λ q l m. within k q (omega arith))

  -- at every place
  pub onward : (p : ℕ) → P p
  onward p = within n p (omega arith)

-- what holds of all tokens from p on, if it holds of a token and those after it, of a refusal, and of the end
module _ (s : List ℕ) (P : ℕ → Lexed → Type 0)
    (found : (p : ℕ) (t : Token) (c : Cursor) → step_at s p ≡ Found t c → TokenFits s p t c → P c.at (lex_from s c.at) → P p (more t (lex_from s c.at)))
    (bad : (p q : ℕ) → step_at s p ≡ Refused q → P p (refused q)) (end : (p n : ℕ) → step_at s p ≡ End n → P p (ended n)) where
  by_step : (p : ℕ) → ((q : ℕ) → p < q → q ≤ length s → P q (lex_from s q)) → (r : Step) → step_at s p ≡ r → P p (lex_from s p)
  by_step p f (Found t c) e =
      let o = found_fits s p t c e in
      subst (P p) (sym (lex_found s p t c e)) (found p t c e o (f c.at (omega arith) o.inside))
  by_step p f (Refused q) e = subst (P p) (sym (lex_bad s p q e)) (bad p q e)
  by_step p f (End n) e = subst (P p) (sym (lex_end s p n e)) (end p n e)

  -- from every place on
  pub reading : (p : ℕ) → P p (lex_from s p)
  reading = onward (length s) (λ (p : ℕ). P p (lex_from s p)) (λ p f. by_step p f (step_at s p) refl)
