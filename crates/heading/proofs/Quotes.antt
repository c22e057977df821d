-- The version string of a front stands in quotes. Assumes nothing.
use mathlib.Core.Path.{◌≡◌, refl, sym, ◌∙◌, ap, subst}
use mathlib.Core.List.{List, [], ◌∷◌, ◌++◌, map}
use mathlib.Core.Bool.{Bool, true, false, false≢true}
use Prim.Native.Nat.{ℕ, ◌+◌}
use native.Mathlib.Omega.{arith}
use lib.Dec.{eqb}
use borrow.Author.Tests.{eqb-true, eq-eqb}
use Rattle.token.specs.Tokens.{step_at}
use Rattle.token.specs.declared.Sort.{Sort}
use Rattle.token.specs.declared.Token.{Token as Lexeme}
use Rattle.token.specs.declared.Cursor.{Cursor}
use Rattle.token.specs.declared.Step.TheVariants.{Found}
use Rattle.token.proofs.Steps.{found_fits}
use Rattle.locality.proofs.Pieces.{Run, go}
use Rattle.grammar.specs.Grammar.{Token, Trees, leaf, node, tokens, ◌⟶◌, matches, code, string, version_is}
use Rattle.grammar.specs.Terminals.{token_of, class_of, tokens as tokens-of}
use Rattle.grammar.specs.Readers.{code_of, class_at}
use Rattle.grammar.proofs.Codes.{not_code, in_set, class_code}
use Rattle.heading.specs.Headings.{front_form, Front, string_in}
use Rattle.heading.specs.Promises.{InQuotes}
use Rattle.heading.proofs.Looks.{string_quoted}
use Rattle.heading.proofs.Places.{found_of}

-- What matches a string has a string's code.
string_code : (k : Sort) → matches string (class_of k) ≡ true → code_of k ≡ 44
unfolding matches class_at code
string_code k h = by_code (eqb (code_of k) 44) refl
  where
    g : matches string (class_at (code_of k)) ≡ true
    g = ap (matches string) (class_code k) ∙ h

    by_code : (b : Bool) → eqb (code_of k) 44 ≡ b → code_of k ≡ 44
    by_code true e = eqb-true (code_of k) 44 e
    by_code false e =
        absurd (false≢true (sym (not_code (matches string) 44 tt (λ z. false≢true (sym e ∙ eq-eqb (code_of k) 44 z)) (in_set (matches string) (matches string) refl tt g).0) ∙ g))

-- The third token of a text, and the step that finds it.
record Third (s : List ℕ) (v : Token) : Type 0 where
  from_here : ℕ
  lexeme : Lexeme
  next : Cursor
  step : step_at s from_here ≡ Found lexeme next
  is : token_of lexeme ≡ v

third : (s : List ℕ) (q p : ℕ) (ls : List Lexeme) (o e v : Token) (ts : List Token) → map token_of ls ≡ o ∷ e ∷ v ∷ ts → Run s q p ls → Third s v
third s q p [] o e v ts h r = absurd (let z : ◌≡◌ {A = ℕ} 0 1 = cc in omega arith)
third s q p (a ∷ []) o e v ts h r = absurd (let y : ◌≡◌ {A = List Token} [] (e ∷ v ∷ ts) = cc in let z : ◌≡◌ {A = ℕ} 0 1 = cc in omega arith)
third s q p (a ∷ b ∷ []) o e v ts h r = absurd (let y : ◌≡◌ {A = List Token} [] (v ∷ ts) = cc in let z : ◌≡◌ {A = ℕ} 0 1 = cc in omega arith)
third s q p (a ∷ b ∷ x ∷ ls) o e v ts h (go _ _ c₁ _ e₁ (go _ _ c₂ _ e₂ (go _ _ c₃ _ e₃ r))) =
    record { from_here = c₂.at; lexeme = x; next = c₃; step = e₃; is = cc }

quoted_at : (s : List ℕ) (v : Token) → matches string v.class ≡ true → Third s v → InQuotes s v.place (v.place + v.length)
unfolding token_of
quoted_at s v m w =
    let x = w.lexeme in
    let k : matches string (class_of x.sort) ≡ true = ap (λ (t : Token). matches string t.class) w.is ∙ m in
    let o = found_fits s w.from_here x w.next w.step in
    let f : w.next.at ≡ x.at + x.len = omega (arith, o.next) in
    let i = string_quoted s w.from_here x w.next w.step (string_code x.sort k) in
    subst (λ (t : Token). InQuotes s t.place (t.place + t.length)) w.is (subst (λ (n : ℕ). InQuotes s x.at n) f i)

pub version_quoted : (s : List ℕ) (f : Front (tokens-of s)) → InQuotes s (string_in f.tree).place ((string_in f.tree).place + (string_in f.tree).length)
unfolding string_in tokens
version_quoted s f = by_tree f.tree f.split
  where
    by_tree : (t : Trees ◌⟶◌ front_form) → tokens-of s ≡ tokens t ++ f.behind → InQuotes s (string_in t).place ((string_in t).place + (string_in t).length)
    by_tree (node version_is (leaf o m₁ (leaf e m₂ (leaf v m₃ us))) ts) q =
        let w = found_of s (tokens (node version_is (leaf o m₁ (leaf e m₂ (leaf v m₃ us))) ts)) f.behind q in
        quoted_at s v m₃ (third s w.upto 0 w.lexemes o e v (tokens us ++ tokens ts) w.are w.steps)
