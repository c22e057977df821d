-- Front parts of a list of tokens. Assumes nothing.
use mathlib.Core.Path.{◌≡◌, sym, ◌∙◌, ap, subst}
use mathlib.Core.List.{List, [], ◌∷◌, ◌++◌, append_assoc, append-nil}
use mathlib.Core.Bool.{true, false}
use Prim.Native.Nat.{ℕ, ◌+◌}
use native.Mathlib.Omega.{arith}
use Rattle.token.specs.Find.{bit}
use Rattle.token.specs.Lexing.{Lexed, more, ended, refused, Divides as Wholly}
use Rattle.grammar.specs.Grammar.{Class, Token, matches, sg, lbrace, rbrace, Derivation, Begins}
use Rattle.grammar.specs.Stage.{StopsAt, opens, closes, Shallow}
use Rattle.grammar.proofs.Braces.{terminal_code, agree}
use Rattle.grammar.proofs.Runs.{opens_one, closes_one}

-- A front part of a list that begins a derivable one begins it too.
pub begins_front : (l m : List Token) → Begins (l ++ m) → Begins l
begins_front l m b = record { more = m ++ b.more; derivation = subst Derivation (append_assoc l m b.more) b.derivation }

pub shallow_front : (l m : List Token) → Shallow (l ++ m) → Shallow l
shallow_front l m h l₁ l₂ e = h l₁ (l₂ ++ m) (ap (◌++ m) e ∙ append_assoc l₁ l₂ m)

-- A derived list begins itself.
pub derived_begins : {l : List Token} → Derivation l → Begins l
derived_begins {l} d = record { more = []; derivation = subst Derivation (sym (append-nil l)) d }

-- A front part, and the token behind it.
pub one_more : (l : List Token) (t : Token) (r : List Token) → l ++ (t ∷ r) ≡ (l ++ (t ∷ [])) ++ r
one_more l t r = sym (append_assoc l (t ∷ []) r)

no_close : (c : Class) → matches (sg lbrace) c ≡ true → matches (sg rbrace) c ≡ false
unfolding terminal_code
no_close c m = (agree (sg lbrace) c m).1

-- With a seventeenth brace open a list is not shallow.
pub not_shallow : (l : List Token) (t : Token) → matches (sg lbrace) t.class ≡ true → opens l ≡ closes l + 16 → Shallow (l ++ (t ∷ [])) → ⊥
unfolding bit
not_shallow l t m o h =
    let x = ap bit m in
    let y = ap bit (no_close t.class m) in
    let z = h (l ++ (t ∷ [])) [] (sym (append-nil (l ++ (t ∷ [])))) in
    omega (arith, opens_one l t, closes_one l t)

-- Where a list stops at a refusal it does not divide wholly.
pub stops_not : (l : Lexed) (p : ℕ) → StopsAt l p → Wholly l → ⊥
unfolding StopsAt
stops_not (more t l) p h w = stops_not l p h w
stops_not (ended n) p h w = h
stops_not (refused q) p h w = w
