-- A token is a brace as the terminal that it matches is. Assumes nothing.
use mathlib.Core.Path.{◌≡◌, refl, sym, ap}
use mathlib.Core.Bool.{Bool, true, false, ◌&&◌, ◌||◌, not, false≢true}
use Prim.Native.Nat.{ℕ}
use lib.Dec.{eqb, eqb→eq, T}
use Rattle.grammar.specs.Grammar.{Terminal, Class, Kind, Integer, matches, sg, lbrace, rbrace, code, given_code, sign_code, is_name, name, number, string, float, kind, type, integer, the}
use Rattle.grammar.proofs.Choices.{all, classes, every_class}

unfoldable pub terminal_code : Terminal → ℕ
unfolding given_code sign_code
terminal_code name = 99
terminal_code number = 1
terminal_code string = 2
terminal_code float = 6
terminal_code kind = 3
terminal_code type = 4
terminal_code integer = 5
terminal_code (the g) = given_code g
terminal_code (sg s) = sign_code s

abbrev pub opening : Terminal → Bool
opening a = eqb 30 (terminal_code a)

abbrev pub closing : Terminal → Bool
closing a = eqb 31 (terminal_code a)

pub true_T : {b : Bool} → b ≡ true → T b
true_T e = rw e tt

-- A token is a brace as the terminal that it matches is.
is_plain_lem : Class → Bool
unfolding is_name code
is_plain_lem c = not (is_name c && (eqb 30 (code c) || eqb 31 (code c)))

plain_all : (k : Kind) (i : Integer) → all is_plain_lem (classes k i) ≡ true
unfolding is_plain_lem
plain_all k i = refl

name_plain : (n a b : Bool) → not (n && (a || b)) ≡ true → n ≡ true → (a ≡ false) × (b ≡ false)
name_plain true true b h e = absurd (false≢true h)
name_plain true false true h e = absurd (false≢true h)
name_plain true false false h e = (refl, refl)
name_plain false a b h e = absurd (false≢true e)

same_code : (m n : ℕ) → eqb m n ≡ true → (eqb 30 n ≡ eqb 30 m) × (eqb 31 n ≡ eqb 31 m)
same_code m n h = let e = eqb→eq m n (true_T h) in (ap (eqb 30) (sym e), ap (eqb 31) (sym e))

pub agree : (a : Terminal) (c : Class) → matches a c ≡ true → (matches (sg lbrace) c ≡ opening a) × (matches (sg rbrace) c ≡ closing a)
unfolding matches terminal_code is_plain_lem
agree name c h = name_plain (is_name c) (eqb 30 (code c)) (eqb 31 (code c)) (every_class is_plain_lem plain_all c) h
agree number c h = same_code 1 (code c) h
agree string c h = same_code 2 (code c) h
agree float c h = same_code 6 (code c) h
agree kind c h = same_code 3 (code c) h
agree type c h = same_code 4 (code c) h
agree integer c h = same_code 5 (code c) h
agree (the g) c h = same_code (given_code g) (code c) h
agree (sg s) c h = same_code (sign_code s) (code c) h
