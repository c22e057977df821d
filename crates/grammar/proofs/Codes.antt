-- What is known of a code's class from tests of the code: found by computation over the 56 codes. Assumes nothing.
use mathlib.Core.Path.{◌≡◌, refl, sym, ◌∙◌, ap}
use mathlib.Core.List.{List, [], ◌∷◌}
use mathlib.Core.Bool.{Bool, true, false, not, false≢true}
use mathlib.Core.Logic.{◌⊎◌, inl, inr, ⊎_elim}
use Prim.Native.Nat.{ℕ, ◌≤◌, ◌<◌}
use native.Mathlib.Omega.{arith}
use lib.Dec.{T, ltb, leb, eqb}
use lib.ListN.{get_or, get_or-eq_default, get_or-append}
use borrow.Author.Tests.{ltb-true, ltb-false, lt-leb, ne_eqb, not-true}
use Rattle.token.specs.Find.{pick, both, either}
use Rattle.token.proofs.Tables.{up_to, below}
use Rattle.token.proofs.Find.{by_test}
use Rattle.token.specs.declared.Sort.{Sort}
use Rattle.token.specs.declared.Sort.TheVariants.{Word, Number, String, Punctuator, Float}
use Rattle.token.proofs.Bytes.{T_true}
use Rattle.grammar.specs.Grammar.{Class, matches, other, sign, name, kind, type, integer, definition, sg, lbrace, rbrace, lsquare, rsquare, equals, semicolon, colon, comma, dots}
use Rattle.grammar.specs.Factored.{paper}
use Rattle.grammar.specs.Machine.{starts}
use Rattle.grammar.specs.Terminals.{words, sign_of, class_of}
use Rattle.grammar.specs.Readers.{punctuator_code, code_of, others, classes, class_at, between}

lt_or_le : (m n : ℕ) → (m < n) ⊎ (n ≤ m)
lt_or_le m n = go (ltb m n) refl
  where
    go : (b : Bool) → ltb m n ≡ b → (m < n) ⊎ (n ≤ m)
    go true e = inl (ltb-true m n e)
    go false e = inr (ltb-false m n e)

parts : (a b : Bool) → T (both a b) → (a ≡ true) × (b ≡ true)
parts true true t = (refl, refl)
parts true false t = absurd t
parts false b t = absurd t

abbrev implies : Bool → Bool → Bool
implies a b = pick a b true

implied : (a b : Bool) → implies a b ≡ true → a ≡ true → b ≡ true
implied true b e h = e
implied false b e h = absurd (false≢true h)

unless : (a b : Bool) → either a (not b) ≡ true → a ≡ false → b ≡ false
unless true b e h = absurd (false≢true (sym h))
unless false b e h = not-true b e

abbrev alike : Bool → Bool → Bool
alike a b = pick a b (not b)

alike_is : (a b : Bool) → alike a b ≡ true → a ≡ b
alike_is true b e = sym e
alike_is false b e = sym (not-true b e)

every : (f : ℕ → Bool) → T (up_to f 56) → (n : ℕ) → n < 56 → f n ≡ true
every f t n h = T_true {b = f n} (below f 56 t n h)

-- The code n is a token's, and its class passes Q; and it fails Q if it is a token's.
abbrev pub Yes : (Class → Bool) → ℕ → Type 0
Yes Q n = (n < 56) × (Q (class_at n) ≡ true)

abbrev pub No : (Class → Bool) → ℕ → Type 0
No Q n = n < 56 → Q (class_at n) ≡ false

module _ (Q : Class → Bool) where
  pub at_code : (m : ℕ) {n : ℕ} → T (both (ltb m 56) (Q (class_at m))) → n ≡ m → Yes Q n
  at_code m t e = let p = parts (ltb m 56) (Q (class_at m)) t in rw e (ltb-true m 56 p.0, p.1)

  -- All codes that pass Q fail one of the tests: they are false here.
  abbrev pub any : List (ℕ → Bool) → ℕ → Bool
  any [] n = false
  any (t ∷ ts) n = either (t n) (any ts n)

  abbrev pub Each : List (ℕ → Bool) → ℕ → Type 0
  Each [] n = Unit {0}
  Each (t ∷ ts) n = (t n ≡ false) × Each ts n

  none : (ts : List (ℕ → Bool)) (n : ℕ) → Each ts n → any ts n ≡ false
  none [] n h = refl
  none (t ∷ ts) n h = ap (λ b. either b (any ts n)) h.0 ∙ none ts n h.1

  pub not_any : (ts : List (ℕ → Bool)) {n : ℕ} → T (up_to (λ m. either (any ts m) (not (Q (class_at m)))) 56) → Each ts n → No Q n
  not_any ts {n} t h l = unless (any ts n) (Q (class_at n)) (every (λ m. either (any ts m) (not (Q (class_at m)))) t n l) (none ts n h)

  pub not_code : (m : ℕ) {n : ℕ} → T (up_to (λ k. either (eqb k m) (not (Q (class_at k)))) 56) → (n ≡ m → ⊥) → No Q n
  not_code m {n} t h l = unless (eqb n m) (Q (class_at n)) (every (λ k. either (eqb k m) (not (Q (class_at k)))) t n l) (ne_eqb n m h)

past : (n : ℕ) → 56 ≤ n → class_at n ≡ other
unfolding class_at
past n h = get_or-eq_default classes other (let l : 55 ≤ n = omega arith in l)

module _ (Q R : Class → Bool) where
  pub in_set : Q (other) ≡ false → T (up_to (λ m. implies (Q (class_at m)) (R (class_at m))) 56) → {n : ℕ} → Q (class_at n) ≡ true → Yes R n
  in_set d t {n} h =
      ⊎_elim (λ l. (l, implied (Q (class_at n)) (R (class_at n)) (every (λ m. implies (Q (class_at m)) (R (class_at m))) t n l) h))
      (λ g. absurd (false≢true (sym (ap Q (past n g) ∙ d) ∙ h)))
      (lt_or_le n 56)

  pub not_in : T (up_to (λ m. either (Q (class_at m)) (not (R (class_at m)))) 56) → {n : ℕ} → Q (class_at n) ≡ false → No R n
  not_in t {n} h l = unless (Q (class_at n)) (R (class_at n)) (every (λ m. either (Q (class_at m)) (not (R (class_at m)))) t n l) h

-- A set of codes between two codes.
module _ (Q : Class → Bool) where
  pub is_between : (low high : ℕ) → T (both (ltb high 56) (not (Q (other)))) → T (up_to (λ m. alike (between low m high) (Q (class_at m))) 56) → (n : ℕ)
      → between low n high ≡ Q (class_at n)
  unfolding between
  is_between low high d t n =
      let p = parts (ltb high 56) (not (Q (other))) d in
      ⊎_elim (λ l. alike_is (between low n high) (Q (class_at n)) (every (λ m. alike (between low m high) (Q (class_at m))) t n l))
      (λ g. out (leb low n) (lt-leb n high (let h = ltb-true high 56 p.0 in omega arith)) ∙ sym (ap Q (past n g) ∙ not-true (Q (other)) p.1))
      (lt_or_le n 56)
    where
      out : (b : Bool) {b' : Bool} → b' ≡ false → both b b' ≡ false
      out true e = e
      out false e = refl

pub kind_is : (n : ℕ) → between 9 n 21 ≡ matches kind (class_at n)
unfolding between class_at matches
kind_is = is_between (matches kind) 9 21 tt tt

pub type_is : (n : ℕ) → between 22 n 34 ≡ matches type (class_at n)
unfolding between class_at matches
type_is = is_between (matches type) 22 34 tt tt

pub integer_is : (n : ℕ) → between 35 n 38 ≡ matches integer (class_at n)
unfolding between class_at matches
integer_is = is_between (matches integer) 35 38 tt tt

pub definition_is : (n : ℕ) → between 22 n 42 ≡ starts (paper definition) (class_at n)
unfolding between class_at starts
definition_is = is_between (starts (paper definition)) 22 42 tt tt

pub name_zero : (n : ℕ) → n ≡ 0 → true ≡ matches name (class_at n)
unfolding class_at matches
name_zero n e = rw e refl

pub name_is : (n : ℕ) → (n ≡ 0 → ⊥) → between 6 n 42 ≡ matches name (class_at n)
unfolding between class_at matches
name_is n h =
    ⊎_elim (λ l. alike_is (between 6 n 42) (matches name (class_at n)) (rest (eqb n 0) (ne_eqb n 0 h) (every (λ m. either (eqb m 0) (alike (between 6 m 42) (matches name (class_at m)))) tt n l)))
    (λ g. low (leb 6 n) (lt-leb n 42 (omega arith)) ∙ sym (ap (matches name) (past n g)))
    (lt_or_le n 56)
  where
    rest : (b : Bool) {b' : Bool} → b ≡ false → either b b' ≡ true → b' ≡ true
    rest true e f = absurd (false≢true (sym e))
    rest false e f = f

    low : (b : Bool) {b' : Bool} → b' ≡ false → both b b' ≡ false
    low true e = e
    low false e = refl

-- The braces.
pub brace_open : (n : ℕ) → n < 56 → matches (sg lbrace) (class_at n) ≡ eqb n 45
unfolding class_at matches
brace_open n l = alike_is (matches (sg lbrace) (class_at n)) (eqb n 45) (every (λ m. alike (matches (sg lbrace) (class_at m)) (eqb m 45)) tt n l)

pub brace_close : (n : ℕ) → n < 56 → matches (sg rbrace) (class_at n) ≡ eqb n 46
unfolding class_at matches
brace_close n l = alike_is (matches (sg rbrace) (class_at n)) (eqb n 46) (every (λ m. alike (matches (sg rbrace) (class_at m)) (eqb m 46)) tt n l)

-- The class of a token's code is the token's class.
punctuator_class : (b : ℕ) → class_at (punctuator_code b) ≡ sign_of b
unfolding class_at punctuator_code sign_of
punctuator_class b =
    go (eqb b 123) (eqb b 125) (eqb b 91) (eqb b 93) (eqb b 61) (eqb b 59) (eqb b 58) (eqb b 44) (eqb b 46)
  where
    go : (a b c d e f g h i : Bool)
        → class_at (pick a 45 (pick b 46 (pick c 47 (pick d 48 (pick e 49 (pick f 50 (pick g 51 (pick h 52 (pick i 53 55)))))))))
        ≡ pick a (sign lbrace) (pick b (sign rbrace) (pick c (sign lsquare) (pick d (sign rsquare) (pick e (sign equals) (pick f (sign semicolon)
        (pick g (sign colon) (pick h (sign comma) (pick i (sign dots) other))))))))
    go true b c d e f g h i = refl
    go false true c d e f g h i = refl
    go false false true d e f g h i = refl
    go false false false true e f g h i = refl
    go false false false false true f g h i = refl
    go false false false false false true g h i = refl
    go false false false false false false true h i = refl
    go false false false false false false false true i = refl
    go false false false false false false false false true = refl
    go false false false false false false false false false = refl

pub class_code : (k : Sort) → class_at (code_of k) ≡ class_of k
unfolding class_at code_of class_of
class_code (Word c) =
    by_test (λ (n : ℕ). class_at n ≡ get_or words c other) (ltb c 43) c 55
    (λ t. get_or-append words others other c (ltb-true c 43 t))
    (λ t. sym (get_or-eq_default words other (ltb-false c 43 t)))
class_code (Number n m) = refl
class_code String = refl
class_code (Punctuator b) = punctuator_class b
class_code (Float n m k) = refl
