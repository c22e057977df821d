-- The machine's first terminals are those of its moves. Assumes nothing.
use mathlib.Core.Path.{◌≡◌, refl, sym, ◌∙◌, ap, ap₂}
use mathlib.Core.List.{List, [], ◌∷◌}
use mathlib.Core.Bool.{Bool, true, false, ◌&&◌, ◌||◌, false≢true}
use mathlib.Core.Logic.{◌⊎◌, inl, inr}
use Prim.Native.Nat.{ℕ, zero, suc, ◌<◌}
use native.Mathlib.Omega.{arith}
use lib.Dec.{eqb_refl, eqb→eq}
use lib.ListN.{get_or}
use Rattle.token.proofs.Bytes.{T_true}
use Rattle.grammar.specs.Grammar.{Terminal, Class, tok, rule, matches, name, number, string, float, kind, type, integer, the, sg, ordinary, numeral, quoted, floating, kind_word, type_word, integer_word, word, sign, TASK, UINT32, given_code, sign_code, OIL-VERSION, IMPLEMENTATION, CPU, STRING, BOOLEAN, ENUM, FLOAT, TRUE, FALSE, AUTO, NO-DEFAULT, WITH-AUTO, lbrace, rbrace, lsquare, rsquare, equals, semicolon, colon, comma, dots, file, version, implementation, specs, spec, definitions, definition, attribute, reference, D, P, auto, mark, integer_range, numbers, boolean_range, float_range, enumerator, enumerators, default, own, integers, strings, booleans, enums, floats, application, objects, object, block, statements, statement, value}
use Rattle.grammar.specs.Factored.{Nonterminal, paper, span, Symbols, ◌⟹◌, Choice, by, choices}
use Rattle.grammar.specs.Machine.{nullable, Move, take, enter, skip}
use Rattle.grammar.proofs.Choices.{In, here, there, listed, both}
use Rattle.grammar.proofs.Braces.{true_T}
use Rattle.expecting.specs.Firsts.{same, first_with, some_first, first_within, first, admits}
use Rattle.expecting.specs.Flags.{index}
use Rattle.expecting.proofs.Leaves.{taker}

-- Terminals ----------------------------------------------------------------------------------------------------------------------------------

-- The terminals in the order of their flags.
abbrev pub terminals : List Terminal
terminals =
    name ∷ kind ∷ type ∷ integer ∷ the OIL-VERSION ∷ the IMPLEMENTATION ∷ the CPU
    ∷ the STRING ∷ the BOOLEAN ∷ the ENUM ∷ the FLOAT ∷ number ∷ string ∷ float
    ∷ the TRUE ∷ the FALSE ∷ the AUTO ∷ the NO-DEFAULT ∷ the WITH-AUTO ∷ sg lbrace ∷ sg rbrace
    ∷ sg lsquare ∷ sg rsquare ∷ sg equals ∷ sg semicolon ∷ sg colon ∷ sg comma ∷ sg dots ∷ []

pub decoded : (a : Terminal) → get_or terminals (index a) name ≡ a
unfolding index
decoded name = refl
decoded kind = refl
decoded type = refl
decoded integer = refl
decoded (the OIL-VERSION) = refl
decoded (the IMPLEMENTATION) = refl
decoded (the CPU) = refl
decoded (the STRING) = refl
decoded (the BOOLEAN) = refl
decoded (the ENUM) = refl
decoded (the FLOAT) = refl
decoded number = refl
decoded string = refl
decoded float = refl
decoded (the TRUE) = refl
decoded (the FALSE) = refl
decoded (the AUTO) = refl
decoded (the NO-DEFAULT) = refl
decoded (the WITH-AUTO) = refl
decoded (sg lbrace) = refl
decoded (sg rbrace) = refl
decoded (sg lsquare) = refl
decoded (sg rsquare) = refl
decoded (sg equals) = refl
decoded (sg semicolon) = refl
decoded (sg colon) = refl
decoded (sg comma) = refl
decoded (sg dots) = refl

pub index_low : (a : Terminal) → index a < 28
unfolding index
index_low name = omega arith
index_low kind = omega arith
index_low type = omega arith
index_low integer = omega arith
index_low (the OIL-VERSION) = omega arith
index_low (the IMPLEMENTATION) = omega arith
index_low (the CPU) = omega arith
index_low (the STRING) = omega arith
index_low (the BOOLEAN) = omega arith
index_low (the ENUM) = omega arith
index_low (the FLOAT) = omega arith
index_low number = omega arith
index_low string = omega arith
index_low float = omega arith
index_low (the TRUE) = omega arith
index_low (the FALSE) = omega arith
index_low (the AUTO) = omega arith
index_low (the NO-DEFAULT) = omega arith
index_low (the WITH-AUTO) = omega arith
index_low (sg lbrace) = omega arith
index_low (sg rbrace) = omega arith
index_low (sg lsquare) = omega arith
index_low (sg rsquare) = omega arith
index_low (sg equals) = omega arith
index_low (sg semicolon) = omega arith
index_low (sg colon) = omega arith
index_low (sg comma) = omega arith
index_low (sg dots) = omega arith

pub same_is : (a b : Terminal) → same a b ≡ true → a ≡ b
unfolding same
same_is a b e = sym (decoded a) ∙ ap (λ (n : ℕ). get_or terminals n name) (eqb→eq (index a) (index b) (true_T e)) ∙ decoded b

pub same_self : (a : Terminal) → same a a ≡ true
unfolding same
same_self a = T_true (eqb_refl (index a))

-- A class of each terminal: that of its sample.
unfoldable pub class_of_lem : Terminal → Class
class_of_lem name = ordinary
class_of_lem number = numeral
class_of_lem string = quoted
class_of_lem float = floating
class_of_lem kind = kind_word TASK
class_of_lem type = type_word TASK
class_of_lem integer = integer_word UINT32
class_of_lem (the g) = word g
class_of_lem (sg s) = sign s

pub class_matches : (a : Terminal) → matches a (class_of_lem a) ≡ true
unfolding matches class_of_lem
class_matches name = refl
class_matches number = refl
class_matches string = refl
class_matches float = refl
class_matches kind = refl
class_matches type = refl
class_matches integer = refl
class_matches (the g) = T_true (eqb_refl (given_code g))
class_matches (sg s) = T_true (eqb_refl (sign_code s))

pub or_true : (a b : Bool) → (a || b) ≡ true → (a ≡ true) ⊎ (b ≡ true)
or_true true b e = inl refl
or_true false b e = inr e

or_left : (a b : Bool) → a ≡ true → (a || b) ≡ true
or_left true b e = refl
or_left false b e = absurd (false≢true e)

or_right : (a b : Bool) → b ≡ true → (a || b) ≡ true
or_right true b e = refl
or_right false b e = e

-- First terminals ----------------------------------------------------------------------------------------------------------------------------

-- One step deeper nothing else is found.
first_is : (a : Terminal) (x : Nonterminal) → first a x ≡ some_first (first a) a (choices x)
unfolding first
first_is a (paper file) = refl
first_is a (paper version) = refl
first_is a (paper implementation) = refl
first_is a (paper specs) = refl
first_is a (paper spec) = refl
first_is a (paper definitions) = refl
first_is a (paper definition) = refl
first_is a (paper attribute) = refl
first_is a (paper reference) = refl
first_is a (paper D) = refl
first_is a (paper P) = refl
first_is a (paper auto) = refl
first_is a (paper mark) = refl
first_is a (paper integer_range) = refl
first_is a (paper numbers) = refl
first_is a (paper boolean_range) = refl
first_is a (paper float_range) = refl
first_is a (paper enumerator) = refl
first_is a (paper enumerators) = refl
first_is a (paper (default integers)) = refl
first_is a (paper (default strings)) = refl
first_is a (paper (default booleans)) = refl
first_is a (paper (default enums)) = refl
first_is a (paper (default floats)) = refl
first_is a (paper (own integers)) = refl
first_is a (paper (own strings)) = refl
first_is a (paper (own booleans)) = refl
first_is a (paper (own enums)) = refl
first_is a (paper (own floats)) = refl
first_is a (paper application) = refl
first_is a (paper objects) = refl
first_is a (paper object) = refl
first_is a (paper block) = refl
first_is a (paper statements) = refl
first_is a (paper statement) = refl
first_is a (paper value) = refl
first_is a span = refl

some_in : (b : Nonterminal → Bool) (a : Terminal) {x : Nonterminal} {g : Symbols} (p : x ⟹ g) {cs : List (Choice x)} → In (by p) cs → first_with b a g ≡ true
    → some_first b a cs ≡ true
unfolding some_first
some_in b a {g} p (here {l}) e = or_left (first_with b a g) (some_first b a l) e
some_in b a p (there {b = by {f} q} {l} m) e = or_right (first_with b a f) (some_first b a l) (some_in b a p m e)

-- The terminal of a move is one of them.
pub move_first : {c : Class} {k : Symbols} (v : Move c k) → admits k (taker v) ≡ true
unfolding admits first_with taker
move_first (take {a} m) = same_self a
move_first (enter {x} {g} {k} p v) =
    or_left (first (taker v) x) (nullable x && admits k (taker v)) (first_is (taker v) x ∙ some_in (first (taker v)) (taker v) p (listed p) (move_first v))
move_first (skip {x} {k} e v) = or_right (first (taker v) x) (nullable x && admits k (taker v)) (ap₂ ◌&&◌ e (move_first v))

-- The terminal of a move takes the token.
pub taker_matches : {c : Class} {k : Symbols} (v : Move c k) → matches (taker v) c ≡ true
unfolding taker
taker_matches (take m) = m
taker_matches (enter p v) = taker_matches v
taker_matches (skip e v) = taker_matches v

-- Each of them has a move with each class that it matches.
pub record Moves (a : Terminal) (c : Class) (k : Symbols) : Type 0 where
  pub move : Move c k
  pub by_it : taker move ≡ a

record Begun (a : Terminal) (c : Class) (x : Nonterminal) : Type 0 where
  form : Symbols
  rule_form : x ⟹ form
  moves : Moves a c form

module _ (a : Terminal) (c : Class) (m : matches a c ≡ true) where
  with_moves : (b : Nonterminal → Bool) → ((x : Nonterminal) → b x ≡ true → Begun a c x) → (k : Symbols) → first_with b a k ≡ true → Moves a c k
  unfolding first_with taker
  with_moves b f [] e = absurd (false≢true e)
  with_moves b f (tok d ∷ k) e =
      let q = same_is d a e in record { move = take (ap (λ (x : Terminal). matches x c) q ∙ m); by_it = q }
  with_moves b f (rule x ∷ k) e = go (or_true (b x) (nullable x && first_with b a k) e) (with_moves b f k)
    where
      go : (b x ≡ true) ⊎ ((nullable x && first_with b a k) ≡ true) → (first_with b a k ≡ true → Moves a c k) → Moves a c (rule x ∷ k)
      go (inl h) ih = let s = f x h in record { move = enter s.rule_form s.moves.move; by_it = s.moves.by_it }
      go (inr h) ih =
          let n = both (nullable x) (first_with b a k) h in
          let s = ih n.1 in
          record { move = skip n.0 s.move; by_it = s.by_it }

  some_begun : (b : Nonterminal → Bool) → ((x : Nonterminal) → b x ≡ true → Begun a c x) → {x : Nonterminal} (cs : List (Choice x))
      → some_first b a cs ≡ true → Begun a c x
  unfolding some_first
  some_begun b f {x} [] e = absurd (false≢true e)
  some_begun b f {x} (by {f = g} p ∷ cs) e = go (or_true (first_with b a g) (some_first b a cs) e) (some_begun b f cs)
    where
      go : (first_with b a g ≡ true) ⊎ (some_first b a cs ≡ true) → (some_first b a cs ≡ true → Begun a c x) → Begun a c x
      go (inl h) ih = record { form = g; rule_form = p; moves = with_moves b f g h }
      go (inr h) ih = ih h

  begun : (n : ℕ) (x : Nonterminal) → first_within n a x ≡ true → Begun a c x
  unfolding first_within
  begun zero x e = absurd (false≢true e)
  begun (suc n) x e = some_begun (first_within n a) (begun n) (choices x) e

  pub first_move : (k : Symbols) → admits k a ≡ true → Moves a c k
  unfolding admits first
  first_move k e = with_moves (first a) (begun 6) k e
