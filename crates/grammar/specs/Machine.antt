-- The machine of the factored grammar. Its state is a list of symbols, those still to be read; `move` takes one token's class, `run` a whole
-- text. The rules do not name it; the inner readers' contracts do, and `reading`, which computes the rules' answer. Assumes nothing.
use Rattle.std.specs.Prelude.{◌≡◌, refl, Bool, true, false, ◌&&◌, ltb, Ok, Err}
use mathlib.Core.List.{List, [], ◌∷◌, ◌++◌}
use Rattle.std.proofs.lemmas.Bool.{false≢true}
use Rattle.std.proofs.Math.Option.{Option, none, some}
use Prim.Native.Nat.{ℕ, zero, suc, pred}
use Rattle.token.specs.Find.{is_there}
use Rattle.grammar.specs.Grammar.{Terminal, Class, Token, tok, rule, matches, sg, lbrace, rbrace}
use Rattle.grammar.specs.Factored.{Nonterminal, Symbols, ◌⟹◌, Choice, by, choices}
use Rattle.grammar.specs.Answered.{Answer}
use Rattle.grammar.specs.declared.Refusal.TheVariants.{NoToken, NotAdmitted, TooDeep}

-- Rules that can be empty ------------------------------------------------------------------------------------------------------------

-- The form `nothing`, where a rule has it, is its first.
unfoldable pub has_empty : {x : Nonterminal} → List (Choice x) → Bool
has_empty [] = false
has_empty (by {f = []} p ∷ cs) = true
has_empty (by {f = s ∷ f} p ∷ cs) = false

unfoldable pub empty_of : {x : Nonterminal} (cs : List (Choice x)) → has_empty cs ≡ true → x ⟹ []
unfolding has_empty
empty_of [] e = absurd (false≢true e)
empty_of (by {f = []} p ∷ cs) e = p
empty_of (by {f = s ∷ f} p ∷ cs) e = absurd (false≢true e)

unfoldable pub nullable : Nonterminal → Bool
unfolding has_empty choices
nullable x = has_empty (choices x)

unfoldable pub empty_form : (x : Nonterminal) → nullable x ≡ true → x ⟹ []
unfolding nullable empty_of
empty_form x e = empty_of (choices x) e

-- Every symbol of the form can be empty.
unfoldable pub nullable_form : Symbols → Bool
unfolding nullable
nullable_form [] = true
nullable_form (tok a ∷ f) = false
nullable_form (rule x ∷ f) = nullable x && nullable_form f

-- Moves ------------------------------------------------------------------------------------------------------------------------------

-- How a form takes a token of class c: a terminal takes it, or a rule's form does, or a rule is empty and what follows takes it.
pub data Move (c : Class) : Symbols → Type 0 where
  take : {a : Terminal} {k : Symbols} → matches a c ≡ true → Move c (tok a ∷ k)
  enter : {x : Nonterminal} {g k : Symbols} → x ⟹ g → Move c g → Move c (rule x ∷ k)
  skip : {x : Nonterminal} {k : Symbols} → nullable x ≡ true → Move c k → Move c (rule x ∷ k)

-- The form that is left.
unfoldable pub after : {c : Class} {k : Symbols} → Move c k → Symbols
after (take {k} m) = k
after (enter {k} p v) = after v ++ k
after (skip e v) = after v

-- A rule's form that takes a token of class c.
pub data Start (c : Class) (x : Nonterminal) : Type 0 where
  start : {g : Symbols} → x ⟹ g → Move c g → Start c x

unfoldable pub test : (b : Bool) → Option (b ≡ true)
test true = some refl
test false = none

module _ {c : Class} where
  unfoldable pub take_step : {a : Terminal} {k : Symbols} → Option (matches a c ≡ true) → Option (Move c (tok a ∷ k))
  take_step none = none
  take_step (some m) = some (take m)

  unfoldable pub skip_step : {x : Nonterminal} {k : Symbols} → Option (nullable x ≡ true) → Option (Move c k) → Option (Move c (rule x ∷ k))
  skip_step none o = none
  skip_step (some e) none = none
  skip_step (some e) (some v) = some (skip e v)

  unfoldable pub rule_step : {x : Nonterminal} {k : Symbols} → Option (Start c x) → Option (Move c (rule x ∷ k)) → Option (Move c (rule x ∷ k))
  rule_step (some (start p v)) o = some (enter p v)
  rule_step none o = o

  unfoldable pub form_step : {x : Nonterminal} {f : Symbols} → x ⟹ f → Option (Move c f) → Option (Start c x) → Option (Start c x)
  form_step p (some v) o = some (start p v)
  form_step p none o = o

module _ (c : Class) where
  -- A `let` waits: what it binds is computed only if it is looked at.
  unfoldable pub move_with : ((x : Nonterminal) → Option (Start c x)) → (k : Symbols) → Option (Move c k)
  unfolding take_step skip_step rule_step test matches nullable
  move_with b [] = none
  move_with b (tok a ∷ k) = take_step (test (matches a c))
  move_with b (rule x ∷ k) = let m = move_with b k in let o = skip_step (test (nullable x)) m in rule_step (b x) o

  unfoldable pub tries : ((x : Nonterminal) → Option (Start c x)) → {x : Nonterminal} → List (Choice x) → Option (Start c x)
  unfolding move_with form_step
  tries b [] = none
  tries b (by {f} p ∷ cs) = let o = tries b cs in form_step p (move_with b f) o

  unfoldable pub begin_within : ℕ → (x : Nonterminal) → Option (Start c x)
  unfolding tries choices
  begin_within zero x = none
  begin_within (suc n) x = tries (begin_within n) (choices x)

  -- No rule leads to its first terminal through more than five others.
  unfoldable pub begin : (x : Nonterminal) → Option (Start c x)
  unfolding begin_within
  begin x = begin_within 6 x

  unfoldable pub move : (k : Symbols) → Option (Move c k)
  unfolding move_with begin
  move k = move_with begin k

-- The rule takes a token of class c by one of its forms.
unfoldable pub starts : Nonterminal → Class → Bool
unfolding begin is_there
starts x c = is_there (begin c x)

unfoldable pub left_of : {c : Class} {k : Symbols} → Option (Move c k) → Option Symbols
unfolding after
left_of none = none
left_of (some v) = some (after v)

-- What is left to be read of k after a token of class c, if it takes one.
unfoldable pub feed : Symbols → Class → Option Symbols
unfolding left_of move
feed k c = left_of (move c k)

-- Texts ------------------------------------------------------------------------------------------------------------------------------

-- A text as the token reader gives it: tokens, and then the text's end at its length, or a place at which no token is.
pub data Stream : Type 0 where
  ended : ℕ → Stream
  bad : ℕ → Stream
  ◌▹◌ : Token → Stream → Stream

infixr 65 ◌▹◌
-- the tokens l before s
unfoldable pub prepend : List Token → Stream → Stream
prepend [] s = s
prepend (t ∷ l) s = t ▹ prepend l s

-- How many braces are open after a token, of which d are before it: none where it would be the seventeenth.
unfoldable pub opened : Bool → ℕ → Option ℕ
opened true d = some (suc d)
opened false d = none

unfoldable pub deeper_by : Bool → Bool → ℕ → Option ℕ
unfolding opened
deeper_by true b d = opened (ltb d 16) d
deeper_by false true d = some (pred d)
deeper_by false false d = some d

unfoldable pub deeper : ℕ → Class → Option ℕ
unfolding deeper_by matches
deeper d c = deeper_by (matches (sg lbrace) c) (matches (sg rbrace) c) d

unfoldable pub at_end : Bool → ℕ → Answer
at_end true n = Ok tt
at_end false n = Err (NotAdmitted n)

unfoldable pub next : Option Symbols → Option ℕ → ℕ → (Symbols → ℕ → Answer) → Answer
next none o p f = Err (NotAdmitted p)
next (some k) none p f = Err (TooDeep p)
next (some k) (some d) p f = f k d

-- With d braces open and the symbols k still to be read.
unfoldable pub run : ℕ → Symbols → Stream → Answer
unfolding nullable_form at_end next feed deeper
run d k (ended n) = at_end (nullable_form k) n
run d k (bad p) = Err (NoToken p)
run d k (t ▹ s) = next (feed k t.class) (deeper d t.class) t.place (λ j e. run e j s)
