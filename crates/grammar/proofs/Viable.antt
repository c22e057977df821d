-- Viable prefixes: what the machine takes begins a list that the grammar derives, and what it does not take begins none. Assumes nothing.
use mathlib.Core.Path.{◌≡◌, refl, sym, ◌∙◌, ap}
use mathlib.Core.List.{List, [], ◌∷◌, ◌++◌, append_assoc, append-nil}
use mathlib.Core.Bool.{Bool, true, false, false≢true}
use mathlib.Core.Option.{none, some}
use Prim.Native.Nat.{ℕ, zero, suc}
use Rattle.grammar.specs.Grammar.{Terminal, Class, Token, file, tok, rule, ◌▸◌, ∎, matches, sg, lbrace, rbrace, tokens, Derivation, Begins}
use Rattle.grammar.specs.Factored.{Nonterminal, paper, Symbols, ◌⟹◌, Choice, by, choices}
use Rattle.grammar.specs.Machine.{nullable_form, Move, take, enter, skip, after}
use Rattle.grammar.proofs.Choices.{all, nonterminals, listed, every, every_rule}
use Rattle.grammar.proofs.Literal.{lifted, to, from, back, tokens_to, tokens_from}
use Rattle.grammar.proofs.Uniqueness.{Whole, one_good, unique, reach, reach_sound, reach_complete, finish, nullable_of, empty, tokens_empty, some_inj, none≢some}
use Rattle.grammar.proofs.Braces.{terminal_code, opening, closing, agree}

-- Viable prefixes ---------------------------------------------------------------------------------------------------------------------------------

abbrev pub start : Symbols
start = paper file ▸ ∎

lit : {l : List Token} → Whole start l → Derivation l
lit w = record { tree = from w.trees (lifted (file ▸ ∎)); leaves = tokens_from w.trees (lifted (file ▸ ∎)) ∙ w.yield }

whole : {l : List Token} → Derivation l → Whole start l
whole d = record { trees = to d.tree; yield = tokens_to d.tree ∙ d.leaves }

pub viable : (l : List Token) {j : Symbols} → reach start l ≡ some j → Begins l
viable l {j} e =
    record { more = tokens (finish j); derivation = lit (reach_sound l (tokens (finish j)) e (record { trees = finish j; yield = refl })) }

pub not_viable : (l : List Token) → reach start l ≡ none → Begins l → ⊥
not_viable l e b = none≢some (sym e ∙ (reach_complete l b.more (one_good (paper file)) (whole b.derivation)).1)

pub derived : (l : List Token) {j : Symbols} → reach start l ≡ some j → nullable_form j ≡ true → Derivation l
derived l {j} e h = rw append-nil at (lit (reach_sound l [] e (record { trees = empty j h; yield = tokens_empty j h })))

pub not_derived : (l : List Token) {j : Symbols} → reach start l ≡ some j → nullable_form j ≡ false → Derivation l → ⊥
not_derived l {j} e h d =
    let r = reach_complete l [] (one_good (paper file)) (rw append-nil (whole d)) in
    let i : j ≡ r.0 = some_inj (sym e ∙ r.1) in
    false≢true (sym h ∙ ap nullable_form i ∙ nullable_of r.3.trees r.3.yield)

-- Any two derivations are the same.
pub one_derivation : (l : List Token) (a b : Derivation l) → a.tree ≡ b.tree
unfolding whole
one_derivation l a b =
    let u = whole a in
    let w = whole b in
    sym (back a.tree) ∙ ap (λ ts. from ts (lifted (file ▸ ∎))) (unique (one_good (paper file)) u.trees w.trees (u.yield ∙ sym w.yield)) ∙ back b.tree

-- Braces -------------------------------------------------------------------------------------------------------------------------------

-- The braces open before and behind a token, by whether it is `{` and whether it is `}`.
pub data Turn : Bool → Bool → ℕ → ℕ → Type 0 where
  turn_open : {d : ℕ} → Turn true false d (suc d)
  turn_close : {d : ℕ} → Turn false true (suc d) d
  turn_plain : {d : ℕ} → Turn false false d d

-- With d braces open each `}` of the form k has its `{` before it.
pub data Nest : ℕ → Symbols → Type 0 where
  nest_nil : {d : ℕ} → Nest d []
  nest_tok : {a : Terminal} {k : Symbols} {d e : ℕ} → Turn (opening a) (closing a) d e → Nest e k → Nest d (tok a ∷ k)
  nest_rule : {x : Nonterminal} {k : Symbols} {d : ℕ} → Nest d k → Nest d (rule x ∷ k)

-- A form closes the braces that it opens, and no other.
even_by : Bool → Bool → ℕ → (ℕ → Bool) → Bool
even_by true true e f = false
even_by true false e f = f (suc e)
even_by false true zero f = false
even_by false true (suc e) f = f e
even_by false false e f = f e

is_zero : ℕ → Bool
is_zero zero = true
is_zero (suc n) = false

even : ℕ → Symbols → Bool
unfolding is_zero even_by terminal_code
even e [] = is_zero e
even e (tok a ∷ f) = even_by (opening a) (closing a) e (λ n. even n f)
even e (rule x ∷ f) = even e f

even? : {x : Nonterminal} → Choice x → Bool
unfolding even
even? (by {f} p) = even 0 f

even_all : all (λ x. all even? (choices x)) nonterminals ≡ true
unfolding even? choices
even_all = refl

form_even : {x : Nonterminal} {g : Symbols} → x ⟹ g → even 0 g ≡ true
unfolding even?
form_even {x} p = every even? (every_rule (λ y. all even? (choices y)) even_all x) (listed p)

up : ℕ → ℕ → ℕ
up zero d = d
up (suc e) d = suc (up e d)

turn_by : (b b' : Bool) (e d : ℕ) (f : ℕ → Bool) → even_by b b' e f ≡ true → (n : ℕ) × Turn b b' (up e d) (up n d) × (f n ≡ true)
unfolding even_by up
turn_by true true e d f h = absurd (false≢true h)
turn_by true false e d f h = (suc e, turn_open, h)
turn_by false true zero d f h = absurd (false≢true h)
turn_by false true (suc e) d f h = (e, turn_close, h)
turn_by false false e d f h = (e, turn_plain, h)

even_nest : (f : Symbols) (e : ℕ) {d : ℕ} {k : Symbols} → even e f ≡ true → Nest d k → Nest (up e d) (f ++ k)
unfolding even up is_zero
even_nest [] zero h n = n
even_nest [] (suc e) h n = absurd (false≢true h)
even_nest (tok a ∷ f) e {d} h n =
    let t = turn_by (opening a) (closing a) e d (λ m. even m f) h in
    nest_tok t.1 (even_nest f t.0 t.2 n)
even_nest (rule x ∷ f) e h n = nest_rule (even_nest f e h n)

form_nest : {x : Nonterminal} {g k : Symbols} {d : ℕ} → x ⟹ g → Nest d k → Nest d (g ++ k)
unfolding up
form_nest {g} p n = even_nest g 0 (form_even p) n

pub move_nest : {c : Class} {k : Symbols} {d : ℕ} (v : Move c k) (j : Symbols) → Nest d (k ++ j)
    → (e : ℕ) × Turn (matches (sg lbrace) c) (matches (sg rbrace) c) d e × Nest e (after v ++ j)
unfolding after
move_nest {c} {d} (take {a} m) j (nest_tok {e} t n) =
    let p = agree a c m in
    (e, rw (p.0, p.1) t, n)
move_nest (skip e v) j (nest_rule n) = move_nest v j n
move_nest (enter {k} p v) j (nest_rule n) =
    let r = move_nest v (k ++ j) (form_nest p n) in
    (r.0, r.1, rw append_assoc r.2)
