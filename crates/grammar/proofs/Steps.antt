-- The machine, symbol by symbol; and what was read. Assumes nothing.
use mathlib.Core.Path.{◌≡◌, refl, sym, ◌∙◌, ap, ap₂}
use mathlib.Core.List.{List, [], ◌∷◌, ◌++◌, append_assoc}
use mathlib.Core.Bool.{Bool, true, false, ◌&&◌, ◌||◌, false≢true}
use mathlib.Core.Option.{Option, none, some}
use Prim.Native.Nat.{ℕ}
use Rattle.token.specs.Find.{is_there}
use Rattle.grammar.specs.Grammar.{Symbol, Terminal, Class, Token, tok, rule, ◌▸◌, ◌·◌, ∎, matches, nil, leaf, node, tokens}
use Rattle.grammar.specs.Factored.{Nonterminal, Symbols, ◌⟹◌, Choice, by, choices}
use Rattle.grammar.specs.Machine.{nullable, nullable_form, Move, after, Start, start, test, take_step, skip_step, rule_step, form_step, tries, begin, move, starts, left_of, feed, Stream, ended, ◌▹◌, prepend, deeper, at_end, next, run}
use Rattle.grammar.proofs.Checks.{takes, begin_is, clear_is}
use Rattle.grammar.specs.Readers.{Took}
use Rattle.std.specs.Prelude.{Err}
use Rattle.grammar.specs.declared.Refusal.TheVariants.{NotAdmitted}
use Rattle.grammar.proofs.Choices.{listed}
use Rattle.grammar.proofs.Splits.{join, tokens_join}
use Rattle.grammar.proofs.Uniqueness.{test_is, found, is_none}

-- The machine's step, symbol by symbol -------------------------------------------------------------------------------------------------

unfoldable pub when : Bool → Option Symbols → Option Symbols
when true o = o
when false o = none

unfoldable pub else : Option Symbols → Option Symbols → Option Symbols
else (some j) o = some j
else none o = o

unfoldable pub onto : Symbols → Option Symbols → Option Symbols
onto k none = none
onto k (some j) = some (j ++ k)

-- What is left of the rule x after a token of class c.
unfoldable pub start_left : {c : Class} {x : Nonterminal} → Option (Start c x) → Option Symbols
unfolding after
start_left none = none
start_left (some (start p v)) = some (after v)

unfoldable pub rest_of : Nonterminal → Class → Option Symbols
unfolding start_left begin
rest_of x c = start_left (begin c x)

test_none : {b : Bool} → b ≡ false → test b ≡ none
unfolding test
test_none {b = true} e = absurd (false≢true (sym e))
test_none {b = false} e = refl

pub feed_tok : (a : Terminal) (k : Symbols) (c : Class) → feed (tok a ∷ k) c ≡ when (matches a c) (some k)
unfolding feed when
feed_tok a k c = go (matches a c) refl
  where
    go : (b : Bool) → matches a c ≡ b → left_of (take_step {a = a} {k = k} (test (matches a c))) ≡ when b (some k)
    go true e = ap (λ o. left_of (take_step {a = a} {k = k} o)) (test_is e)
    go false e = ap (λ o. left_of (take_step {a = a} {k = k} o)) (test_none e)

pub feed_rule : (x : Nonterminal) (k : Symbols) (c : Class) → feed (rule x ∷ k) c ≡ else (onto k (rest_of x c)) (when (nullable x) (feed k c))
unfolding feed when else onto rest_of
feed_rule x k c = go (begin c x) (nullable x) refl (move c k)
  where
    go : (s : Option (Start c x)) (b : Bool) → nullable x ≡ b → (o : Option (Move c k))
        → left_of (rule_step s (skip_step (test (nullable x)) o)) ≡ else (onto k (start_left s)) (when b (left_of o))
    go (some (start p v)) b e o = refl
    go none true e none = ap (λ q. left_of (skip_step {c = c} {x = x} {k = k} q none)) (test_is e)
    go none true e (some v) = ap (λ q. left_of (skip_step {c = c} {x = x} {k = k} q (some v))) (test_is e)
    go none false e o = ap (λ q. left_of (skip_step {c = c} {x = x} {k = k} q o)) (test_none e)

else_onto : (k : Symbols) (s : Option Symbols) (g : Symbols) (b h : Bool) (o u : Option Symbols)
    → else (onto (g ++ k) s) (when b (else (onto k o) (when h u))) ≡ else (onto k (else (onto g s) (when b o))) (when (b && h) u)
unfolding else onto when
else_onto k (some j) g b h o u = ap some (sym (append_assoc j g k))
else_onto k none g true h (some j) u = refl
else_onto k none g true h none u = refl
else_onto k none g false h o u = refl

-- What f leaves, with k behind it; and where f can be empty, what k leaves.
pub feed_append : (f k : Symbols) (c : Class) → feed (f ++ k) c ≡ else (onto k (feed f c)) (when (nullable_form f) (feed k c))
unfolding feed nullable_form else onto when
feed_append [] k c = refl
feed_append (tok a ∷ f) k c = feed_tok a (f ++ k) c ∙ go (matches a c) ∙ ap (λ o. else (onto k o) none) (sym (feed_tok a f c))
  where
    go : (b : Bool) → when b (some (f ++ k)) ≡ else (onto k (when b (some f))) none
    go true = refl
    go false = refl
feed_append (rule x ∷ f) k c =
    feed_rule x (f ++ k) c ∙ ap (λ o. else (onto (f ++ k) (rest_of x c)) (when (nullable x) o)) (feed_append f k c)
    ∙ else_onto k (rest_of x c) f (nullable x) (nullable_form f) (feed f c) (feed k c)
    ∙ ap (λ o. else (onto k o) (when (nullable x && nullable_form f) (feed k c))) (sym (feed_rule x f c))

-- A rule whose form g takes the class leaves what g leaves.
pub takes_move : {c : Class} {k : Symbols} (o : Option (Move c k)) → is_there o ≡ true → (v : Move c k) × (o ≡ some v)
unfolding is_there
takes_move none e = absurd (false≢true e)
takes_move (some v) e = (v, refl)

pub feed_enter : {x : Nonterminal} {g : Symbols} (p : x ⟹ g) (k : Symbols) (c : Class) → takes g c ≡ true → feed (rule x ∷ k) c ≡ feed (g ++ k) c
unfolding takes feed rest_of else onto
feed_enter {x} {g} p k c h =
    let m = takes_move (move c g) h in
    let b : begin c x ≡ some (start p m.0) = begin_is c x ∙ found (clear_is x c) (listed p) m.1 in
    feed_rule x k c ∙ ap (λ s. else (onto k (start_left s)) (when (nullable x) (feed k c))) b
    ∙ sym (feed_append g k c ∙ ap (λ o. else (onto k (left_of o)) (when (nullable_form g) (feed k c))) m.1)

-- A rule that does not start with the class is passed over if it can be empty, and takes nothing if it cannot.
pub feed_pass : (x : Nonterminal) (k : Symbols) (c : Class) → starts x c ≡ false → feed (rule x ∷ k) c ≡ when (nullable x) (feed k c)
unfolding starts rest_of else onto
feed_pass x k c h = feed_rule x k c ∙ ap (λ s. else (onto k (start_left s)) (when (nullable x) (feed k c))) (is_none (begin c x) h)

-- A rule starts with what its forms take.
unfoldable pub any_takes : {x : Nonterminal} → List (Choice x) → Class → Bool
unfolding takes
any_takes [] c = false
any_takes (by {f} p ∷ cs) c = takes f c || any_takes cs c

pub starts_any : (x : Nonterminal) (c : Class) → starts x c ≡ any_takes (choices x) c
unfolding starts any_takes
starts_any x c = ap is_there (begin_is c x) ∙ go (choices x)
  where
    step : {f : Symbols} (p : x ⟹ f) (m : Option (Move c f)) (o : Option (Start c x)) → is_there (form_step p m o) ≡ (is_there m || is_there o)
    step p none o = refl
    step p (some v) o = refl

    go : (cs : List (Choice x)) → is_there (tries c (begin c) cs) ≡ any_takes cs c
    go [] = refl
    go (by {f} p ∷ cs) = step p (move c f) (tries c (begin c) cs) ∙ ap (takes f c ||◌) (go cs)

-- Runs of one symbol and more ----------------------------------------------------------------------------------------------------------

-- A terminal that does not match.
pub run_tok_no : (d : ℕ) (a : Terminal) (k : Symbols) (t : Token) (s : Stream) → matches a t.class ≡ false → run d (a · k) (t ▹ s) ≡ Err (NotAdmitted t.place)
unfolding run when next
run_tok_no d a k t s m =
    ap (λ o. next o (deeper d t.class) t.place (λ j i. run i j s)) (feed_tok a k t.class ∙ ap (λ q. when q (some k)) m)

-- A rule that none of whose forms takes the next token: passed over if it can be empty, and refused if not.
pub run_pass : (d : ℕ) (x : Nonterminal) (k : Symbols) (t : Token) (s : Stream) → nullable x ≡ true → starts x t.class ≡ false
    → run d (x ▸ k) (t ▹ s) ≡ run d k (t ▹ s)
unfolding run when
run_pass d x k t s e h =
    ap (λ o. next o (deeper d t.class) t.place (λ j i. run i j s)) (feed_pass x k t.class h ∙ ap (λ b. when b (feed k t.class)) e)

pub run_pass_end : (d : ℕ) (x : Nonterminal) (k : Symbols) (n : ℕ) → nullable x ≡ true → run d (x ▸ k) (ended n) ≡ run d k (ended n)
unfolding run nullable_form
run_pass_end d x k n e = ap (λ b. at_end (b && nullable_form k) n) e

pub run_no : (d : ℕ) (x : Nonterminal) (k : Symbols) (t : Token) (s : Stream) → nullable x ≡ false → starts x t.class ≡ false
    → run d (x ▸ k) (t ▹ s) ≡ Err (NotAdmitted t.place)
unfolding run when next
run_no d x k t s e h =
    ap (λ o. next o (deeper d t.class) t.place (λ j i. run i j s)) (feed_pass x k t.class h ∙ ap (λ b. when b (feed k t.class)) e)

pub run_no_end : (d : ℕ) (x : Nonterminal) (k : Symbols) (n : ℕ) → nullable x ≡ false → run d (x ▸ k) (ended n) ≡ Err (NotAdmitted n)
unfolding run nullable_form at_end
run_no_end d x k n e = ap (λ b. at_end (b && nullable_form k) n) e

-- A rule with one form only is read as that form, whatever comes: no look at the next token is needed.
pub nullable_append : (f k : Symbols) → nullable_form f ≡ false → nullable_form (f ++ k) ≡ false
unfolding nullable_form
nullable_append [] k h = absurd (false≢true (sym h))
nullable_append (tok a ∷ f) k h = refl
nullable_append (rule x ∷ f) k h = go (nullable x) (nullable_form f) (nullable_form (f ++ k)) h (nullable_append f k)
  where
    go : (n a b : Bool) → (n && a) ≡ false → (a ≡ false → b ≡ false) → (n && b) ≡ false
    go true a b e f = f e
    go false a b e f = refl

no_move : {c : Class} {k : Symbols} (o : Option (Move c k)) → is_there o ≡ false → left_of o ≡ none
unfolding left_of is_there
no_move none e = refl
no_move (some v) e = absurd (false≢true (sym e))

pub feed_only : {x : Nonterminal} {g : Symbols} (p : x ⟹ g) (k : Symbols) (c : Class) → choices x ≡ by p ∷ [] → nullable x ≡ false → nullable_form g ≡ false
    → feed (rule x ∷ k) c ≡ feed (g ++ k) c
unfolding feed takes when else onto any_takes
feed_only {x} {g} p k c only e h = go (takes g c) refl
  where
    go : (b : Bool) → takes g c ≡ b → feed (rule x ∷ k) c ≡ feed (g ++ k) c
    go true t = feed_enter p k c t
    go false t =
        feed_pass x k c (starts_any x c ∙ ap (λ cs. any_takes cs c) only ∙ ap (◌|| false) t) ∙ ap (λ b. when b (feed k c)) e
        ∙ sym (feed_append g k c ∙ ap₂ (λ o b. else (onto k o) (when b (feed k c))) (no_move (move c g) t) h)

-- What was read ------------------------------------------------------------------------------------------------------------------------

pub prepend_append : (l m : List Token) (s : Stream) → prepend (l ++ m) s ≡ prepend l (prepend m s)
unfolding prepend
prepend_append [] m s = refl
prepend_append (t ∷ l) m s = ap (t ▹◌) (prepend_append l m s)

module _ {N : Type 0} {G : N → List (Symbol N) → Type 0} where
  pub took_nil : (s : Stream) → Took G ∎ s s
  unfolding prepend tokens
  took_nil s = record { took = nil; split = refl }

  pub took_tok : {a : Terminal} {f : List (Symbol N)} {s s' : Stream} (t : Token) → matches a t.class ≡ true → Took G f s s' → Took G (a · f) (t ▹ s) s'
  unfolding prepend tokens
  took_tok t m r = record { took = leaf t m r.took; split = ap (t ▹◌) r.split }

  pub took_rule : {x : N} {g f : List (Symbol N)} {s s' s'' : Stream} → G x g → Took G g s s' → Took G f s' s'' → Took G (x ▸ f) s s''
  unfolding tokens
  took_rule {s''} p r q =
      record {
        took = node p r.took q.took;
        split = r.split ∙ ap (prepend (tokens r.took)) q.split ∙ sym (prepend_append (tokens r.took) (tokens q.took) s'');
      }

  pub took_then : {f g : List (Symbol N)} {s s' s'' : Stream} → Took G f s s' → Took G g s' s'' → Took G (f ++ g) s s''
  took_then {s''} r q =
      record {
        took = join r.took q.took;
        split = r.split ∙ ap (prepend (tokens r.took)) q.split ∙ sym (prepend_append (tokens r.took) (tokens q.took) s'')
            ∙ ap (λ l. prepend l s'') (sym (tokens_join r.took q.took));
      }
