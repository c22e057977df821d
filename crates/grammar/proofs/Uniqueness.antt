-- Trees by their first token: a tree that has one is its move, and the trees of what is left. So at most one tree has given tokens. Assumes nothing.
use mathlib.Core.Path.{◌≡◌, refl, sym, ◌∙◌, ap, ap₂, subst, path_j}
use mathlib.Core.List.{List, [], ◌∷◌, ◌++◌, append_assoc, append-nil}
use mathlib.Core.Bool.{Bool, true, false, ◌&&◌, ◌||◌, not, false≢true, Bool-set}
use mathlib.Core.Option.{Option, none, some}
use Prim.Native.Nat.{ℕ, zero, suc}
use native.Mathlib.Omega.{arith}
use lib.Dec.{eqb_refl}
use Rattle.token.specs.Find.{is_there}
use Rattle.token.proofs.Bytes.{T_true}
pub use Rattle.grammar.specs.Building.{back, empty}
use Rattle.grammar.specs.Building.{and_parts}
use Rattle.grammar.specs.Grammar.{Symbol, Terminal, Class, Token, Kind, Integer, tok, rule, matches, Trees, nil, leaf, node, tokens, name, number, string, float, kind, type, integer, the, sg, ordinary, numeral, quoted, floating, kind_word, type_word, integer_word, word, sign, OS, UINT32, given_code, sign_code}
use Rattle.grammar.specs.Factored.{Nonterminal, Symbols, ◌⟹◌, Choice, by, choices}
use Rattle.grammar.specs.Machine.{has_empty, empty_of, nullable, empty_form, nullable_form, Move, take, enter, skip, after, Start, start, test, take_step, skip_step, rule_step, form_step, tries, begin, move, starts, left_of, feed}
use Rattle.grammar.proofs.Checks.{takes, begin_is, none_takes, clear, clear_is, follows, apart, apart_is, implies, link, linked, linked?, linked_all, not_nullable?, proper, proper_is}
use Rattle.grammar.proofs.Choices.{In, here, there, listed, all, nonterminals, classes, both, every, every_rule, every_class}
use Rattle.grammar.proofs.Splits.{left, right, join, tokens_parts, left_join, right_join}

-- A move and the trees of what is left make trees ------------------------------------------------------------------------------------

pub tokens_back : (t : Token) {k : Symbols} (v : Move t.class k) (ts : Trees ◌⟹◌ (after v)) → tokens (back t v ts) ≡ t ∷ tokens ts
unfolding back tokens
tokens_back t (take m) ts = refl
tokens_back t (enter {k} p v) ts =
    ap (◌++ tokens (right (after v) k ts)) (tokens_back t v (left (after v) k ts)) ∙ ap (t ∷◌) (sym (tokens_parts (after v) k ts))
tokens_back t (skip e v) ts = tokens_back t v ts

-- Trees _⟹_ without a token --------------------------------------------------------------------------------------------------------------

pub cons≢[] {ℓ} : {A : Type ℓ} {a : A} {l : List A} → a ∷ l ≡ [] → ⊥
cons≢[] e = let z : ◌≡◌ {A = ℕ} 0 1 = cc in omega arith

append_nothing : {A : Type 0} (a b : List A) → a ++ b ≡ [] → (a ≡ []) × (b ≡ [])
append_nothing [] b e = (refl, e)
append_nothing (x ∷ a) b e = absurd (cons≢[] e)

and_true : {a b : Bool} → a ≡ true → b ≡ true → (a && b) ≡ true
and_true p q = ap₂ ◌&&◌ p q

not_false : (b : Bool) → not b ≡ true → b ≡ true → ⊥
not_false true h e = false≢true h
not_false false h e = false≢true e

-- A form `nothing` is the rule's first, and no other form is nullable-form.
one_empty_of : {x : Nonterminal} (p : x ⟹ []) {cs : List (Choice x)} → proper cs ≡ true → In (by p) cs → (e : has_empty cs ≡ true) × (p ≡ empty_of cs e)
unfolding has_empty empty_of proper
one_empty_of p h here = (refl, refl)
one_empty_of p h (there {b = by {f = []} q} m) = absurd (false≢true (every not_nullable? h m))
one_empty_of p h (there {b = by {f = s ∷ f} q} {l} m) = absurd (false≢true (every not_nullable? (both (not (nullable_form (s ∷ f))) (all not_nullable? l) h).1 m))

one_empty : {x : Nonterminal} (p : x ⟹ []) → (e : nullable x ≡ true) × (p ≡ empty_form x e)
unfolding nullable empty_form
one_empty {x} p = one_empty_of p (proper_is x) (listed p)

not_nullable_of : {x : Nonterminal} {s : Symbol Nonterminal} {f : Symbols} (p : x ⟹ s ∷ f) {cs : List (Choice x)} → proper cs ≡ true → In (by p) cs → not (nullable_form (s ∷ f)) ≡ true
unfolding proper not_nullable?
not_nullable_of {s} {f} p h (here {l}) = (both (not (nullable_form (s ∷ f))) (all not_nullable? l) h).0
not_nullable_of p h (there {b = by {f = []} q} m) = every not_nullable? h m
not_nullable_of p h (there {b = by {f = s' ∷ f'} q} {l} m) = every not_nullable? (both (not (nullable_form (s' ∷ f'))) (all not_nullable? l) h).1 m

not_nullable : {x : Nonterminal} {s : Symbol Nonterminal} {f : Symbols} → x ⟹ s ∷ f → nullable_form (s ∷ f) ≡ true → ⊥
not_nullable {x} {s} {f} p = not_false (nullable_form (s ∷ f)) (not_nullable_of p (proper_is x) (listed p))

form_empty : {x : Nonterminal} (g : Symbols) → x ⟹ g → nullable_form g ≡ true → nullable x ≡ true
form_empty [] p h = (one_empty p).0
form_empty (s ∷ g) p h = absurd (not_nullable p h)

pub nullable_of : {k : Symbols} (ts : Trees ◌⟹◌ k) → tokens ts ≡ [] → nullable_form k ≡ true
unfolding tokens nullable_form
nullable_of nil h = refl
nullable_of (leaf t m ts) h = absurd (cons≢[] h)
nullable_of (node {x} {g} {f} p us ts) h =
    let e = append_nothing (tokens us) (tokens ts) h in
    and_true (form_empty g p (nullable_of us e.0)) (nullable_of ts e.1)

-- Where the trees under a rule have no token, its form is `nothing`.
empty_node : {x : Nonterminal} {g k : Symbols} (p : x ⟹ g) (us : Trees ◌⟹◌ g) (ts : Trees ◌⟹◌ k) → tokens us ≡ [] → (e : nullable x ≡ true) × (node p us ts ≡ node (empty_form x e) nil ts)
unfolding tokens
empty_node p nil ts h = ((one_empty p).0, ap (λ q. node q nil ts) (one_empty p).1)
empty_node p (leaf t m us) ts h = absurd (cons≢[] h)
empty_node p (node q vs us) ts h = absurd (not_nullable p (nullable_of (node q vs us) h))

-- A form has at most one tree list without a token, and has one if it is nullable-form.
pub empty_unique : {k : Symbols} (ts us : Trees ◌⟹◌ k) → tokens ts ≡ [] → tokens us ≡ [] → ts ≡ us
unfolding tokens
empty_unique nil nil h h' = refl
empty_unique (leaf t m ts) (leaf u n us) h h' = absurd (cons≢[] h)
empty_unique (node {x} p vs ts) (node q ws us) h h' =
    let e = append_nothing (tokens vs) (tokens ts) h in
    let e' = append_nothing (tokens ws) (tokens us) h' in
    let b = empty_node p vs ts e.0 in
    let b' = empty_node q ws us e'.0 in
    b.1 ∙ ap₂ (λ n rest. node (empty_form x n) nil rest) (Bool-set (nullable x) true b.0 b'.0) (empty_unique ts us e.1 e'.1) ∙ sym b'.1

pub tokens_empty : (k : Symbols) (h : nullable_form k ≡ true) → tokens (empty k h) ≡ []
unfolding empty tokens
tokens_empty [] h = refl
tokens_empty (tok a ∷ k) h = absurd (false≢true h)
tokens_empty (rule x ∷ k) h = tokens_empty k (and_parts (nullable x) (nullable_form k) h).1

-- Trees _⟹_ with a token -----------------------------------------------------------------------------------------------------------------

-- Trees _⟹_ have no token, or are a move and the trees of what is left.
pub data Seen {k : Symbols} (ts : Trees ◌⟹◌ k) : Type 0 where
  still : tokens ts ≡ [] → Seen ts
  moved : (t : Token) (v : Move t.class k) (us : Trees ◌⟹◌ (after v)) → ts ≡ back t v us → Seen ts

seen_node : {x : Nonterminal} {g k : Symbols} (p : x ⟹ g) (us : Trees ◌⟹◌ g) (ts : Trees ◌⟹◌ k) → Seen us → Seen ts → Seen (node p us ts)
unfolding back tokens
seen_node p us ts (moved t v r e) s =
    moved t (enter p v) (join r ts) (ap₂ (node p) (e ∙ ap (back t v) (sym (left_join r ts))) (sym (right_join r ts)))
seen_node p us ts (still h) (still h') = still (ap₂ ◌++◌ h h')
seen_node {x} p us ts (still h) (moved t v r e) =
    let b = empty_node p us ts h in
    moved t (skip b.0 v) r (b.1 ∙ ap (node (empty_form x b.0) nil) e)

pub seen : {k : Symbols} (ts : Trees ◌⟹◌ k) → Seen ts
unfolding back tokens
seen nil = still refl
seen (leaf t m ts) = moved t (take m) ts refl
seen (node p us ts) = seen_node p us ts (seen us) (seen ts)

-- The machine finds each move of a good form -------------------------------------------------------------------------------------------

test_some : (b : Bool) → is_there (test b) ≡ b
unfolding test is_there
test_some true = refl
test_some false = refl

pub test_is : {b : Bool} (e : b ≡ true) → test b ≡ some e
unfolding test
test_is {b = true} e = ap some (Bool-set true true refl e)
test_is {b = false} e = absurd (false≢true e)

module _ (c : Class) (x : Nonterminal) (k : Symbols) where
  skips : (o : Option (nullable x ≡ true)) (m : Option (Move c k)) → is_there (skip_step {x = x} o m) ≡ (is_there o && is_there m)
  unfolding skip_step is_there
  skips none m = refl
  skips (some e) none = refl
  skips (some e) (some v) = refl

  steps : (s : Option (Start c x)) (o : Option (Move c (rule x ∷ k))) → is_there (rule_step s o) ≡ (is_there s || is_there o)
  unfolding rule_step is_there
  steps none o = refl
  steps (some (start p v)) o = refl

pub takes_tok : (a : Terminal) (k : Symbols) (c : Class) → takes (tok a ∷ k) c ≡ matches a c
unfolding takes
takes_tok a k c = go (test (matches a c)) ∙ test_some (matches a c)
  where
    go : (o : Option (matches a c ≡ true)) → is_there (take_step {a = a} {k = k} o) ≡ is_there o
    go none = refl
    go (some m) = refl

pub takes_rule : (x : Nonterminal) (k : Symbols) (c : Class) → takes (rule x ∷ k) c ≡ (starts x c || nullable x && takes k c)
unfolding takes starts
takes_rule x k c =
    steps c x k (begin c x) (skip_step (test (nullable x)) (move c k))
    ∙ ap (starts x c ||◌) (skips c x k (test (nullable x)) (move c k) ∙ ap (◌&& takes k c) (test_some (nullable x)))

pub takes_append : (f j : Symbols) (c : Class) → takes (f ++ j) c ≡ (takes f c || nullable_form f && takes j c)
unfolding nullable_form takes
takes_append [] j c = refl
takes_append (tok a ∷ f) j c = takes_tok a (f ++ j) c ∙ sym (takes_tok a f c) ∙ or_nothing (takes (tok a ∷ f) c)
  where
    or_nothing : (b : Bool) → b ≡ (b || false && takes j c)
    or_nothing true = refl
    or_nothing false = refl
takes_append (rule x ∷ f) j c =
    takes_rule x (f ++ j) c ∙ ap (λ b. starts x c || nullable x && b) (takes_append f j c)
    ∙ regroup (starts x c) (nullable x) (takes f c) (nullable_form f) (takes j c)
    ∙ ap (λ b. b || (nullable x && nullable_form f) && takes j c) (sym (takes_rule x f c))
  where
    regroup : (s n t h u : Bool) → (s || n && (t || h && u)) ≡ ((s || n && t) || (n && h) && u)
    regroup true n t h u = refl
    regroup false true t h u = refl
    regroup false false t h u = refl

-- A form is good if what follows each of its nonterminals may stand behind it.
pub data Good : Symbols → Type 0 where
  good_nil : Good []
  good_tok : {a : Terminal} {k : Symbols} → Good k → Good (tok a ∷ k)
  good_rule : {x : Nonterminal} {k : Symbols} → ((c : Class) → takes k c ≡ true → follows x c ≡ true) → Good k → Good (rule x ∷ k)

link_good : (x y : Nonterminal) (f j : Symbols) (c : Class) → link x y f c ≡ true → (takes j c ≡ true → follows x c ≡ true) → takes (f ++ j) c ≡ true → follows y c ≡ true
unfolding link implies
link_good x y f j c l fol h = go (takes f c) (nullable_form f) (takes j c) (follows x c) (follows y c) l fol (sym (takes_append f j c) ∙ h)
  where
    go : (t h u a b : Bool) → (implies t b && implies (h && a) b) ≡ true → (u ≡ true → a ≡ true) → (t || h && u) ≡ true → b ≡ true
    go t h u a true l fol e = refl
    go true h u a false l fol e = l
    go false true true a false l fol e = sym (ap (λ a. implies a false) (fol refl)) ∙ l
    go false true false a false l fol e = e
    go false false u a false l fol e = e

linked_good : (x : Nonterminal) (f : Symbols) {j : Symbols} → ((k : Kind) (i : Integer) → linked k i x f ≡ true)
    → ((c : Class) → takes j c ≡ true → follows x c ≡ true) → Good j → Good (f ++ j)
unfolding linked
linked_good x [] l fol g = g
linked_good x (tok a ∷ f) l fol g = good_tok (linked_good x f l fol g)
linked_good x (rule y ∷ f) {j} l fol g =
    good_rule
    (λ c. link_good x y f j c (every_class (link x y f) (λ k i. (both (all (link x y f) (classes k i)) (linked k i x f) (l k i)).0) c) (fol c))
    (linked_good x f (λ k i. (both (all (link x y f) (classes k i)) (linked k i x f) (l k i)).1) fol g)

form_linked : {x : Nonterminal} {g : Symbols} → x ⟹ g → (k : Kind) (i : Integer) → linked k i x g ≡ true
unfolding linked?
form_linked {x} p k i = every (linked? k i) (every_rule (λ y. all (linked? k i) (choices y)) (linked_all k i) x) (listed p)

-- A good form stays so where one of its rule's forms takes the rule's place, and so does what a move leaves.
pub form_good : {x : Nonterminal} {g k : Symbols} → x ⟹ g → Good (rule x ∷ k) → Good (g ++ k)
form_good {x} {g} p (good_rule fol h) = linked_good x g (form_linked p) fol h

pub one_good : (x : Nonterminal) → Good (rule x ∷ [])
unfolding takes
one_good x = good_rule (λ c h. absurd (false≢true h)) good_nil

alone_good : {x : Nonterminal} {g : Symbols} → x ⟹ g → Good g
alone_good {x} {g} p = rw append-nil at (form_good p (one_good x))

pub after_good : {c : Class} {k : Symbols} (v : Move c k) (j : Symbols) → Good (k ++ j) → Good (after v ++ j)
unfolding after
after_good (take m) j (good_tok h) = h
after_good (skip e v) j (good_rule fol h) = after_good v j h
after_good (enter {k} p v) j h = rw append_assoc (after_good v (k ++ j) (form_good p h))

pub is_none : {A : Type 0} (o : Option A) → is_there o ≡ false → o ≡ none
unfolding is_there
is_none none e = refl
is_none (some a) e = absurd (false≢true (sym e))

is_it : {A : Type 0} {o : Option A} {a : A} → o ≡ some a → is_there o ≡ true
unfolding is_there
is_it e = ap is_there e

pub move_takes : {c : Class} {k : Symbols} {v : Move c k} → move c k ≡ some v → takes k c ≡ true
unfolding takes
move_takes e = is_it e

-- Of the forms of a rule the one that takes the class is the one that is found.
none_found : (c : Class) {x : Nonterminal} {g : Symbols} {p : x ⟹ g} {cs : List (Choice x)} → none_takes cs c ≡ true → In (by p) cs → takes g c ≡ true → ⊥
unfolding none_takes
none_found c {g} h (here {l}) e = not_false (takes g c) (both (not (takes g c)) (none_takes l c) h).0 e
none_found c h (there {b = by {f} q} {l} m) e = none_found c (both (not (takes f c)) (none_takes l c) h).1 m e

not_both : (a b : Bool) → (not a || b) ≡ true → (b ≡ true → ⊥) → a ≡ false
not_both true b h n = absurd (n h)
not_both false b h n = refl

pub found : {c : Class} {x : Nonterminal} {g : Symbols} {p : x ⟹ g} {v : Move c g} {cs : List (Choice x)} → clear cs c ≡ true → In (by p) cs
    → move c g ≡ some v → tries c (begin c) cs ≡ some (start p v)
unfolding clear tries move
found {c} {p} h (here {l}) e = ap (λ o. form_step p o (tries c (begin c) l)) e
found {c} {g} h (there {b = by {f} q} {l} m) e =
    let hs = both (not (takes f c) || none_takes l c) (clear l c) h in
    let t = not_both (takes f c) (none_takes l c) hs.0 (λ n. none_found c n m (move_takes e)) in
    ap (λ o. form_step q o (tries c (begin c) l)) (is_none (move c f) t) ∙ found hs.1 m e

not_starts : (n s f : Bool) → not (n && s && f) ≡ true → n ≡ true → f ≡ true → s ≡ false
not_starts n true f h p q = absurd (not_false (n && true && f) h (ap₂ (λ a b. a && true && b) p q))
not_starts n false f h p q = refl

pub complete : {c : Class} {k : Symbols} → Good k → (v : Move c k) → move c k ≡ some v
unfolding move apart
complete g (take m) = ap take_step (test_is m)
complete {c} (good_rule {k} fol h) (skip {x} e v) =
    let m = complete h v in
    let b = is_none (begin c x) (not_starts (nullable x) (starts x c) (follows x c) (apart_is x c) e (fol c (move_takes m))) in
    ap₂ (λ s o. rule_step s (skip_step (test (nullable x)) o)) b m ∙ ap (λ o. skip_step o (some v)) (test_is e)
complete {c} (good_rule {k} fol h) (enter {x} p v) =
    ap (λ s. rule_step s (skip_step (test (nullable x)) (move c k))) (begin_is c x ∙ found (clear_is x c) (listed p) (complete (alone_good p) v))

-- At most one tree list of a good form has given tokens --------------------------------------------------------------------------------

pub move_unique : {c : Class} {k : Symbols} → Good k → (v w : Move c k) → v ≡ w
move_unique g v w = let p = complete g v in let q = complete g w in cc

again : {k : Symbols} (t : Token) (l : List Token) {v w : Move t.class k} → v ≡ w → (ts : Trees ◌⟹◌ (after v)) (us : Trees ◌⟹◌ (after w))
    → ((a b : Trees ◌⟹◌ (after v)) → tokens a ≡ l → tokens b ≡ l → a ≡ b) → tokens ts ≡ l → tokens us ≡ l → back t v ts ≡ back t w us
again {k} t l {v} e =
    path_j (λ w p. (ts : Trees ◌⟹◌ (after v)) (us : Trees ◌⟹◌ (after w)) → ((a b : Trees ◌⟹◌ (after v)) → tokens a ≡ l → tokens b ≡ l → a ≡ b)
    → tokens ts ≡ l → tokens us ≡ l → back t v ts ≡ back t w us)
    (λ ts us ih p q. ap (back t v) (ih ts us p q)) e

-- THE KEY: trees whose first token is t are a move with t, and trees of what is left with the other tokens.
pub record Forth {k : Symbols} (ts : Trees ◌⟹◌ k) (t : Token) (l : List Token) : Type 0 where
  pub by_move : Move t.class k
  pub rest : Trees ◌⟹◌ (after by_move)
  pub same : ts ≡ back t by_move rest
  pub rest_tokens : tokens rest ≡ l

pub forth : {k : Symbols} (ts : Trees ◌⟹◌ k) (t : Token) (l : List Token) → tokens ts ≡ t ∷ l → Forth ts t l
forth ts t l e = go (seen ts)
  where
    go : Seen ts → Forth ts t l
    go (still h) = absurd (cons≢[] (sym e ∙ h))
    go (moved u v us q) =
        let p : u ∷ tokens us ≡ t ∷ l = sym (tokens_back u v us) ∙ sym (ap tokens q) ∙ e in
        let first : u ≡ t = cc in
        let others : tokens us ≡ l = cc in
        subst (λ w. Forth ts w l) first (record { by_move = v; rest = us; same = q; rest_tokens = others })

pub left_good : {c : Class} {k : Symbols} → Good k → (v : Move c k) → Good (after v)
left_good {k} g v = rw append-nil at (after_good v [] (rw append-nil g))

unique_of : (l : List Token) {k : Symbols} → Good k → (ts us : Trees ◌⟹◌ k) → tokens ts ≡ l → tokens us ≡ l → ts ≡ us
unique_of [] g ts us p q = empty_unique ts us p q
unique_of (t ∷ l) g ts us p q =
    let a = forth ts t l p in
    let b = forth us t l q in
    a.same
    ∙ again t l (move_unique g a.by_move b.by_move) a.rest b.rest (unique_of l (left_good g a.by_move)) a.rest_tokens b.rest_tokens
    ∙ sym b.same

pub unique : {k : Symbols} → Good k → (ts us : Trees ◌⟹◌ k) → tokens ts ≡ tokens us → ts ≡ us
unique g ts us e = unique_of (tokens us) g ts us e refl

-- Reading a list of tokens -------------------------------------------------------------------------------------------------------------

unfoldable pub bind : Option Symbols → (Symbols → Option Symbols) → Option Symbols
bind none f = none
bind (some j) f = f j

-- What is left to be read of k after the tokens of l, if it takes them.
unfoldable pub reach : Symbols → List Token → Option Symbols
unfolding feed bind
reach k [] = some k
reach k (t ∷ l) = bind (feed k t.class) (λ j. reach j l)

pub feed_move : {c : Class} {k : Symbols} {v : Move c k} → move c k ≡ some v → feed k c ≡ some (after v)
unfolding feed
feed_move e = ap left_of e

pub some_inj : {A : Type 0} {a b : A} → some a ≡ some b → a ≡ b
some_inj e = cc

pub none≢some : {A : Type 0} {a : A} → none ≡ some a → ⊥
none≢some e = let z : ◌≡◌ {A = ℕ} 0 1 = cc in omega arith

pub record Fed (k : Symbols) (c : Class) (j : Symbols) : Type 0 where
  pub fed : Move c k
  pub leaves : after fed ≡ j

fed_of : {c : Class} {k j : Symbols} (o : Option (Move c k)) → left_of o ≡ some j → Fed k c j
unfolding left_of
fed_of none e = absurd (none≢some e)
fed_of (some v) e = record { fed = v; leaves = some_inj e }

pub feed_fed : {c : Class} {k j : Symbols} → feed k c ≡ some j → Fed k c j
unfolding feed
feed_fed {c} {k} e = fed_of (move c k) e

-- Trees _⟹_ of what is left make trees of the whole, and trees of the whole are made so.
pub record Whole (k : Symbols) (l : List Token) : Type 0 where
  pub trees : Trees ◌⟹◌ k
  pub yield : tokens trees ≡ l

feed_sound : (t : Token) {k j : Symbols} {l : List Token} → feed k t.class ≡ some j → Whole j l → Whole k (t ∷ l)
feed_sound t {l} e w =
    let f = feed_fed e in
    let us : Whole (after f.fed) l = subst (λ i. Whole i l) (sym f.leaves) w in
    record { trees = back t f.fed us.trees; yield = tokens_back t f.fed us.trees ∙ ap (t ∷◌) us.yield }

pub reach_sound : (l m : List Token) {k j : Symbols} → reach k l ≡ some j → Whole j m → Whole k (l ++ m)
unfolding reach
reach_sound [] m e w = subst (λ i. Whole i m) (sym (some_inj e)) w
reach_sound (t ∷ l) m {k} {j} e w = go (feed k t.class) refl (λ i d. reach_sound l m {k = i} d w) e
  where
    go : (o : Option Symbols) → feed k t.class ≡ o → ((i : Symbols) → reach i l ≡ some j → Whole i (l ++ m))
        → bind o (λ i. reach i l) ≡ some j → Whole k (t ∷ (l ++ m))
    go none f ih d = absurd (none≢some d)
    go (some i) f ih d = feed_sound t f (ih i d)

pub reach_complete : (l m : List Token) {k : Symbols} → Good k → Whole k (l ++ m) → (j : Symbols) × (reach k l ≡ some j) × Good j × Whole j m
unfolding reach
reach_complete [] m {k} g w = (k, refl, g, w)
reach_complete (t ∷ l) m {k} g w =
    let f = forth w.trees t (l ++ m) w.yield in
    let r = reach_complete l m (left_good g f.by_move) (record { trees = f.rest; yield = f.rest_tokens }) in
    (r.0, ap (λ o. bind o (λ i. reach i l)) (feed_move (complete g f.by_move)) ∙ r.1, r.2, r.3)

-- Every form has trees -----------------------------------------------------------------------------------------------------------------

sample : (a : Terminal) → (c : Class) × (matches a c ≡ true)
unfolding matches
sample name = (ordinary, refl)
sample number = (numeral, refl)
sample string = (quoted, refl)
sample float = (floating, refl)
sample kind = (kind_word OS, refl)
sample type = (type_word OS, refl)
sample integer = (integer_word UINT32, refl)
sample (the g) = (word g, T_true (eqb_refl (given_code g)))
sample (sg s) = (sign s, T_true (eqb_refl (sign_code s)))

leaf_step : (a : Terminal) {k : Symbols} → Option (Trees ◌⟹◌ k) → Option (Trees ◌⟹◌ (tok a ∷ k))
leaf_step a none = none
leaf_step a (some ts) = some (leaf (record { class = (sample a).0; place = 0; length = 0 }) (sample a).1 ts)

node_step : {x : Nonterminal} {k : Symbols} → Option (Trees ◌⟹◌ (rule x ∷ [])) → Option (Trees ◌⟹◌ k) → Option (Trees ◌⟹◌ (rule x ∷ k))
unfolding join
node_step none o = none
node_step (some us) none = none
node_step (some us) (some ts) = some (join us ts)

grow_form : ((x : Nonterminal) → Option (Trees ◌⟹◌ (rule x ∷ []))) → (k : Symbols) → Option (Trees ◌⟹◌ k)
unfolding leaf_step node_step
grow_form b [] = some nil
grow_form b (tok a ∷ k) = leaf_step a (grow_form b k)
grow_form b (rule x ∷ k) = node_step (b x) (grow_form b k)

first_step : {x : Nonterminal} {f : Symbols} → x ⟹ f → Option (Trees ◌⟹◌ f) → Option (Trees ◌⟹◌ (rule x ∷ []))
first_step p none = none
first_step p (some us) = some (node p us nil)

grow_first : ((x : Nonterminal) → Option (Trees ◌⟹◌ (rule x ∷ []))) → {x : Nonterminal} → List (Choice x) → Option (Trees ◌⟹◌ (rule x ∷ []))
unfolding first_step grow_form
grow_first b [] = none
grow_first b (by {f} p ∷ cs) = first_step p (grow_form b f)

-- The first form of each rule, and of each rule in that, as far down as they go.
grow : ℕ → (x : Nonterminal) → Option (Trees ◌⟹◌ (rule x ∷ []))
unfolding grow_first choices
grow zero x = none
grow (suc n) x = grow_first (grow n) (choices x)

grown_all : all (λ x. is_there (grow 5 x)) nonterminals ≡ true
unfolding grow is_there
grown_all = refl

the_some : {A : Type 0} (o : Option A) → is_there o ≡ true → A
unfolding is_there
the_some none e = absurd (false≢true e)
the_some (some a) e = a

pub finish : (k : Symbols) → Trees ◌⟹◌ k
finish [] = nil
finish (tok a ∷ k) = leaf (record { class = (sample a).0; place = 0; length = 0 }) (sample a).1 (finish k)
finish (rule x ∷ k) = join (the_some (grow 5 x) (every_rule (λ y. is_there (grow 5 y)) grown_all x)) (finish k)
