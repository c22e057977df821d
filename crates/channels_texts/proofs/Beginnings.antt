-- In a derivation a kind's word with a name behind it begins an object; and where an object begins, no other tokens are one. Assumes nothing.
use mathlib.Core.Path.{◌≡◌, refl, sym, ◌∙◌, ap, ap₂, subst}
use mathlib.Core.List.{List, [], ◌∷◌, ◌++◌, append_assoc, append-nil}
use mathlib.Core.Bool.{Bool, true, false, ◌&&◌, ◌||◌, not, false≢true}
use mathlib.Core.Logic.{◌⊎◌, inl, inr, ⊎_elim}
use Prim.Native.Nat.{ℕ}
use native.Mathlib.Omega.{arith}
use lib.ListN.{length}
use lib.Dec.{eqb, leb}
use borrow.Author.Tests.{eqb-true}
use Rattle.token.proofs.Bytes.{not_true}
use Rattle.grammar.specs.Grammar.{Token, Class, Kind, Integer, Sign, Terminal, Rule, tok, rule, matches, is_name, code, sign_code, name, number, string, float, kind, type, integer, the, CPU, sg, lbrace, rbrace, semicolon, colon, Form, ◌·◌, ◌▸◌, ∎, ◌⟶◌, Trees, nil, leaf, node, file, version, implementation, specs, spec, definitions, definition, attribute, reference, D, auto, mark, integer_range, numbers, boolean_range, float_range, enumerator, enumerators, default, own, application, objects, object, block, statements, statement, value, P as P-rule, file_is, application_is, an_object_alone, an_object_with, no_D, a_D, tokens as Leaves-of}
use Rattle.grammar.specs.Factored.{Written, written, forms, Nonterminal, paper, span}
use Rattle.grammar.proofs.Braces.{terminal_code, agree}
use Rattle.grammar.proofs.Choices.{all, classes, formed, both, every, every_rule, every_class, nonterminals}
use Rattle.channels.specs.Neighbours.{ObjectTree, object_trees}
use Rattle.channels.proofs.ObjectTrees.{rest_trees, all_leaves, front_leaves, back_leaves, with_own, with_trees}
use Rattle.channels.proofs.Pairing.{pair_match, form_level}

-- Terminals ------------------------------------------------------------------------------------------------------------------------------------

-- The codes that names have.
unfoldable names_code : ℕ → Bool
names_code n = not (eqb 1 n || (eqb 2 n || (eqb 6 n || leb 30 n)))

-- Whether a terminal takes names, and whether it takes kinds' words.
unfoldable takes_name : Terminal → Bool
takes_name a = eqb 99 (terminal_code a) || names_code (terminal_code a)

unfoldable takes_kind : Terminal → Bool
takes_kind a = eqb 99 (terminal_code a) || eqb 3 (terminal_code a)

by_code : (a : Terminal) (c : Class) → matches a c ≡ true → (eqb 99 (terminal_code a) ≡ true) ⊎ (code c ≡ terminal_code a)
unfolding matches terminal_code
by_code name c h = inl refl
by_code number c h = inr (sym (eqb-true 1 (code c) h))
by_code string c h = inr (sym (eqb-true 2 (code c) h))
by_code float c h = inr (sym (eqb-true 6 (code c) h))
by_code kind c h = inr (sym (eqb-true 3 (code c) h))
by_code type c h = inr (sym (eqb-true 4 (code c) h))
by_code integer c h = inr (sym (eqb-true 5 (code c) h))
by_code (the g) c h = inr (sym (eqb-true _ (code c) h))
by_code (sg s) c h = inr (sym (eqb-true _ (code c) h))

or_first : {a : Bool} (b : Bool) → a ≡ true → (a || b) ≡ true
or_first b e = ap (λ a. a || b) e

or_second : (a b : Bool) → b ≡ true → (a || b) ≡ true
or_second true b e = refl
or_second false b e = e

implied : (a b : Bool) → (not a || b) ≡ true → a ≡ true → b ≡ true
implied true b h e = h
implied false b h e = absurd (false≢true e)

named : Class → Bool
unfolding is_name code names_code
named c = not (is_name c) || names_code (code c)

named_all : (k : Kind) (i : Integer) → all named (classes k i) ≡ true
unfolding named
named_all k i = refl

named_code : (c : Class) → is_name c ≡ true → names_code (code c) ≡ true
unfolding named
named_code c h = implied (is_name c) (names_code (code c)) (every_class named named_all c) h

names_is : (a : Terminal) (c : Class) → matches a c ≡ true → is_name c ≡ true → takes_name a ≡ true
unfolding takes_name
names_is a c m h = ⊎_elim (λ e. or_first _ e) (λ e. or_second (eqb 99 (terminal_code a)) _ (ap names_code (sym e) ∙ named_code c h)) (by_code a c m)

kinds_is : (a : Terminal) (c : Class) → matches a c ≡ true → matches kind c ≡ true → takes_kind a ≡ true
unfolding takes_kind matches
kinds_is a c m h = ⊎_elim (λ e. or_first _ e) (λ e. or_second (eqb 99 (terminal_code a)) _ (ap (eqb 3) (sym e) ∙ h)) (by_code a c m)

-- Forms ----------------------------------------------------------------------------------------------------------------------------------------

-- How a rule stands to a kind's word: 0 it has objects; 1 it must not follow one, nor end with one; 2 it must not follow one; 3 it may follow one,
-- and ends with one only where it is nothing; 4 it may follow one.
unfoldable way : Rule → ℕ
way file = 0
way version = 1
way implementation = 1
way specs = 1
way spec = 1
way definitions = 1
way definition = 1
way attribute = 1
way reference = 1
way D = 3
way P-rule = 3
way auto = 1
way mark = 3
way integer_range = 1
way numbers = 1
way boolean_range = 1
way float_range = 1
way enumerator = 2
way enumerators = 4
way (default s) = 4
way (own s) = 2
way application = 0
way objects = 0
way object = 0
way block = 3
way statements = 1
way statement = 1
way value = 2

abbrev ends_open : Rule → Bool
ends_open x = eqb 2 (way x) || eqb 4 (way x)

-- In a form no name follows a kind's word, where b says whether one may stand before it; and whether one may stand at its end.
unfoldable fine : Bool → Form → Bool
fine b [] = true
fine b (tok a ∷ f) = not (b && takes_name a) && fine (takes_kind a) f
fine b (rule x ∷ f) = leb 1 (way x) && (not (b && not (leb 3 (way x))) && fine (b || ends_open x) f)

unfoldable open_at : Bool → Form → Bool
open_at b [] = b
open_at b (tok a ∷ f) = open_at (takes_kind a) f
open_at b (rule x ∷ f) = open_at (b || ends_open x) f

-- So it is for each form of a rule without objects.
unfoldable sound : Bool → Rule → Form → Bool
sound b x g = not (leb 1 (way x)) || ((b && not (leb 3 (way x))) || (fine b g && (not (open_at b g) || (b || ends_open x))))

sound_of : (x : Rule) → Written x → Bool
sound_of x (written {f} p) = sound true x f && sound false x f

sound_in : Nonterminal → Bool
sound_in (paper x) = all (sound_of x) (forms x)
sound_in span = true

sound_all : all sound_in nonterminals ≡ true
unfolding sound_in sound_of sound fine open_at way takes_name takes_kind names_code terminal_code forms
sound_all = refl

sound_both : {x : Rule} {g : Form} → x ⟶ g → (sound true x g && sound false x g) ≡ true
unfolding sound_in sound_of
sound_both {x} p = every (sound_of x) (every_rule sound_in sound_all (paper x)) (formed p)

sound_is : {x : Rule} {g : Form} → x ⟶ g → (b : Bool) → sound b x g ≡ true
sound_is {x} {g} p true = (both (sound true x g) (sound false x g) (sound_both p)).0
sound_is {x} {g} p false = (both (sound true x g) (sound false x g) (sound_both p)).1

-- Tokens ---------------------------------------------------------------------------------------------------------------------------------------

abbrev pub is_kind : Token → Bool
is_kind t = matches kind t.class

-- No name follows a kind's word, where b says whether one stands before; and whether one stands at the end.
unfoldable apart : Bool → List Token → Bool
apart b [] = true
apart b (t ∷ l) = not (b && is_name t.class) && apart (is_kind t) l

unfoldable kind_at : Bool → List Token → Bool
kind_at b [] = b
kind_at b (t ∷ l) = kind_at (is_kind t) l

and_true : {a b : Bool} → a ≡ true → b ≡ true → (a && b) ≡ true
and_true p q = ap₂ ◌&&◌ p q

apart_append : (b : Bool) (l m : List Token) → apart b l ≡ true → apart (kind_at b l) m ≡ true → apart b (l ++ m) ≡ true
unfolding apart kind_at
apart_append b [] m p q = q
apart_append b (t ∷ l) m p q =
    let r = both (not (b && is_name t.class)) (apart (is_kind t) l) p in and_true r.0 (apart_append (is_kind t) l m r.1 q)

at_append : (b : Bool) (l m : List Token) → kind_at b (l ++ m) ≡ kind_at (kind_at b l) m
unfolding kind_at
at_append b [] m = refl
at_append b (t ∷ l) m = at_append (is_kind t) l m

-- Trees of a fine form.
record Passed (a b : Bool) (f : Form) (l : List Token) : Type 0 where
  apart_is : apart b l ≡ true
  last : kind_at b l ≡ true → open_at a f ≡ true

no_meeting : (a b x n : Bool) → (b ≡ true → a ≡ true) → (n ≡ true → x ≡ true) → not (a && x) ≡ true → not (b && n) ≡ true
no_meeting a true x true h k e = absurd (false≢true (sym (ap₂ (λ p q. not (p && q)) (h refl) (k refl)) ∙ e))
no_meeting a true x false h k e = refl
no_meeting a false x n h k e = refl

sound_parts : (p q r s : Bool) → p ≡ true → not q ≡ true → (not p || (q || (r && s))) ≡ true → (r ≡ true) × (s ≡ true)
sound_parts true true r s h k e = absurd (false≢true k)
sound_parts true false r s h k e = both r s e
sound_parts false q r s h k e = absurd (false≢true h)

sound_here : {x : Rule} {g : Form} → x ⟶ g → (a : Bool) → leb 1 (way x) ≡ true → not (a && not (leb 3 (way x))) ≡ true
    → (fine a g ≡ true) × ((not (open_at a g) || (a || ends_open x)) ≡ true)
unfolding sound
sound_here {x} {g} p a h k = sound_parts (leb 1 (way x)) (a && not (leb 3 (way x))) (fine a g) (not (open_at a g) || (a || ends_open x)) h k (sound_is p a)

passes : {f : Form} (ts : Trees ◌⟶◌ f) (a b : Bool) → (b ≡ true → a ≡ true) → fine a f ≡ true → Passed a b f (Leaves-of ts)
unfolding fine open_at apart kind_at Leaves-of
passes nil a b h e = record { apart_is = refl; last = h }
passes (leaf {a = x} {f} t m ts) a b h e =
    let p = both (not (a && takes_name x)) (fine (takes_kind x) f) e in
    let r = passes ts (takes_kind x) (is_kind t) (λ k. kinds_is x t.class m k) p.1 in
    record { apart_is = and_true (no_meeting a b (takes_name x) (is_name t.class) h (λ k. names_is x t.class m k) p.0) r.apart_is; last = r.last }
passes (node {x} {g} {f} p us ts) a b h e =
    let q₁ = both (leb 1 (way x)) (not (a && not (leb 3 (way x))) && fine (a || ends_open x) f) e in
    let q₂ = both (not (a && not (leb 3 (way x)))) (fine (a || ends_open x) f) q₁.1 in
    let s = sound_here p a q₁.0 q₂.0 in
    let u = passes us a b h s.0 in
    let v = passes ts (a || ends_open x) (kind_at b (Leaves-of us)) (λ k. implied (open_at a g) (a || ends_open x) s.1 (u.last k)) q₂.1 in
    record {
      apart_is = apart_append b (Leaves-of us) (Leaves-of ts) u.apart_is v.apart_is;
      last = λ k. v.last (sym (at_append b (Leaves-of us) (Leaves-of ts)) ∙ k);
    }

-- Tokens in which no name follows a kind's word, and which do not end with one.
record Closed (l : List Token) : Type 0 where
  apart_is : apart false l ≡ true
  last : kind_at false l ≡ false

closed : {f : Form} (ts : Trees ◌⟶◌ f) → fine false f ≡ true → (open_at false f ≡ true → ⊥) → Closed (Leaves-of ts)
closed ts h k =
    let r = passes ts false false (λ e. e) h in record { apart_is = r.apart_is; last = not_true (kind_at false (Leaves-of ts)) (λ e. k (r.last e)) }

-- Behind such tokens -----------------------------------------------------------------------------------------------------------------------------

record Past (F M A R : List Token) : Type 0 where
  rest : List Token
  front_is : A ≡ F ++ rest
  back_is : M ≡ rest ++ R

met : (F M : List Token) (u : Token) (Q : List Token) → F ++ M ≡ u ∷ Q → apart true F ≡ true → kind_at true F ≡ false → is_name u.class ≡ true → ⊥
unfolding apart kind_at
met [] M u Q e p q n = false≢true (sym q)
met (g ∷ F) M u Q e p q n =
    let i : g ≡ u = cc in
    let r = (both (not (true && is_name g.class)) (apart (is_kind g) F) p).0 in
    let k : is_name g.class ≡ true = ap (λ (t : Token). is_name t.class) i ∙ n in
    false≢true (sym (ap (λ b. not (true && b)) k) ∙ r)

past : (b : Bool) (F M A : List Token) (t u : Token) (Q : List Token) → apart b F ≡ true → kind_at b F ≡ false → is_kind t ≡ true → is_name u.class ≡ true
    → F ++ M ≡ A ++ (t ∷ u ∷ Q) → Past F M A (t ∷ u ∷ Q)
unfolding apart kind_at
past b [] M A t u Q p q k n e = record { rest = A; front_is = refl; back_is = e }
past b (f ∷ F) M [] t u Q p q k n e =
    let i : f ≡ t = cc in
    let j : F ++ M ≡ u ∷ Q = cc in
    let h : is_kind f ≡ true = ap (λ (t : Token). is_kind t) i ∙ k in
    let r = (both (not (b && is_name f.class)) (apart (is_kind f) F) p).1 in
    absurd (met F M u Q j (subst (λ c. apart c F ≡ true) h r) (subst (λ c. kind_at c F ≡ false) h q) n)
past b (f ∷ F) M (x ∷ A) t u Q p q k n e =
    let i : f ≡ x = cc in
    let j : F ++ M ≡ A ++ (t ∷ u ∷ Q) = cc in
    let r = past (is_kind f) F M A t u Q (both (not (b && is_name f.class)) (apart (is_kind f) F) p).1 q k n j in
    record { rest = r.rest; front_is = ap₂ ◌∷◌ (sym i) r.front_is; back_is = r.back_is }

-- An object by its first two tokens.
record Headed (x : ObjectTree) : Type 0 where
  kind_token : Token
  name_token : Token
  rest : List Token
  leaves : Leaves-of x ≡ kind_token ∷ name_token ∷ rest
  kind_is : is_kind kind_token ≡ true
  name_is : is_name name_token.class ≡ true
  closed_is : Closed (name_token ∷ rest)

headed : (x : ObjectTree) → Headed x
unfolding Leaves-of matches fine open_at way takes_name takes_kind names_code terminal_code
headed (node an_object_alone (leaf t h (leaf n m us)) nil) =
    record { kind_token = t; name_token = n; rest = Leaves-of us; leaves = append-nil (t ∷ n ∷ Leaves-of us); kind_is = h; name_is = m; closed_is = closed (leaf {a = name} n m us) refl (λ e. false≢true e) }
headed (node an_object_with (leaf t h (leaf n m us)) nil) =
    record { kind_token = t; name_token = n; rest = Leaves-of us; leaves = append-nil (t ∷ n ∷ Leaves-of us); kind_is = h; name_is = m; closed_is = closed (leaf {a = name} n m us) refl (λ e. false≢true e) }

-- The object that they begin, among objects that B follows.
record Begun (os : List ObjectTree) (A R B : List Token) : Type 0 where
  before : List ObjectTree
  this : ObjectTree
  after : List ObjectTree
  whole : os ≡ before ++ (this ∷ after)
  rest_is : Leaves-of this ++ (all_leaves after ++ B) ≡ R

no_end : (a : List Token) (t : Token) (l : List Token) → [] ≡ a ++ (t ∷ l) → ⊥
no_end [] t l e = let z : ◌≡◌ {A = ℕ} 0 1 = cc in omega arith
no_end (x ∷ a) t l e = let z : ◌≡◌ {A = ℕ} 0 1 = cc in omega arith

begun : (os : List ObjectTree) (B A : List Token) (t u : Token) (Q : List Token) → Closed B → is_kind t ≡ true → is_name u.class ≡ true
    → all_leaves os ++ B ≡ A ++ (t ∷ u ∷ Q) → Begun os A (t ∷ u ∷ Q) B
unfolding all_leaves
begun [] B A t u Q c k n e =
    let r = past false B [] A t u Q c.apart_is c.last k n (append-nil B ∙ e) in absurd (no_end r.rest t (u ∷ Q) r.back_is)
begun (o ∷ os) B [] t u Q c k n e =
    record { before = []; this = o; after = os; whole = refl; rest_is = sym (append_assoc (Leaves-of o) (all_leaves os) B) ∙ e }
begun (o ∷ os) B (x ∷ A) t u Q c k n e =
    let h = headed o in
    let L = h.name_token ∷ h.rest in
    let w : h.kind_token ∷ (L ++ (all_leaves os ++ B)) ≡ x ∷ (A ++ (t ∷ u ∷ Q)) =
    sym (append_assoc (Leaves-of o) (all_leaves os) B ∙ ap (◌++ (all_leaves os ++ B)) h.leaves) ∙ e in
    let v : L ++ (all_leaves os ++ B) ≡ A ++ (t ∷ u ∷ Q) = cc in
    let p = past false L (all_leaves os ++ B) A t u Q h.closed_is.apart_is h.closed_is.last k n v in
    let r = begun os B p.rest t u Q c k n p.back_is in
    record { before = o ∷ r.before; this = r.this; after = r.after; whole = ap (o ∷◌) r.whole; rest_is = r.rest_is }

-- Of a file.
front_closed : (t : Trees ◌⟶◌ (file ▸ ∎)) → Closed (front_leaves t)
unfolding front_leaves Leaves-of fine open_at way takes_name takes_kind names_code terminal_code
front_closed (node file_is (node p v (node q i (node application_is (leaf a k (leaf b m (leaf c n os))) nil))) nil) =
    closed (node p v (node q i (leaf {a = the CPU} a k (leaf {a = name} b m (leaf {a = sg lbrace} c n nil))))) refl (λ e. false≢true e)

back_closed : (t : Trees ◌⟶◌ (file ▸ ∎)) → Closed (back_leaves t)
unfolding back_leaves fine open_at way takes_name takes_kind names_code terminal_code
back_closed (node file_is (node p v (node q i (node application_is (leaf a k (leaf b m (leaf c n os))) nil))) nil) = closed (rest_trees os) refl (λ e. false≢true e)

-- Where an object ends -----------------------------------------------------------------------------------------------------------------------------

signs_apart : (s u : Sign) (a b : Token) → matches (sg s) a.class ≡ true → matches (sg u) b.class ≡ true → a ≡ b → sign_code s ≡ sign_code u
unfolding matches
signs_apart s u a b h k e = eqb-true (sign_code s) (code a.class) h ∙ ap (λ (t : Token). code t.class) e ∙ sym (eqb-true (sign_code u) (code b.class) k)

record SameFront (a b P Q : List Token) : Type 0 where
  front : a ≡ b
  back : P ≡ Q

same_more : {a b P Q : List Token} (t u : Token) → t ≡ u → SameFront a b P Q → SameFront (t ∷ a) (u ∷ b) P Q
same_more t u e s = record { front = ap₂ ◌∷◌ e s.front; back = s.back }

abbrev End : Form
End = D ▸ sg semicolon · ∎

same_end : (d e : Trees ◌⟶◌ End) (P Q : List Token) → Leaves-of d ++ P ≡ Leaves-of e ++ Q → SameFront (Leaves-of d) (Leaves-of e) P Q
unfolding Leaves-of sign_code
same_end (node no_D nil (leaf z h nil)) (node no_D nil (leaf y k nil)) P Q w = let i : z ≡ y = cc in let j : P ≡ Q = cc in record { front = ap (◌∷ []) i; back = j }
same_end (node no_D nil (leaf z h nil)) (node a_D (leaf y k us) ts) P Q w = let i : z ≡ y = cc in absurd (let q : ◌≡◌ {A = ℕ} 35 36 = signs_apart semicolon colon z y h k i in omega arith)
same_end (node a_D (leaf z h us) ts) (node no_D nil (leaf y k nil)) P Q w = let i : z ≡ y = cc in absurd (let q : ◌≡◌ {A = ℕ} 36 35 = signs_apart colon semicolon z y h k i in omega arith)
same_end (node a_D (leaf z h (leaf s m nil)) (leaf c n nil)) (node a_D (leaf y k (leaf r l nil)) (leaf b o nil)) P Q w =
    let i₁ : z ≡ y = cc in
    let i₂ : s ≡ r = cc in
    let i₃ : c ≡ b = cc in
    let j : P ≡ Q = cc in
    same_more z y i₁ (same_more s r i₂ (same_more c b i₃ (record { front = refl; back = j })))

-- What an object's name is followed by.
not_brace : (d : Trees ◌⟶◌ End) (b : Token) (P Q : List Token) → matches (sg lbrace) b.class ≡ true → Leaves-of d ++ P ≡ b ∷ Q → ⊥
unfolding Leaves-of sign_code
not_brace (node no_D nil (leaf z h nil)) b P Q k w = let i : z ≡ b = cc in let q : ◌≡◌ {A = ℕ} 35 30 = signs_apart semicolon lbrace z b h k i in omega arith
not_brace (node a_D (leaf z h us) ts) b P Q k w = let i : z ≡ b = cc in let q : ◌≡◌ {A = ℕ} 36 30 = signs_apart colon lbrace z b h k i in omega arith

abbrev Block : Form
Block = statements ▸ sg rbrace · End

same_block : (d e : Trees ◌⟶◌ Block) (P Q : List Token) → Leaves-of d ++ P ≡ Leaves-of e ++ Q → SameFront (Leaves-of d) (Leaves-of e) P Q
unfolding Leaves-of terminal_code
same_block (node p us (leaf c h d)) (node q vs (leaf b k e)) P Q w =
    let U = Leaves-of us in
    let W = Leaves-of vs in
    let v : U ++ (c ∷ (Leaves-of d ++ P)) ≡ W ++ (b ∷ (Leaves-of e ++ Q)) = sym (append_assoc U (c ∷ Leaves-of d) P) ∙ w ∙ append_assoc W (b ∷ Leaves-of e) Q in
    let m = pair_match U W c b (Leaves-of d ++ P) (Leaves-of e ++ Q) (form_level p us) (form_level q vs) h k v in
    let x = m.1 in
    let i : c ≡ b = cc in
    let j : Leaves-of d ++ P ≡ Leaves-of e ++ Q = cc in
    let s = same_end d e P Q j in
    record { front = ap₂ ◌++◌ m.0 (ap₂ ◌∷◌ i s.front); back = s.back }

stripped : (a P : List Token) → (a ++ []) ++ P ≡ a ++ P
stripped a P = ap (◌++ P) (append-nil a)

unstripped : {a b P Q : List Token} → SameFront a b P Q → SameFront (a ++ []) (b ++ []) P Q
unstripped {a} {b} s = record { front = append-nil a ∙ s.front ∙ sym (append-nil b); back = s.back }

-- Two objects that begin one list of tokens have the same.
same_object : (x y : ObjectTree) (P Q : List Token) → Leaves-of x ++ P ≡ Leaves-of y ++ Q → SameFront (Leaves-of x) (Leaves-of y) P Q
unfolding Leaves-of
same_object (node an_object_alone (leaf t _ (leaf n _ d)) nil) (node an_object_alone (leaf u _ (leaf m _ e)) nil) P Q w =
    let v : t ∷ n ∷ (Leaves-of d ++ P) ≡ u ∷ m ∷ (Leaves-of e ++ Q) = sym (stripped (t ∷ n ∷ Leaves-of d) P) ∙ w ∙ stripped (u ∷ m ∷ Leaves-of e) Q in
    let i : t ≡ u = cc in
    let j : n ≡ m = cc in
    let k : Leaves-of d ++ P ≡ Leaves-of e ++ Q = cc in
    unstripped (same_more t u i (same_more n m j (same_end d e P Q k)))
same_object (node an_object_alone (leaf t _ (leaf n _ d)) nil) (node an_object_with (leaf u _ (leaf m _ (leaf b h e))) nil) P Q w =
    let v : t ∷ n ∷ (Leaves-of d ++ P) ≡ u ∷ m ∷ b ∷ (Leaves-of e ++ Q) = sym (stripped (t ∷ n ∷ Leaves-of d) P) ∙ w ∙ stripped (u ∷ m ∷ b ∷ Leaves-of e) Q in
    let k : Leaves-of d ++ P ≡ b ∷ (Leaves-of e ++ Q) = cc in
    absurd (not_brace d b P (Leaves-of e ++ Q) h k)
same_object (node an_object_with (leaf u _ (leaf m _ (leaf b h e))) nil) (node an_object_alone (leaf t _ (leaf n _ d)) nil) P Q w =
    let v : u ∷ m ∷ b ∷ (Leaves-of e ++ P) ≡ t ∷ n ∷ (Leaves-of d ++ Q) = sym (stripped (u ∷ m ∷ b ∷ Leaves-of e) P) ∙ w ∙ stripped (t ∷ n ∷ Leaves-of d) Q in
    let k : Leaves-of d ++ Q ≡ b ∷ (Leaves-of e ++ P) = cc in
    absurd (not_brace d b Q (Leaves-of e ++ P) h k)
same_object (node an_object_with (leaf t _ (leaf n _ (leaf a _ d))) nil) (node an_object_with (leaf u _ (leaf m _ (leaf b _ e))) nil) P Q w =
    let v : t ∷ n ∷ a ∷ (Leaves-of d ++ P) ≡ u ∷ m ∷ b ∷ (Leaves-of e ++ Q) = sym (stripped (t ∷ n ∷ a ∷ Leaves-of d) P) ∙ w ∙ stripped (u ∷ m ∷ b ∷ Leaves-of e) Q in
    let i : t ≡ u = cc in
    let j : n ≡ m = cc in
    let l : a ≡ b = cc in
    let k : Leaves-of d ++ P ≡ Leaves-of e ++ Q = cc in
    unstripped (same_more t u i (same_more n m j (same_more a b l (same_block d e P Q k))))

-- Two objects one after the other --------------------------------------------------------------------------------------------------------------------

-- The tokens of x and y are those of two parts one after the other.
pub record TwoParts (os : List ObjectTree) (x y : ObjectTree) : Type 0 where
  pub before : List ObjectTree
  pub one : ObjectTree
  pub other : ObjectTree
  pub after : List ObjectTree
  pub whole : os ≡ before ++ (one ∷ other ∷ after)
  pub one_is : Leaves-of one ≡ Leaves-of x
  pub other_is : Leaves-of other ≡ Leaves-of y

second : (os before after : List ObjectTree) (one x y : ObjectTree) (R B : List Token) → Closed B → os ≡ before ++ (one ∷ after) → Leaves-of one ≡ Leaves-of x
    → all_leaves after ++ B ≡ Leaves-of y ++ R → TwoParts os x y
unfolding all_leaves
second os before [] one x y R B c w e f =
    let h = headed y in
    let g : [] ++ B ≡ [] ++ (h.kind_token ∷ h.name_token ∷ (h.rest ++ R)) = f ∙ ap (◌++ R) h.leaves in
    let r = past false B [] [] h.kind_token h.name_token (h.rest ++ R) c.apart_is c.last h.kind_is h.name_is (append-nil B ∙ g) in
    absurd (no_end r.rest h.kind_token (h.name_token ∷ (h.rest ++ R)) r.back_is)
second os before (o ∷ after) one x y R B c w e f =
    let s = same_object o y (all_leaves after ++ B) R (sym (append_assoc (Leaves-of o) (all_leaves after) B) ∙ f) in
    record { before = before; one = one; other = o; after = after; whole = w; one_is = e; other_is = s.front }

pub two_parts_in : (t : Trees ◌⟶◌ (file ▸ ∎)) (x y : ObjectTree) (A R : List Token) → Leaves-of t ≡ A ++ (Leaves-of x ++ (Leaves-of y ++ R)) → TwoParts (object_trees t) x y
two_parts_in t x y A R e =
    let h = headed x in
    let L = h.rest ++ (Leaves-of y ++ R) in
    let F = front_leaves t in
    let os = object_trees t in
    let B = back_leaves t in
    let c = front_closed t in
    let b = back_closed t in
    let w : F ++ (all_leaves os ++ B) ≡ A ++ (h.kind_token ∷ h.name_token ∷ L) =
    sym (ap Leaves-of (sym (with_own t)) ∙ with_trees t os) ∙ e ∙ ap (λ l. A ++ (l ++ (Leaves-of y ++ R))) h.leaves in
    let p = past false F (all_leaves os ++ B) A h.kind_token h.name_token L c.apart_is c.last h.kind_is h.name_is w in
    let r = begun os B p.rest h.kind_token h.name_token L b h.kind_is h.name_is p.back_is in
    let s = same_object r.this x (all_leaves r.after ++ B) (Leaves-of y ++ R) (r.rest_is ∙ sym (ap (◌++ (Leaves-of y ++ R)) h.leaves)) in
    second os r.before r.after r.this x y R B b r.whole s.front s.back
