-- Braces that pair, in any derivation: what stands between them is that of a rule that may be nothing. Assumes nothing.
use mathlib.Core.Path.{◌≡◌, refl, sym, ◌∙◌, ap, ap₂, subst}
use mathlib.Core.List.{List, [], ◌∷◌, ◌++◌, append_assoc}
use mathlib.Core.Bool.{Bool, true, false, not, false≢true}
use mathlib.Core.Option.{Option, none, some}
use Prim.Native.Nat.{ℕ, zero, suc, ◌+◌, ◌-◌, ◌≤◌, ◌<◌}
use native.Mathlib.Omega.{arith}
use lib.ListN.{length, length-append}
use lib.Dec.{eqb, ltb}
use borrow.Author.Tests.{eqb-true, lt-ltb, le-ltb}
use Rattle.token.specs.Find.{bit, both, either, is_there}
use Rattle.grammar.specs.Grammar.{Token, Rule, tok, rule, matches, sg, lbrace, rbrace, tokens, Form, ∎, ◌⟶◌, Trees, nil, leaf, node, file, version, implementation, specs, spec, definitions, definition, attribute, D, P, auto, mark, integer_range, numbers, boolean_range, float_range, enumerator, enumerators, application, objects, object, block, statements, statement, default, own, file_is, version_is, implementation_is, no_spec, a_spec, spec_is, no_definition, a_definition, an_attribute, a_reference, an_integer, a_string, a_boolean, an_enum, a_float, reference_is, no_D, a_D, no_P, a_P, no_auto, with_auto, no_mark, a_mark, no_range, a_range, a_list, no_number, a_number, no_boolean_range, a_boolean_range, no_float_range, a_float_range, enumerator_is, no_enumerator, an_enumerator, no_default, a_default, own_auto, own_none, own_number, own_string, own_true, own_false, own_name, own_float, application_is, no_object, an_object, an_object_alone, an_object_with, no_block, a_block, no_statement, a_statement, statement_is, value_number, value_string, value_float, value_auto, value_name, value_true, value_false, reference as reference-rule, value as value-rule}
use Rattle.grammar.specs.Stage.{opens, closes}
use Rattle.grammar.proofs.Braces.{terminal_code, opening, closing, agree}
use Rattle.meaning.specs.Words.{choose}

-- Lists --------------------------------------------------------------------------------------------------------------------------------------

-- Two front parts of one list: one of them begins the other.
data Fronts {A : Type 0} (a x b y : List A) : Type 0 where
  longer : (d : List A) → b ≡ a ++ d → x ≡ d ++ y → Fronts a x b y
  shorter : (d : List A) → a ≡ b ++ d → y ≡ d ++ x → Fronts a x b y

fronts_more : {A : Type 0} {t u : A} {a x b y : List A} → t ≡ u → Fronts a x b y → Fronts (t ∷ a) x (u ∷ b) y
fronts_more e (longer d p q) = longer d (ap₂ ◌∷◌ (sym e) p) q
fronts_more e (shorter d p q) = shorter d (ap₂ ◌∷◌ e p) q

fronts : {A : Type 0} (a x b y : List A) → a ++ x ≡ b ++ y → Fronts a x b y
fronts [] x b y e = longer b refl e
fronts (t ∷ a) x [] y e = shorter (t ∷ a) refl (sym e)
fronts (t ∷ a) x (u ∷ b) y e = let i : t ≡ u = cc in let j : a ++ x ≡ b ++ y = cc in fronts_more i (fronts a x b y j)

-- Levels -------------------------------------------------------------------------------------------------------------------------------------

abbrev pub is_open : Token → Bool
is_open t = matches (sg lbrace) t.class

abbrev pub is_close : Token → Bool
is_close t = matches (sg rbrace) t.class

opens_append : (a b : List Token) → opens (a ++ b) ≡ opens a + opens b
unfolding opens
opens_append [] b = omega arith
opens_append (t ∷ a) b = let e = opens_append a b in omega arith

closes_append : (a b : List Token) → closes (a ++ b) ≡ closes a + closes b
unfolding closes
closes_append [] b = omega arith
closes_append (t ∷ a) b = let e = closes_append a b in omega arith

-- Tokens that close d braces open before them and those that they open, and no others.
pub record Level (d : ℕ) (l : List Token) : Type 0 where
  pub front : (a b : List Token) → l ≡ a ++ b → closes a ≤ opens a + d
  pub total : closes l ≡ opens l + d

level_none : Level 0 []
unfolding opens closes
level_none = record { front = go; total = refl }
  where
    go : (a b : List Token) → [] ≡ a ++ b → closes a ≤ opens a + 0
    go [] b e = omega arith
    go (t ∷ a) b e = absurd (let z : ◌≡◌ {A = ℕ} 0 1 = cc in omega arith)

nil_right : (l : List Token) → l ++ [] ≡ l
nil_right [] = refl
nil_right (t ∷ l) = ap (t ∷◌) (nil_right l)

none_in : (opens [] ≡ 0) × (closes [] ≡ 0)
unfolding opens closes
none_in = (refl, refl)

level_append : {d : ℕ} (l m : List Token) → Level 0 l → Level d m → Level d (l ++ m)
level_append {d} l m x y = record {
  front = λ a b e. go a b (fronts l m a b e);
  total = let p = x.total in let q = y.total in let r = opens_append l m in let s = closes_append l m in omega arith;
}
  where
    go : (a b : List Token) → Fronts l m a b → closes a ≤ opens a + d
    go a b (longer c p q) =
        let i = y.front c b q in
        let j = x.total in
        let r = ap opens p ∙ opens_append l c in
        let s = ap closes p ∙ closes_append l c in
        omega arith
    go a b (shorter c p q) = let i = x.front a c p in omega arith

level_token : {d e : ℕ} (t : Token) (m : List Token) → bit (is_close t) + e ≡ bit (is_open t) + d → Level e m → Level d (t ∷ m)
unfolding opens closes
level_token {d} {e} t m h y = record { front = go; total = let q = y.total in omega arith }
  where
    go : (a b : List Token) → t ∷ m ≡ a ++ b → closes a ≤ opens a + d
    go [] b i = omega arith
    go (u ∷ a) b i =
        let j : m ≡ a ++ b = cc in
        let k : u ≡ t = cc in
        let f = y.front a b j in
        let o : bit (is_open u) ≡ bit (is_open t) = ap (λ (z : Token). bit (is_open z)) k in
        let c : bit (is_close u) ≡ bit (is_close t) = ap (λ (z : Token). bit (is_close z)) k in
        omega arith

-- The `}` behind such tokens is found where they end.
module _ (U S : List Token) (c z : Token) (Q R : List Token) (u : Level 0 U) (s : Level 0 S) (p : is_close c ≡ true) (q : is_close z ≡ true) where
  too_soon : (M N : List Token) (x : Token) (E : List Token) → Level 0 M → Level 0 N → is_close x ≡ true → N ≡ M ++ (x ∷ E) → ⊥
  unfolding opens closes bit terminal_code
  too_soon M N x E v w h e =
      let i = w.front (M ++ (x ∷ [])) E (e ∙ sym (append_assoc M (x ∷ []) E)) in
      let j = v.total in
      let a = opens_append M (x ∷ []) in
      let b = closes_append M (x ∷ []) in
      let k : bit (is_close x) ≡ 1 = ap bit h in
      let m = open-not x h in
      omega arith
    where
      open-not : (x : Token) → is_close x ≡ true → bit (is_open x) ≡ 0
      open-not x h = ap bit (agree (sg rbrace) x.class h).0

  by_fronts : Fronts U (c ∷ Q) S (z ∷ R) → (U ≡ S) × (c ∷ Q ≡ z ∷ R)
  by_fronts (longer [] e f) = (sym (e ∙ nil_right U), f)
  by_fronts (longer (x ∷ E) e f) = let i : c ≡ x = cc in absurd (too_soon U S x E u s (ap (λ (t : Token). is_close t) (sym i) ∙ p) e)
  by_fronts (shorter [] e f) = (e ∙ nil_right S, sym f)
  by_fronts (shorter (x ∷ E) e f) = let i : z ≡ x = cc in absurd (too_soon S U x E s u (ap (λ (t : Token). is_close t) (sym i) ∙ q) e)

  pub pair_match : U ++ (c ∷ Q) ≡ S ++ (z ∷ R) → (U ≡ S) × (c ∷ Q ≡ z ∷ R)
  pair_match e = by_fronts (fronts U (c ∷ Q) S (z ∷ R) e)

-- Forms --------------------------------------------------------------------------------------------------------------------------------------

turn : Bool → Bool → ℕ → (ℕ → Bool) → Bool
turn true true d k = false
turn true false d k = k (suc d)
turn false true zero k = false
turn false true (suc d) k = k d
turn false false d k = k d

-- A form closes d braces, and those that it opens.
formed : ℕ → Form → Bool
unfolding turn terminal_code
formed d [] = eqb d 0
formed d (tok a ∷ f) = turn (opening a) (closing a) d (λ e. formed e f)
formed d (rule x ∷ f) = formed d f

form_formed : {x : Rule} {g : Form} → x ⟶ g → formed 0 g ≡ true
unfolding formed
form_formed file_is = refl
form_formed version_is = refl
form_formed implementation_is = refl
form_formed no_spec = refl
form_formed a_spec = refl
form_formed spec_is = refl
form_formed no_definition = refl
form_formed a_definition = refl
form_formed an_attribute = refl
form_formed a_reference = refl
form_formed an_integer = refl
form_formed a_string = refl
form_formed a_boolean = refl
form_formed an_enum = refl
form_formed a_float = refl
form_formed reference_is = refl
form_formed no_D = refl
form_formed a_D = refl
form_formed no_P = refl
form_formed a_P = refl
form_formed no_auto = refl
form_formed with_auto = refl
form_formed no_mark = refl
form_formed a_mark = refl
form_formed no_range = refl
form_formed a_range = refl
form_formed a_list = refl
form_formed no_number = refl
form_formed a_number = refl
form_formed no_boolean_range = refl
form_formed a_boolean_range = refl
form_formed no_float_range = refl
form_formed a_float_range = refl
form_formed enumerator_is = refl
form_formed no_enumerator = refl
form_formed an_enumerator = refl
form_formed no_default = refl
form_formed a_default = refl
form_formed own_auto = refl
form_formed own_none = refl
form_formed own_number = refl
form_formed own_string = refl
form_formed own_true = refl
form_formed own_false = refl
form_formed own_name = refl
form_formed own_float = refl
form_formed application_is = refl
form_formed no_object = refl
form_formed an_object = refl
form_formed an_object_alone = refl
form_formed an_object_with = refl
form_formed no_block = refl
form_formed a_block = refl
form_formed no_statement = refl
form_formed a_statement = refl
form_formed statement_is = refl
form_formed value_number = refl
form_formed value_string = refl
form_formed value_float = refl
form_formed value_auto = refl
form_formed value_name = refl
form_formed value_true = refl
form_formed value_false = refl

leaf_level : (a c : Bool) (d : ℕ) (t : Token) (m : List Token) (k : ℕ → Bool) → is_open t ≡ a → is_close t ≡ c → turn a c d k ≡ true → ((e : ℕ) → k e ≡ true → Level e m) → Level d (t ∷ m)
unfolding turn bit
leaf_level true true d t m k p q h f = absurd (false≢true h)
leaf_level true false d t m k p q h f = level_token t m (let i : bit (is_open t) ≡ 1 = ap bit p in let j : bit (is_close t) ≡ 0 = ap bit q in omega arith) (f (suc d) h)
leaf_level false true zero t m k p q h f = absurd (false≢true h)
leaf_level false true (suc d) t m k p q h f = level_token t m (let i : bit (is_open t) ≡ 0 = ap bit p in let j : bit (is_close t) ≡ 1 = ap bit q in omega arith) (f d h)
leaf_level false false d t m k p q h f = level_token t m (let i : bit (is_open t) ≡ 0 = ap bit p in let j : bit (is_close t) ≡ 0 = ap bit q in omega arith) (f d h)

-- So do trees of the form.
tree_level : {f : Form} (ts : Trees ◌⟶◌ f) (d : ℕ) → formed d f ≡ true → Level d (tokens ts)
unfolding formed tokens
tree_level nil d h = subst (λ e. Level e []) (sym (eqb-true d 0 h)) level_none
tree_level (leaf {a} {f} t m ts) d h = let p = agree a t.class m in leaf_level (opening a) (closing a) d t (tokens ts) (λ e. formed e f) p.0 p.1 h (λ e i. tree_level ts e i)
tree_level (node p us ts) d h = level_append (tokens us) (tokens ts) (tree_level us 0 (form_formed p)) (tree_level ts d h)

pub form_level : {x : Rule} {g : Form} → x ⟶ g → (us : Trees ◌⟶◌ g) → Level 0 (tokens us)
form_level p us = tree_level us 0 (form_formed p)

-- The rules that may be nothing.
unfoldable pub nothing : (x : Rule) → Option (x ⟶ ∎)
nothing file = none
nothing version = none
nothing implementation = none
nothing specs = some no_spec
nothing spec = none
nothing definitions = some no_definition
nothing definition = none
nothing attribute = none
nothing reference-rule = none
nothing D = some no_D
nothing P = some no_P
nothing auto = some no_auto
nothing mark = some no_mark
nothing integer_range = some no_range
nothing numbers = some no_number
nothing boolean_range = some no_boolean_range
nothing float_range = some no_float_range
nothing enumerator = none
nothing enumerators = some no_enumerator
nothing application = none
nothing objects = some no_object
nothing object = none
nothing block = some no_block
nothing statements = some no_statement
nothing statement = none
nothing value-rule = none
nothing (default s) = some no_default
nothing (own s) = none

-- A `{` of a form has behind it a rule that may be nothing, and a `}`.
unfoldable pub followed : Form → Bool
unfolding terminal_code nothing
followed [] = false
followed (tok a ∷ f) = false
followed (rule x ∷ []) = false
followed (rule x ∷ rule y ∷ f) = false
followed (rule x ∷ tok b ∷ f) = both (is_there (nothing x)) (closing b)

unfoldable pub neat : Form → Bool
unfolding followed terminal_code
neat [] = true
neat (tok a ∷ f) = both (either (not (opening a)) (followed f)) (neat f)
neat (rule x ∷ f) = neat f

pub form_neat : {x : Rule} {g : Form} → x ⟶ g → neat g ≡ true
unfolding neat is_there
form_neat file_is = refl
form_neat version_is = refl
form_neat implementation_is = refl
form_neat no_spec = refl
form_neat a_spec = refl
form_neat spec_is = refl
form_neat no_definition = refl
form_neat a_definition = refl
form_neat an_attribute = refl
form_neat a_reference = refl
form_neat an_integer = refl
form_neat a_string = refl
form_neat a_boolean = refl
form_neat an_enum = refl
form_neat a_float = refl
form_neat reference_is = refl
form_neat no_D = refl
form_neat a_D = refl
form_neat no_P = refl
form_neat a_P = refl
form_neat no_auto = refl
form_neat with_auto = refl
form_neat no_mark = refl
form_neat a_mark = refl
form_neat no_range = refl
form_neat a_range = refl
form_neat a_list = refl
form_neat no_number = refl
form_neat a_number = refl
form_neat no_boolean_range = refl
form_neat a_boolean_range = refl
form_neat no_float_range = refl
form_neat a_float_range = refl
form_neat enumerator_is = refl
form_neat no_enumerator = refl
form_neat an_enumerator = refl
form_neat no_default = refl
form_neat a_default = refl
form_neat own_auto = refl
form_neat own_none = refl
form_neat own_number = refl
form_neat own_string = refl
form_neat own_true = refl
form_neat own_false = refl
form_neat own_name = refl
form_neat own_float = refl
form_neat application_is = refl
form_neat no_object = refl
form_neat an_object = refl
form_neat an_object_alone = refl
form_neat an_object_with = refl
form_neat no_block = refl
form_neat a_block = refl
form_neat no_statement = refl
form_neat a_statement = refl
form_neat statement_is = refl
form_neat value_number = refl
form_neat value_string = refl
form_neat value_float = refl
form_neat value_auto = refl
form_neat value_name = refl
form_neat value_true = refl
form_neat value_false = refl

-- Clearing -----------------------------------------------------------------------------------------------------------------------------------

unfoldable pub cleared : {x : Rule} {g f : Form} → Option (x ⟶ ∎) → x ⟶ g → Trees ◌⟶◌ g → Trees ◌⟶◌ f → Trees ◌⟶◌ (rule x ∷ f)
cleared none q us ts = node q us ts
cleared (some p) q us ts = node p nil ts

-- Trees of which the first rule is nothing, if it may be.
unfoldable pub clear : {f : Form} → Trees ◌⟶◌ f → Trees ◌⟶◌ f
clear nil = nil
clear (leaf t m ts) = leaf t m ts
clear (node {x} q us ts) = cleared (nothing x) q us ts

-- Trees without what stands between the `{` that is their token n, from 0, and its `}`.
unfoldable pub empty_at : {f : Form} → Trees ◌⟶◌ f → ℕ → Trees ◌⟶◌ f
empty_at nil n = nil
empty_at (leaf t m ts) zero = leaf t m (clear ts)
empty_at (leaf t m ts) (suc n) = leaf t m (empty_at ts n)
empty_at (node p us ts) n = choose (ltb n (length (tokens us))) (λ _. node p (empty_at us n) ts) (λ _. node p us (empty_at ts (n - length (tokens us))))

pub at_inside : {x : Rule} {g f : Form} (p : x ⟶ g) (us : Trees ◌⟶◌ g) (ts : Trees ◌⟶◌ f) (n : ℕ) → n < length (tokens us)
    → empty_at (node p us ts) n ≡ node p (empty_at us n) ts
unfolding empty_at choose
at_inside p us ts n h = ap (λ b. choose b (λ _. node p (empty_at us n) ts) (λ _. node p us (empty_at ts (n - length (tokens us))))) (lt-ltb n (length (tokens us)) h)

pub at_behind : {x : Rule} {g f : Form} (p : x ⟶ g) (us : Trees ◌⟶◌ g) (ts : Trees ◌⟶◌ f) (n : ℕ) → length (tokens us) ≤ n
    → empty_at (node p us ts) n ≡ node p us (empty_at ts (n - length (tokens us)))
unfolding empty_at choose
at_behind p us ts n h = ap (λ b. choose b (λ _. node p (empty_at us n) ts) (λ _. node p us (empty_at ts (n - length (tokens us))))) (le-ltb n (length (tokens us)) h)

cleared_tokens : {x : Rule} {g f : Form} (o : Option (x ⟶ ∎)) (q : x ⟶ g) (us : Trees ◌⟶◌ g) (ts : Trees ◌⟶◌ f) → is_there o ≡ true → tokens (cleared o q us ts) ≡ tokens ts
unfolding cleared is_there tokens
cleared_tokens none q us ts h = absurd (false≢true h)
cleared_tokens (some p) q us ts h = refl

both_left : (a b : Bool) → both a b ≡ true → a ≡ true
both_left true b e = refl
both_left false b e = e

both_right : (a b : Bool) → both a b ≡ true → b ≡ true
both_right true b e = e
both_right false b e = absurd (false≢true e)

clear_tokens : {f : Form} (ts : Trees ◌⟶◌ f) (S : List Token) (c : Token) (R : List Token) → followed f ≡ true → tokens ts ≡ S ++ (c ∷ R) → Level 0 S → is_close c ≡ true
    → tokens (clear ts) ≡ c ∷ R
unfolding followed clear tokens
clear_tokens nil S c R h e s k = absurd (false≢true h)
clear_tokens (leaf t m ts) S c R h e s k = absurd (false≢true h)
clear_tokens (node q us nil) S c R h e s k = absurd (false≢true h)
clear_tokens (node q us (node p vs ts)) S c R h e s k = absurd (false≢true h)
clear_tokens (node {x} q us (leaf {a} t m ts)) S c R h e s k =
    let o = both_left (is_there (nothing x)) (closing a) h in
    let j : is_close t ≡ true = (agree a t.class m).1 ∙ both_right (is_there (nothing x)) (closing a) h in
    cleared_tokens (nothing x) q us (leaf t m ts) o ∙ (pair_match (tokens us) S t c (tokens ts) R (form_level q us) s j k e).1

-- What an open brace is behind.
module _ (c : Token) (k : is_close c ≡ true) (o : Token) (h : is_open o ≡ true) where
  open_level : (F U : List Token) → Level 0 (F ++ (o ∷ U)) → opens U < closes U
  unfolding opens closes bit terminal_code
  open_level F U l =
      let i = l.front F (o ∷ U) refl in
      let j = l.total in
      let a = opens_append F (o ∷ U) in
      let b = closes_append F (o ∷ U) in
      let p : bit (is_open o) ≡ 1 = ap bit h in
      let q : bit (is_close o) ≡ 0 = ap bit (agree (sg lbrace) o.class h).1 in
      omega arith

  -- The tokens that are left.
  pub empty_tokens : {f : Form} (ts : Trees ◌⟶◌ f) (F S R : List Token) → neat f ≡ true → tokens ts ≡ F ++ (o ∷ (S ++ (c ∷ R))) → Level 0 S
      → tokens (empty_at ts (length F)) ≡ F ++ (o ∷ (c ∷ R))
  unfolding neat tokens empty_at
  empty_tokens nil [] S R n e s = absurd (let z : ◌≡◌ {A = ℕ} 0 1 = cc in omega arith)
  empty_tokens nil (t ∷ F) S R n e s = absurd (let z : ◌≡◌ {A = ℕ} 0 1 = cc in omega arith)
  empty_tokens (leaf {a} {f} t m ts) [] S R n e s =
      let i : t ≡ o = cc in
      let j : tokens ts ≡ S ++ (c ∷ R) = cc in
      let u : opening a ≡ true = sym (agree a t.class m).0 ∙ ap (λ (x : Token). is_open x) i ∙ h in
      let v = both_left (either (not (opening a)) (followed f)) (neat f) n in
      let w : followed f ≡ true = sym (ap (λ b. either (not b) (followed f)) u) ∙ v in
      ap₂ ◌∷◌ i (clear_tokens ts S c R w j s k)
  empty_tokens (leaf {a} {f} t m ts) (x ∷ F) S R n e s =
      let i : t ≡ x = cc in
      let j : tokens ts ≡ F ++ (o ∷ (S ++ (c ∷ R))) = cc in
      ap₂ ◌∷◌ i (empty_tokens ts F S R (both_right (either (not (opening a)) (followed f)) (neat f) n) j s)
  empty_tokens (node p us ts) F S R n e s =
      by_part (fronts (tokens us) (tokens ts) F (o ∷ (S ++ (c ∷ R))) e) (λ G q. empty_tokens ts G S R n q s) (λ Q q. empty_tokens us F S Q (form_neat p) q s)
    where
      inside : (U : List Token) → tokens us ≡ F ++ (o ∷ U) → Fronts U (tokens ts) S (c ∷ R)
          → ((Q : List Token) → tokens us ≡ F ++ (o ∷ (S ++ (c ∷ Q))) → tokens (empty_at us (length F)) ≡ F ++ (o ∷ (c ∷ Q)))
          → tokens (empty_at (node p us ts) (length F)) ≡ F ++ (o ∷ (c ∷ R))
      inside U a (longer d p₁ q₁) g =
          absurd (let i = open_level F U (subst (Level 0) a (form_level p us)) in let j = s.front U d p₁ in omega arith)
      inside U a (shorter [] p₁ q₁) g =
          absurd (let i = open_level F U (subst (Level 0) a (form_level p us)) in
          let j = s.total in let x = ap opens p₁ ∙ opens_append S [] in let y = ap closes p₁ ∙ closes_append S [] in let z₀ = none_in.0 in let z₁ = none_in.1 in omega arith)
      inside U a (shorter (d ∷ Q) p₁ q₁) g =
          let i : d ≡ c = cc in
          let j : R ≡ Q ++ tokens ts = cc in
          let b : tokens us ≡ F ++ (o ∷ (S ++ (c ∷ Q))) = a ∙ ap (λ l. F ++ (o ∷ l)) (p₁ ∙ ap (λ x. S ++ (x ∷ Q)) i) in
          let l = ap length b ∙ length-append F (o ∷ (S ++ (c ∷ Q))) in
          ap tokens (at_inside p us ts (length F) (omega arith)) ∙ ap (◌++ tokens ts) (g Q b)
          ∙ append_assoc F (o ∷ (c ∷ Q)) (tokens ts) ∙ ap (λ l. F ++ (o ∷ (c ∷ l))) (sym j)

      by_part : Fronts (tokens us) (tokens ts) F (o ∷ (S ++ (c ∷ R)))
          → ((G : List Token) → tokens ts ≡ G ++ (o ∷ (S ++ (c ∷ R))) → tokens (empty_at ts (length G)) ≡ G ++ (o ∷ (c ∷ R)))
          → ((Q : List Token) → tokens us ≡ F ++ (o ∷ (S ++ (c ∷ Q))) → tokens (empty_at us (length F)) ≡ F ++ (o ∷ (c ∷ Q)))
          → tokens (empty_at (node p us ts) (length F)) ≡ F ++ (o ∷ (c ∷ R))
      by_part (longer G a b) f g =
          let l = ap length a ∙ length-append (tokens us) G in
          let z : length F - length (tokens us) ≡ length G = omega arith in
          ap tokens (at_behind p us ts (length F) (omega arith)) ∙ ap (λ i. tokens us ++ tokens (empty_at ts i)) z ∙ ap (tokens us ++◌) (f G b)
          ∙ sym (append_assoc (tokens us) G (o ∷ (c ∷ R))) ∙ ap (◌++ (o ∷ (c ∷ R))) (sym a)
      by_part (shorter [] a b) f g =
          let l = ap length a ∙ length-append F [] in
          let z : length F - length (tokens us) ≡ 0 = omega arith in
          ap tokens (at_behind p us ts (length F) (omega arith)) ∙ ap (λ i. tokens us ++ tokens (empty_at ts i)) z ∙ ap (tokens us ++◌) (f [] (sym b))
          ∙ ap (◌++ (o ∷ (c ∷ R))) (a ∙ nil_right F)
      by_part (shorter (x ∷ U) a b) f g =
          let i : x ≡ o = cc in
          let j : S ++ (c ∷ R) ≡ U ++ tokens ts = cc in
          inside U (a ∙ ap (λ y. F ++ (y ∷ U)) i) (fronts U (tokens ts) S (c ∷ R) (sym j)) g
