-- A word's class is that of its bytes; so TRUE and FALSE are told apart by their bytes, and no value of a list that is no ENUM's comes a second
-- time. Assumes nothing.
use mathlib.Core.Path.{◌≡◌, refl, sym, ◌∙◌, ap, ap₂, subst}
use mathlib.Core.List.{List, [], ◌∷◌, ◌++◌}
use mathlib.Core.Bool.{Bool, true, false, false≢true}
use Prim.Native.Nat.{ℕ, suc, ◌+◌, ◌≤◌}
use native.Mathlib.Omega.{arith}
use lib.ListN.{length, take, drop}
use lib.Dec.{eqb}
use Rattle.token.specs.Find.{pick, either}
use Rattle.token.specs.Words.{same}
use Rattle.token.proofs.Promises.{CodeOk, found_code}
use Rattle.token.specs.declared.Sort.{Sort}
use Rattle.token.specs.declared.Sort.TheVariants.{Word as WordToken, Number, String, Punctuator, Float}
use Rattle.grammar.specs.Grammar.{Token, Class, tokens, matches, the, TRUE, FALSE}
use Rattle.grammar.specs.Grammar.{Rule, Form, ◌▸◌, ∎, ◌⟶◌, Trees, nil, leaf, node, file, version, implementation, specs, spec, definitions, definition, attribute, D, P, auto, mark, integer_range, numbers, boolean_range, float_range, enumerator, enumerators, application, objects, object, block, statements, statement, default, own, file_is, version_is, implementation_is, no_spec, a_spec, spec_is, no_definition, a_definition, an_attribute, a_reference, an_integer, a_string, a_boolean, an_enum, a_float, reference_is, no_D, a_D, no_P, a_P, no_auto, with_auto, no_mark, a_mark, no_range, a_range, a_list, no_number, a_number, no_boolean_range, no_float_range, a_boolean_range, a_float_range, enumerator_is, no_enumerator, an_enumerator, no_default, a_default, own_auto, own_none, own_number, own_string, own_true, own_false, own_name, own_float, application_is, no_object, an_object, an_object_alone, an_object_with, no_block, a_block, no_statement, a_statement, statement_is, value_number, value_string, value_float, value_auto, value_name, value_true, value_false}
use Rattle.grammar.specs.Grammar.{reference as reference-rule, value as value-rule}
use Rattle.grammar.specs.Terminals.{sign_of, class_of}
use Rattle.grammar.specs.Terminals.{token_of as token_of_word}
use Rattle.meaning.specs.Actions.{M, word_of, first_value, truths, defined, defining, specifying, means, meaning, syntax}
use Rattle.meaning.specs.Syntax.{Word, Definition, Definitions, no_more, define, Values, no_value, value, Defined, Spec, File, is_enum}
use Rattle.meaning.specs.Words.{alike, among}
use Rattle.layout.specs.Kept.{class_number, given_number, sign_number}
use Rattle.scopes.specs.Situations.{Situation}
use Rattle.scopes.proofs.Chains.{StepTo, Chain, text_chain, chain_front, chain_back}
use Rattle.scopes.proofs.Coding.{given_is}
use Rattle.token.proofs.Codes.{same_equal}

-- A sign's number is past those of the words.
far_pick : (b : Bool) (x y : Class) → 45 ≤ class_number x → 45 ≤ class_number y → 45 ≤ class_number (pick b x y)
far_pick true x y h k = h
far_pick false x y h k = k

sign_far : (b : ℕ) → 45 ≤ class_number (sign_of b)
unfolding sign_of class_number sign_number
sign_far b =
    far_pick (eqb b 123) _ _ (omega arith) (far_pick (eqb b 125) _ _ (omega arith) (far_pick (eqb b 91) _ _ (omega arith) (far_pick (eqb b 93) _ _ (omega arith)
    (far_pick (eqb b 61) _ _ (omega arith) (far_pick (eqb b 59) _ _ (omega arith) (far_pick (eqb b 58) _ _ (omega arith) (far_pick (eqb b 44) _ _ (omega arith)
    (far_pick (eqb b 46) _ _ (omega arith) (omega arith)))))))))

-- Of two tokens with the same bytes, if both are known words, both have the same number.
sorts_agree : (x y : Sort) (b : List ℕ) → CodeOk x b → CodeOk y b → class_number (class_of x) ≤ 41 → class_number (class_of y) ≤ 41
    → class_number (class_of x) ≡ class_number (class_of y)
unfolding class_of class_number
sorts_agree (WordToken k) (WordToken l) b h i m n = ap (λ (c : ℕ). class_number (class_of (WordToken c))) (h ∙ sym i)
sorts_agree (WordToken k) (Number v w) b h i m n = absurd (omega arith)
sorts_agree (WordToken k) String b h i m n = absurd (omega arith)
sorts_agree (WordToken k) (Float v w e) b h i m n = absurd (omega arith)
sorts_agree (WordToken k) (Punctuator c) b h i m n = let a = sign_far c in absurd (omega arith)
sorts_agree (Number v w) y b h i m n = absurd (omega arith)
sorts_agree String y b h i m n = absurd (omega arith)
sorts_agree (Float v w e) y b h i m n = absurd (omega arith)
sorts_agree (Punctuator c) y b h i m n = let a = sign_far c in absurd (omega arith)

tokens_agree : (s : List ℕ) (p q : ℕ) (t u : Token) → StepTo s p t → StepTo s q u → (word_of s t).bytes ≡ (word_of s u).bytes
    → class_number t.class ≤ 41 → class_number u.class ≤ 41 → class_number t.class ≡ class_number u.class
unfolding word_of token_of_word
tokens_agree s p q t u h k e m n =
    let c₁ : class_of h.lexeme.sort ≡ t.class = ap (λ (x : Token). x.class) h.is in
    let a₁ : h.lexeme.at ≡ t.place = ap (λ (x : Token). x.place) h.is in
    let l₁ : h.lexeme.len ≡ t.length = ap (λ (x : Token). x.length) h.is in
    let c₂ : class_of k.lexeme.sort ≡ u.class = ap (λ (x : Token). x.class) k.is in
    let a₂ : k.lexeme.at ≡ u.place = ap (λ (x : Token). x.place) k.is in
    let l₂ : k.lexeme.len ≡ u.length = ap (λ (x : Token). x.length) k.is in
    let b₁ : take h.lexeme.len (drop h.lexeme.at s) ≡ take u.length (drop u.place s) = ap₂ (λ (i j : ℕ). take i (drop j s)) l₁ a₁ ∙ e in
    let b₂ : take k.lexeme.len (drop k.lexeme.at s) ≡ take u.length (drop u.place s) = ap₂ (λ (i j : ℕ). take i (drop j s)) l₂ a₂ in
    let x = subst (CodeOk h.lexeme.sort) b₁ (found_code s p h.lexeme h.cursor h.finds) in
    let y = subst (CodeOk k.lexeme.sort) b₂ (found_code s q k.lexeme k.cursor k.finds) in
    let m' : class_number (class_of h.lexeme.sort) ≤ 41 = subst (λ (c : Class). class_number c ≤ 41) (sym c₁) m in
    let n' : class_number (class_of k.lexeme.sort) ≤ 41 = subst (λ (c : Class). class_number c ≤ 41) (sym c₂) n in
    sym (ap class_number c₁) ∙ sorts_agree h.lexeme.sort k.lexeme.sort _ x y m' n' ∙ ap class_number c₂

truths_differ : (s : List ℕ) (p q : ℕ) (t f : Token) → StepTo s p t → StepTo s q f → matches (the TRUE) t.class ≡ true → matches (the FALSE) f.class ≡ true
    → alike (word_of s f) (word_of s t) ≡ false
unfolding alike given_number
truths_differ s p q t f h k m n = by (same (word_of s f).bytes (word_of s t).bytes) refl
  where
    by : (b : Bool) → same (word_of s f).bytes (word_of s t).bytes ≡ b → b ≡ false
    by false e = refl
    by true e =
        let x : class_number t.class ≡ 1 = given_is TRUE t.class m in
        let y : class_number f.class ≡ 2 = given_is FALSE f.class n in
        let z = tokens_agree s q p f t k h (same_equal (word_of s f).bytes (word_of s t).bytes e) (omega (arith, y)) (omega (arith, x)) in
        absurd (omega (arith, x, y, z))

-- No value comes a second time ---------------------------------------------------------------------------------------------------------------

-- None of the values is among the words before it.
abbrev pub Apart : List Word → Values → Type 0
Apart before no_value = Unit {0}
Apart before (value w e us vs) = (among w before ≡ false) × Apart (before ++ (w ∷ [])) vs

-- So it is for each list that is no ENUM's, at every depth.
mutual
  pub data AllApart : Definitions → Type 0 where
    none_apart : AllApart no_more
    more_apart : {d : Definition} {vs : Values} {ds : Definitions} → (is_enum d.type ≡ false → Apart [] vs) → AllApartUnder vs → AllApart ds → AllApart (define d vs ds)

  pub data AllApartUnder : Values → Type 0 where
    none_under : AllApartUnder no_value
    more_under : {w : Word} {e : ℕ} {us : Definitions} {vs : Values} → AllApart us → AllApartUnder vs → AllApartUnder (value w e us vs)

abbrev pub ApartSpecs : List Spec → Type 0
ApartSpecs [] = Unit {0}
ApartSpecs (x ∷ xs) = AllApart x.definitions × ApartSpecs xs

record Told (x : Defined) : Type 0 where
  own : is_enum x.definition.type ≡ false → Apart [] x.values
  under : AllApartUnder x.values

-- What holds of what a rule means.
abbrev W : (x : Rule) → M x → Type 0
W file f = ApartSpecs f.specs
W version v = Unit {0}
W implementation i = ApartSpecs i.specs
W specs g = (n e : ℕ) → ApartSpecs (g n e)
W spec g = (n e : ℕ) → AllApart (g n e).definitions
W definitions g = (n e : ℕ) → AllApart (g n e)
W definition g = (n e : ℕ) → Told (g n e)
W attribute g = (n e : ℕ) → Told (g n e)
W reference-rule g = (n e : ℕ) → Told (g n e)
W D m = Unit {0}
W P g = (n e : ℕ) → AllApart (g n e)
W auto m = Unit {0}
W mark m = Unit {0}
W integer_range r = Unit {0}
W float_range r = Unit {0}
W numbers ws = Unit {0}
W boolean_range g = (n e : ℕ) → Apart [] (g n e).values × AllApartUnder (g n e).values
W enumerator g = (n e : ℕ) → AllApart (g n e).under
W enumerators g = (n e : ℕ) → AllApartUnder (g n e)
W application a = Unit {0}
W objects g = Unit {0}
W object g = Unit {0}
W block b = Unit {0}
W statements g = Unit {0}
W statement g = Unit {0}
W value-rule v = Unit {0}
W (default o) x = Unit {0}
W (own o) t = Unit {0}

abbrev All : {f : Form} → List ℕ → Trees ◌⟶◌ f → Type 0
All s nil = Unit {0}
All s (leaf t m ts) = All s ts
All s (node {x} p us ts) = W x (means p (meaning s us)) × All s ts

apart_truths : (s : List ℕ) (q : ℕ) (x t c f : Token) (us d r : List Token) → Chain s q (x ∷ t ∷ (us ++ (d ++ (c ∷ f ∷ r)))) → matches (the TRUE) t.class ≡ true
    → matches (the FALSE) f.class ≡ true → alike (word_of s f) (word_of s t) ≡ false
apart_truths s q x t c f us d r k m n =
    let a = chain_back s (t.place + t.length) us (d ++ (c ∷ f ∷ r)) k.1.1 in
    let b = chain_back s a.from d (c ∷ f ∷ r) a.chain in
    truths_differ s (x.place + x.length) (c.place + c.length) t f k.1.0 b.chain.1.0 m n

means_apart : {x : Rule} {g : Form} (s : List ℕ) (p : x ⟶ g) (us : Trees ◌⟶◌ g) → All s us → (q : ℕ) → Chain s q (tokens us) → W x (means p (meaning s us))
unfolding means meaning tokens first_value truths defined defining specifying is_enum among
means_apart s file_is (node _ v (node _ i (node _ a nil))) h q c = h.1.0
means_apart s version_is us h q c = tt
means_apart s implementation_is (leaf _ _ (leaf _ _ (leaf _ _ (node _ ss r)))) h q c = h.0 0 0
means_apart s no_spec nil h q c = λ n e. tt
means_apart s a_spec (node _ x (node _ xs nil)) h q c = λ n e. (h.0 n e, h.1.0 _ _)
means_apart s spec_is (leaf _ _ (leaf _ _ (node _ d r))) h q c = λ n e. h.0 n e
means_apart s no_definition nil h q c = λ n e. none_apart
means_apart s a_definition (node _ x (node _ xs nil)) h q c = λ n e. more_apart (h.0 n e).own (h.0 n e).under (h.1.0 _ _)
means_apart s an_attribute (node _ x nil) h q c = λ n e. h.0 n e
means_apart s a_reference (node _ x nil) h q c = λ n e. h.0 n e
means_apart s an_integer (leaf t m (node _ a (node _ r (leaf x _ (node _ k (node _ d b)))))) h q c = λ n e. record { own = λ z. tt; under = none_under }
means_apart s a_float (leaf t m (node _ a (node _ r (leaf x _ (node _ k (node _ d b)))))) h q c = λ n e. record { own = λ z. tt; under = none_under }
means_apart s a_string (leaf t m (node _ a (leaf x _ (node _ k (node _ d b))))) h q c = λ n e. record { own = λ z. tt; under = none_under }
means_apart s a_boolean (leaf t m (node _ a (node _ r (leaf x _ (node _ k (node _ d b)))))) h q c = λ n e. record { own = λ z. (h.1.0 n e).0; under = (h.1.0 n e).1 }
means_apart s an_enum (leaf t m (node _ a (leaf _ _ (node o v (node r vs (leaf _ _ (leaf x _ (node _ k (node _ d b))))))))) h q c = λ n e.
    record { own = λ z. absurd (false≢true (sym z)); under = more_under (h.1.0 n e) (h.1.1.0 _ _) }
means_apart s reference_is (leaf t m (leaf x _ (node _ k b))) h q c = λ n e. record { own = λ z. tt; under = none_under }
means_apart s no_D nil h q c = tt
means_apart s a_D us h q c = tt
means_apart s no_P nil h q c = λ n e. none_apart
means_apart s a_P (leaf _ _ (node _ d (leaf _ _ nil))) h q c = λ n e. h.0 n e
means_apart s no_auto us h q c = tt
means_apart s with_auto us h q c = tt
means_apart s no_mark us h q c = tt
means_apart s a_mark us h q c = tt
means_apart s no_range us h q c = tt
means_apart s no_float_range us h q c = tt
means_apart s a_range us h q c = tt
means_apart s a_float_range us h q c = tt
means_apart s a_list us h q c = tt
means_apart s no_number us h q c = tt
means_apart s a_number us h q c = tt
means_apart s no_boolean_range nil h q c = λ n e. (tt, none_under)
means_apart s a_boolean_range (leaf x _ (leaf t m (node _ us (node _ d (leaf y _ (leaf f o (node _ vs (node _ b r)))))))) h q c = λ n e. (
  (refl, (ap (λ z. either z false) (apart_truths s q x t y f (tokens us) (tokens d) (tokens vs ++ (tokens b ++ tokens r)) c m o), tt)),
  more_under (h.0 n e) (more_under (h.1.1.0 _ _) none_under),
)
means_apart s enumerator_is (leaf w _ (node _ us (node _ d nil))) h q c = λ n e. h.0 n (suc e)
means_apart s no_enumerator nil h q c = λ n e. none_under
means_apart s an_enumerator (leaf _ _ (node o v (node r vs nil))) h q c = λ n e. more_under (h.0 n e) (h.1.0 _ _)
means_apart s no_default us h q c = tt
means_apart s a_default us h q c = tt
means_apart s own_auto us h q c = tt
means_apart s own_none us h q c = tt
means_apart s own_number us h q c = tt
means_apart s own_string us h q c = tt
means_apart s own_float us h q c = tt
means_apart s own_true us h q c = tt
means_apart s own_false us h q c = tt
means_apart s own_name us h q c = tt
means_apart s application_is us h q c = tt
means_apart s no_object us h q c = tt
means_apart s an_object us h q c = tt
means_apart s an_object_alone us h q c = tt
means_apart s an_object_with us h q c = tt
means_apart s no_block us h q c = tt
means_apart s a_block us h q c = tt
means_apart s no_statement us h q c = tt
means_apart s a_statement us h q c = tt
means_apart s statement_is us h q c = tt
means_apart s value_number us h q c = tt
means_apart s value_string us h q c = tt
means_apart s value_float us h q c = tt
means_apart s value_auto us h q c = tt
means_apart s value_name us h q c = tt
means_apart s value_true us h q c = tt
means_apart s value_false us h q c = tt

all_apart : {f : Form} (s : List ℕ) (ts : Trees ◌⟶◌ f) (p : ℕ) → Chain s p (tokens ts) → All s ts
unfolding tokens
all_apart s nil p c = tt
all_apart s (leaf t m ts) p c = all_apart s ts (t.place + t.length) c.1
all_apart s (node r us ts) p c =
    let k = chain_front s p (tokens us) (tokens ts) c in
    let l = chain_back s p (tokens us) (tokens ts) c in
    (means_apart s r us (all_apart s us p k) p k, all_apart s ts l.from l.chain)

tree_apart : (s : List ℕ) (t : Trees ◌⟶◌ (file ▸ ∎)) → Chain s 0 (tokens t) → ApartSpecs (syntax s t).specs
unfolding syntax meaning tokens
tree_apart s (node p us nil) c = let k = chain_front s 0 (tokens us) [] c in means_apart s p us (all_apart s us 0 k) 0 k

pub text_apart : {s : List ℕ} {f : File} → Situation s f → ApartSpecs f.specs
text_apart {s} k =
    subst (λ (g : File). ApartSpecs g.specs) (sym k.syntax_of)
    (tree_apart s k.derivation.tree (subst (Chain s 0) (sym k.derivation.leaves) (text_chain s)))
