-- The definitions of a text are formed as the grammar gives it. Assumes nothing.
use mathlib.Core.Path.{◌≡◌, refl, sym, ◌∙◌, subst}
use mathlib.Core.List.{List, [], ◌∷◌, ◌++◌, append_assoc}
use mathlib.Core.Bool.{true}
use Prim.Native.Nat.{ℕ, suc, ◌+◌, ◌<◌}
use native.Mathlib.Omega.{arith}
use Rattle.grammar.specs.Grammar.{Token, tokens, matches, sg, rsquare, lsquare, dots, comma, STRING, BOOLEAN, ENUM, FLOAT, Rule, Form, ◌▸◌, ∎, ◌⟶◌, Trees, nil, leaf, node, file, version, implementation, specs, spec, definitions, definition, attribute, D, P, auto, mark, integer_range, numbers, boolean_range, float_range, enumerator, enumerators, application, objects, object, block, statements, statement, default, own, file_is, version_is, implementation_is, no_spec, a_spec, spec_is, no_definition, a_definition, an_attribute, a_reference, an_integer, a_string, a_boolean, an_enum, a_float, reference_is, no_D, a_D, no_P, a_P, no_auto, with_auto, no_mark, a_mark, no_range, a_range, a_list, no_number, a_number, no_boolean_range, no_float_range, a_boolean_range, a_float_range, enumerator_is, no_enumerator, an_enumerator, no_default, a_default, own_auto, own_none, own_number, own_string, own_true, own_false, own_name, own_float, application_is, no_object, an_object, an_object_alone, an_object_with, no_block, a_block, no_statement, a_statement, statement_is, value_number, value_string, value_float, value_auto, value_name, value_true, value_false, reference as reference-rule, value as value-rule}
use Rattle.meaning.specs.Actions.{M, word_of, kind_of, integer_of, first_value, truths, defined, defining, specifying, means, meaning, syntax}
use Rattle.meaning.specs.Syntax.{Word, absent, through, from_to, one_of, Defined, Spec}
use Rattle.layout.specs.Kept.{code_of, given_number}
use Rattle.scopes.specs.Situations.{ReadAt}
use Rattle.scopes.specs.Items.{item_at}
use Rattle.scopes.specs.Ranges.{SignAt, Listed, listed_none, listed_more, RangeAt, FloatsAt, range_none, floats_none, range_two, floats_two, range_list}
use Rattle.scopes.proofs.Forms.{Truths, no_truths, both_truths, at_least_one, Formed, AllFormed, none_formed, more_formed, AllFormedUnder, none_under, more_under}
use Rattle.scopes.proofs.Forms as forms
use Rattle.scopes.proofs.Chains.{StepTo, Chain, step_on, step_self, step_number, step_float, step_read, chain_front, chain_back}
use Rattle.scopes.proofs.Coding.{given_is, integer_is, type_is, lsquare_at, rsquare_at, dots_at, comma_at}

abbrev pub FormedSpecs : List ℕ → List Spec → Type 0
FormedSpecs s [] = Unit {0}
FormedSpecs s (x ∷ xs) = AllFormed s x.definitions × FormedSpecs s xs

-- A definition is formed, and so are those under its values; its type's word is what stands in the text.
record Shaped (s : List ℕ) (x : Defined) : Type 0 where
  formed : Formed s x.definition x.values
  typed : ReadAt s x.definition.word x.definition.word.place x.definition.word.length
  under : AllFormedUnder s x.values

-- What holds of what a rule means, where the rule's tokens are l.
abbrev W : List ℕ → (x : Rule) → M x → List Token → Type 0
W s file f l = FormedSpecs s f.specs
W s version v l = Unit {0}
W s implementation i l = FormedSpecs s i.specs
W s specs g l = (n e : ℕ) → FormedSpecs s (g n e)
W s spec g l = (n e : ℕ) → AllFormed s (g n e).definitions
W s definitions g l = (n e : ℕ) → AllFormed s (g n e)
W s definition g l = (n e : ℕ) → Shaped s (g n e)
W s attribute g l = (n e : ℕ) → Shaped s (g n e)
W s reference-rule g l = (n e : ℕ) → Shaped s (g n e)
W s D m l = Unit {0}
W s P g l = (n e : ℕ) → AllFormed s (g n e)
W s auto m l = Unit {0}
W s mark m l = Unit {0}
W s integer_range r l = (p : ℕ) → 0 < p → Chain s p l → RangeAt s r.span.place r.bounds
W s float_range r l = (p : ℕ) → 0 < p → Chain s p l → FloatsAt s r.span.place r.bounds
W s numbers ws l = (p : ℕ) (c : Token) → matches (sg rsquare) c.class ≡ true → Chain s p (l ++ (c ∷ [])) → Listed s p ws × ((item_at s p).sign ≡ 46 → ⊥)
W s boolean_range g l = (n e : ℕ) → Truths (g n e).values × AllFormedUnder s (g n e).values
W s enumerator g l = (n e : ℕ) → AllFormed s (g n e).under
W s enumerators g l = (n e : ℕ) → AllFormedUnder s (g n e)
W s application a l = Unit {0}
W s objects g l = Unit {0}
W s object g l = Unit {0}
W s block b l = Unit {0}
W s statements g l = Unit {0}
W s statement g l = Unit {0}
W s value-rule v l = Unit {0}
W s (default o) x l = Unit {0}
W s (own o) t l = Unit {0}

abbrev All : {f : Form} → List ℕ → Trees ◌⟶◌ f → Type 0
All s nil = Unit {0}
All s (leaf t m ts) = All s ts
All s (node {x} p us ts) = W s x (means p (meaning s us)) (tokens us) × All s ts

-- A range -----------------------------------------------------------------------------------------------------------------------------------

not_two : {s : List ℕ} {p a b q : ℕ} → SignAt s p a q → (a ≡ b → ⊥) → (item_at s p).sign ≡ b → ⊥
not_two h n e = n (sym h.sign ∙ e)

-- The `[` at its own place.
self : (s : List ℕ) (p : ℕ) (o : Token) → 0 < p → StepTo s p o → (o.place ≡ 0 → ⊥) × StepTo s o.place o
self s p o h k = let a = step_on s p o k in ((λ e. omega arith), step_self s p o k)

range_of_two : (s : List ℕ) (p : ℕ) (o a t b c : Token) → 0 < p → Chain s p (o ∷ a ∷ t ∷ b ∷ c ∷ []) → matches (sg lsquare) o.class ≡ true
    → matches (sg dots) t.class ≡ true → RangeAt s o.place (from_to (word_of s a) (word_of s b))
range_of_two s p o a t b c h k m n =
    let x = self s p o h k.0 in
    range_two x.0 (lsquare_at s o.place o x.1 m) (step_number s (o.place + o.length) a k.1.0)
    (dots_at s (a.place + a.length) t k.1.1.0 n) (step_number s (t.place + t.length) b k.1.1.1.0)

floats_of_two : (s : List ℕ) (p : ℕ) (o a t b c : Token) → 0 < p → Chain s p (o ∷ a ∷ t ∷ b ∷ c ∷ []) → matches (sg lsquare) o.class ≡ true
    → matches (sg dots) t.class ≡ true → FloatsAt s o.place (from_to (word_of s a) (word_of s b))
floats_of_two s p o a t b c h k m n =
    let x = self s p o h k.0 in
    floats_two x.0 (lsquare_at s o.place o x.1 m) (step_float s (o.place + o.length) a k.1.0)
    (dots_at s (a.place + a.length) t k.1.1.0 n) (step_float s (t.place + t.length) b k.1.1.1.0)

range_of_list : (s : List ℕ) (p : ℕ) (o a : Token) (l : List Token) (ws : List Word) → 0 < p → Chain s p (o ∷ a ∷ l) → matches (sg lsquare) o.class ≡ true
    → (Listed s (a.place + a.length) ws × ((item_at s (a.place + a.length)).sign ≡ 46 → ⊥)) → RangeAt s o.place (one_of (word_of s a ∷ ws))
range_of_list s p o a l ws h k m n =
    let x = self s p o h k.0 in
    range_list x.0 (lsquare_at s o.place o x.1 m) (step_number s (o.place + o.length) a k.1.0) n.1 n.0

no_numbers : (s : List ℕ) (p : ℕ) (c : Token) → matches (sg rsquare) c.class ≡ true → Chain s p (c ∷ []) → Listed s p [] × ((item_at s p).sign ≡ 46 → ⊥)
no_numbers s p c m k =
    let x = rsquare_at s p c k.0 m in
    (listed_none (not_two x (λ e. omega arith)), not_two x (λ e. omega arith))

more_numbers : (s : List ℕ) (p : ℕ) (x a : Token) (l : List Token) (ws : List Word) → Chain s p (x ∷ a ∷ l) → matches (sg comma) x.class ≡ true
    → (Listed s (a.place + a.length) ws × ((item_at s (a.place + a.length)).sign ≡ 46 → ⊥)) → Listed s p (word_of s a ∷ ws) × ((item_at s p).sign ≡ 46 → ⊥)
more_numbers s p x a l ws k m n =
    let y = comma_at s p x k.0 m in
    (listed_more y (step_number s (x.place + x.length) a k.1.0) n.0, not_two y (λ e. omega arith))

-- The part b of a rule's tokens, of which t is the first.
record Inside (s : List ℕ) (l : List Token) : Type 0 where
  from : ℕ
  later : 0 < from
  chain : Chain s from l

inside : (s : List ℕ) (q : ℕ) (t : Token) (a b c : List Token) → Chain s q (t ∷ (a ++ (b ++ c))) → Inside s b
inside s q t a b c k =
    let x = step_on s q t k.0 in
    let r = chain_back s (t.place + t.length) a (b ++ c) k.1 in
    let y = r.low in
    record { from = r.from; later = omega arith; chain = chain_front s r.from b c r.chain }

-- The forms ---------------------------------------------------------------------------------------------------------------------------------

means_formed : {x : Rule} {g : Form} (s : List ℕ) (p : x ⟶ g) (us : Trees ◌⟶◌ g) → All s us → (q : ℕ) → Chain s q (tokens us) → W s x (means p (meaning s us)) (tokens us)
unfolding means meaning tokens first_value truths defined defining specifying through absent word_of code_of given_number
means_formed s file_is (node _ v (node _ i (node _ a nil))) h q c = h.1.0
means_formed s version_is us h q c = tt
means_formed s implementation_is (leaf _ _ (leaf _ _ (leaf _ _ (node _ ss r)))) h q c = h.0 0 0
means_formed s no_spec nil h q c = λ n e. tt
means_formed s a_spec (node _ x (node _ xs nil)) h q c = λ n e. (h.0 n e, h.1.0 _ _)
means_formed s spec_is (leaf _ _ (leaf _ _ (node _ d r))) h q c = λ n e. h.0 n e
means_formed s no_definition nil h q c = λ n e. none_formed
means_formed s a_definition (node _ x (node _ xs nil)) h q c = λ n e. more_formed (h.0 n e).formed (h.0 n e).typed (h.0 n e).under (h.1.0 _ _)
means_formed s an_attribute (node _ x nil) h q c = λ n e. h.0 n e
means_formed s a_reference (node _ x nil) h q c = λ n e. h.0 n e
means_formed s an_integer (leaf t m (node _ a (node _ r (leaf x _ (node _ k (node _ d b)))))) h q c = λ n e.
    let i = inside s q t (tokens a) (tokens r) (x ∷ (tokens k ++ (tokens d ++ tokens b))) c in
    record { formed = forms.an_integer (integer_of t.class) refl (integer_is t.class m) (h.1.0 i.from i.later i.chain); typed = step_read s q t c.0; under = none_under }
means_formed s a_float (leaf t m (node _ a (node _ r (leaf x _ (node _ k (node _ d b)))))) h q c = λ n e.
    let i = inside s q t (tokens a) (tokens r) (x ∷ (tokens k ++ (tokens d ++ tokens b))) c in
    record { formed = forms.a_float refl (given_is FLOAT t.class m) (h.1.0 i.from i.later i.chain); typed = step_read s q t c.0; under = none_under }
means_formed s a_string (leaf t m (node _ a (leaf x _ (node _ k (node _ d b))))) h q c = λ n e.
    record { formed = forms.a_string refl (given_is STRING t.class m) refl; typed = step_read s q t c.0; under = none_under }
means_formed s a_boolean (leaf t m (node _ a (node _ r (leaf x _ (node _ k (node _ d b)))))) h q c = λ n e.
    record { formed = forms.a_boolean refl (given_is BOOLEAN t.class m) refl (h.1.0 n e).0; typed = step_read s q t c.0; under = (h.1.0 n e).1 }
means_formed s an_enum (leaf t m (node _ a (leaf _ _ (node o v (node r vs (leaf _ _ (leaf x _ (node _ k (node _ d b))))))))) h q c = λ n e.
    record { formed = forms.an_enum refl (given_is ENUM t.class m) refl at_least_one; typed = step_read s q t c.0; under = more_under (h.1.0 n e) (h.1.1.0 _ _) }
means_formed s reference_is (leaf t m (leaf x _ (node _ k b))) h q c = λ n e.
    record { formed = forms.a_reference (kind_of t.class) refl (type_is t.class m) refl; typed = step_read s q t c.0; under = none_under }
means_formed s no_D nil h q c = tt
means_formed s a_D us h q c = tt
means_formed s no_P nil h q c = λ n e. none_formed
means_formed s a_P (leaf _ _ (node _ d (leaf _ _ nil))) h q c = λ n e. h.0 n e
means_formed s no_auto us h q c = tt
means_formed s with_auto us h q c = tt
means_formed s no_mark us h q c = tt
means_formed s a_mark us h q c = tt
means_formed s no_range nil h q c = λ p l k. range_none refl
means_formed s no_float_range nil h q c = λ p l k. floats_none refl
means_formed s a_range (leaf o m (leaf a _ (leaf t n (leaf b _ (leaf z _ nil))))) h q c = λ p l k. range_of_two s p o a t b z l k m n
means_formed s a_float_range (leaf o m (leaf a _ (leaf t n (leaf b _ (leaf z _ nil))))) h q c = λ p l k. floats_of_two s p o a t b z l k m n
means_formed s a_list (leaf o m (leaf a _ (node _ ns (leaf z n nil)))) h q c = λ p l k.
    range_of_list s p o a (tokens ns ++ (z ∷ [])) _ l k m (h.0 (a.place + a.length) z n k.1.1)
means_formed s no_number nil h q c = λ p z n k. no_numbers s p z n k
means_formed s a_number (leaf x m (leaf a _ (node _ ns nil))) h q c = λ p z n k.
    let e : (tokens ns ++ []) ++ (z ∷ []) ≡ tokens ns ++ (z ∷ []) = append_assoc (tokens ns) [] (z ∷ []) in
    more_numbers s p x a ((tokens ns ++ []) ++ (z ∷ [])) _ k m (h.0 (a.place + a.length) z n (subst (λ l. Chain s (a.place + a.length) l) e k.1.1))
means_formed s no_boolean_range nil h q c = λ n e. (no_truths, none_under)
means_formed s a_boolean_range (leaf _ _ (leaf t _ (node _ us (node _ d (leaf _ _ (leaf f _ (node _ vs (node _ b r)))))))) h q c = λ n e.
    (both_truths, more_under (h.0 n e) (more_under (h.1.1.0 _ _) none_under))
means_formed s enumerator_is (leaf w _ (node _ us (node _ d nil))) h q c = λ n e. h.0 n (suc e)
means_formed s no_enumerator nil h q c = λ n e. none_under
means_formed s an_enumerator (leaf _ _ (node o v (node r vs nil))) h q c = λ n e. more_under (h.0 n e) (h.1.0 _ _)
means_formed s no_default us h q c = tt
means_formed s a_default us h q c = tt
means_formed s own_auto us h q c = tt
means_formed s own_none us h q c = tt
means_formed s own_number us h q c = tt
means_formed s own_string us h q c = tt
means_formed s own_float us h q c = tt
means_formed s own_true us h q c = tt
means_formed s own_false us h q c = tt
means_formed s own_name us h q c = tt
means_formed s application_is us h q c = tt
means_formed s no_object us h q c = tt
means_formed s an_object us h q c = tt
means_formed s an_object_alone us h q c = tt
means_formed s an_object_with us h q c = tt
means_formed s no_block us h q c = tt
means_formed s a_block us h q c = tt
means_formed s no_statement us h q c = tt
means_formed s a_statement us h q c = tt
means_formed s statement_is us h q c = tt
means_formed s value_number us h q c = tt
means_formed s value_string us h q c = tt
means_formed s value_float us h q c = tt
means_formed s value_auto us h q c = tt
means_formed s value_name us h q c = tt
means_formed s value_true us h q c = tt
means_formed s value_false us h q c = tt

all_formed : {f : Form} (s : List ℕ) (ts : Trees ◌⟶◌ f) (p : ℕ) → Chain s p (tokens ts) → All s ts
unfolding tokens
all_formed s nil p c = tt
all_formed s (leaf t m ts) p c = all_formed s ts (t.place + t.length) c.1
all_formed s (node r us ts) p c =
    let k = chain_front s p (tokens us) (tokens ts) c in
    let l = chain_back s p (tokens us) (tokens ts) c in
    (means_formed s r us (all_formed s us p k) p k, all_formed s ts l.from l.chain)

-- The definitions of a text are formed, at every depth.
pub formed : (s : List ℕ) (t : Trees ◌⟶◌ (file ▸ ∎)) → Chain s 0 (tokens t) → FormedSpecs s (syntax s t).specs
unfolding syntax meaning tokens
formed s (node p us nil) c = let k = chain_front s 0 (tokens us) [] c in means_formed s p us (all_formed s us 0 k) 0 k
