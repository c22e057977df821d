-- The words of the syntax are leaves of the derivation, in the same order: so where the tokens are in order, each stage's first fault answers.
-- Assumes nothing.
use mathlib.Core.Path.{◌≡◌, refl, sym, ◌∙◌, ap, ap₂, subst}
use mathlib.Core.List.{List, [], ◌∷◌, ◌++◌, append_assoc}
use Prim.Native.Nat.{ℕ, suc}
use Rattle.grammar.specs.Grammar.{Token, tokens, Rule, Form, ◌▸◌, ∎, ◌⟶◌, Trees, nil, leaf, node, file, version, implementation, specs, spec, definitions, definition, attribute, D, P, auto, mark, integer_range, numbers, boolean_range, float_range, enumerator, enumerators, application, objects, object, block, statements, statement, default, own, file_is, version_is, implementation_is, no_spec, a_spec, spec_is, no_definition, a_definition, an_attribute, a_reference, an_integer, a_string, a_boolean, an_enum, a_float, reference_is, no_D, a_D, no_P, a_P, no_auto, with_auto, no_mark, a_mark, no_range, a_range, a_list, no_number, a_number, no_boolean_range, no_float_range, a_boolean_range, a_float_range, enumerator_is, no_enumerator, an_enumerator, no_default, a_default, own_auto, own_none, own_number, own_string, own_true, own_false, own_name, own_float, application_is, no_object, an_object, an_object_alone, an_object_with, no_block, a_block, no_statement, a_statement, statement_is, value_number, value_string, value_float, value_auto, value_name, value_true, value_false, reference as reference-rule, value as value-rule}
use Rattle.meaning.proofs.Order.{Ordered, Sub, sub_nil, keep, drop, sub_none, sub_append, sub_behind, sub_front, sub_all, ordered_sub, at_rises, foremost, rises_first, InOrder}
use Rattle.meaning.proofs.Sites.{bound_words, option_words, definition_words, value_words, defined_words, spec_words, statement_words, object_words, file_words, definition_at}
use Rattle.meaning.specs.Actions.{M, Enumerator, first_value, truths, defined, defining, specifying, stating, means, meaning, syntax, word_of}
use Rattle.meaning.specs.Defining.{definition_faults}
use Rattle.meaning.specs.Faults.{first}
use Rattle.meaning.specs.Syntax.{Values, Word}

-- The words at the leaves, in order.
unfoldable pub leaves : {f : Form} → List ℕ → Trees ◌⟶◌ f → List Word
leaves s nil = []
leaves s (leaf t m ts) = word_of s t ∷ leaves s ts
leaves s (node p us ts) = leaves s us ++ leaves s ts

unfoldable pub words : List ℕ → List Token → List Word
words s [] = []
words s (t ∷ l) = word_of s t ∷ words s l

words_append : (s : List ℕ) (l m : List Token) → words s (l ++ m) ≡ words s l ++ words s m
unfolding words
words_append s [] m = refl
words_append s (t ∷ l) m = ap (word_of s t ∷◌) (words_append s l m)

-- They are the words of the derivation's tokens.
pub leaves_words : {f : Form} (s : List ℕ) (ts : Trees ◌⟶◌ f) → leaves s ts ≡ words s (tokens ts)
unfolding leaves words tokens
leaves_words s nil = refl
leaves_words s (leaf t m ts) = ap (word_of s t ∷◌) (leaves_words s ts)
leaves_words s (node p us ts) = ap₂ ◌++◌ (leaves_words s us) (leaves_words s ts) ∙ sym (words_append s (tokens us) (tokens ts))

words_in_order : (s : List ℕ) (l : List Token) (p : ℕ) → Ordered p l → InOrder p (words s l)
unfolding words word_of
words_in_order s [] p o = tt
words_in_order s (t ∷ l) p o = (o.0, words_in_order s l (suc t.place) o.1)

pub leaves_in_order : (s : List ℕ) (t : Trees ◌⟶◌ (file ▸ ∎)) → Ordered 0 (tokens t) → InOrder 0 (leaves s t)
leaves_in_order s t o = subst (λ l. InOrder 0 l) (sym (leaves_words s t)) (words_in_order s (tokens t) 0 o)

-- The words of what a rule means are among the words l, in order.
abbrev pub W : (x : Rule) → M x → List Word → Type 0
W file f l = Sub (file_words f) l
W version v l = Sub (v ∷ []) l
W implementation i l = Sub (spec_words i.specs) l
W specs g l = (n e : ℕ) → Sub (spec_words (g n e)) l
W spec g l = (n e : ℕ) → Sub ((g n e).word ∷ definition_words (g n e).definitions) l
W definitions g l = (n e : ℕ) → Sub (definition_words (g n e)) l
W definition g l = (n e : ℕ) → Sub (defined_words (g n e)) l
W attribute g l = (n e : ℕ) → Sub (defined_words (g n e)) l
W reference-rule g l = (n e : ℕ) → Sub (defined_words (g n e)) l
W D m l = Unit {0}
W P g l = (n e : ℕ) → Sub (definition_words (g n e)) l
W auto m l = Unit {0}
W mark m l = Unit {0}
W integer_range r l = Sub (bound_words r.bounds) l
W float_range r l = Sub (bound_words r.bounds) l
W numbers ts l = Sub ts l
W boolean_range g l = (n e : ℕ) → Sub (value_words (g n e).values) l
W enumerator g l = (n e : ℕ) → Sub ((g n e).word ∷ definition_words (g n e).under) l
W enumerators g l = (n e : ℕ) → Sub (value_words (g n e)) l
W application a l = Sub (a.name ∷ object_words a.objects) l
W objects g l = (n k : ℕ) → Sub (object_words (g n k)) l
W object g l = (n k : ℕ) → Sub ((g n k).word ∷ (g n k).name ∷ statement_words (g n k).statements) l
W block b l = (k : ℕ) → Sub (option_words b.brace ++ statement_words (b.inside k)) l
W statements g l = (k : ℕ) → Sub (statement_words (g k)) l
W statement g l = (k : ℕ) → Sub ((g k).statement.name ∷ (g k).statement.value ∷ (option_words (g k).statement.brace ++ statement_words (g k).inside)) l
W value-rule v l = (k : ℕ) → Sub (v.word ∷ (option_words v.block.brace ++ statement_words (v.block.inside k))) l
W (default s) o l = Sub (option_words o) l
W (own s) t l = Sub (t ∷ []) l

-- So it is for each tree of a form.
abbrev pub All : {f : Form} → List ℕ → Trees ◌⟶◌ f → Type 0
All s nil = Unit {0}
All s (leaf t m ts) = All s ts
All s (node {x} p us ts) = W x (means p (meaning s us)) (leaves s us) × All s ts

sub_right : (a b c : List Word) {l : List Word} → Sub l ((a ++ b) ++ c) → Sub l (a ++ (b ++ c))
sub_right a b c {l} p = subst (λ m. Sub l m) (append_assoc a b c) p

value_list_words : (x : Enumerator) (n e : ℕ) (g : ℕ → ℕ → Values) {a b : List Word} → Sub (x.word ∷ definition_words x.under) a
    → ((n e : ℕ) → Sub (value_words (g n e)) b) → Sub (value_words (first_value x n e g)) (a ++ b)
unfolding first_value value_words
value_list_words x n e g p q = sub_append p (q _ _)

means_words : {x : Rule} {g : Form} (s : List ℕ) (p : x ⟶ g) (us : Trees ◌⟶◌ g) → All s us → W x (means p (meaning s us)) (leaves s us)
unfolding means meaning leaves first_value truths defined defining specifying stating bound_words option_words definition_words value_words defined_words spec_words statement_words object_words file_words
means_words s file_is (node _ v (node _ i (node _ a nil))) h = sub_append h.0 (sub_append h.1.0 (sub_front h.1.1.0 []))
means_words s version_is (leaf _ _ (leaf _ _ (leaf v _ (node _ d r)))) h = drop (drop (keep (sub_none _)))
means_words s implementation_is (leaf _ _ (leaf _ _ (leaf _ _ (node _ ss r)))) h = drop (drop (drop (sub_front (h.0 0 0) _)))
means_words s no_spec nil h = λ n e. sub_nil
means_words s a_spec (node _ x (node _ xs nil)) h = λ n e. sub_append (h.0 n e) (sub_front (h.1.0 _ _) [])
means_words s spec_is (leaf _ _ (leaf _ _ (node _ d r))) h = λ n e. keep (drop (sub_front (h.0 n e) _))
means_words s no_definition nil h = λ n e. sub_nil
means_words s a_definition (node _ x (node _ xs nil)) h = λ n e. sub_append (h.0 n e) (sub_front (h.1.0 _ _) [])
means_words s an_attribute (node _ x nil) h = λ n e. sub_front (h.0 n e) []
means_words s a_reference (node _ x nil) h = λ n e. sub_front (h.0 n e) []
means_words s an_integer (leaf _ _ (node _ a (node _ r (leaf x _ (node _ k (node _ d b)))))) h = λ n e.
    keep (sub_behind (leaves s a) (sub_append h.1.0 (keep (sub_behind (leaves s k) (sub_front h.1.1.1.0 _)))))
means_words s a_float (leaf _ _ (node _ a (node _ r (leaf x _ (node _ k (node _ d b)))))) h = λ n e.
    keep (sub_behind (leaves s a) (sub_append h.1.0 (keep (sub_behind (leaves s k) (sub_front h.1.1.1.0 _)))))
means_words s a_string (leaf _ _ (node _ a (leaf x _ (node _ k (node _ d b))))) h = λ n e.
    keep (sub_behind (leaves s a) (keep (sub_behind (leaves s k) (sub_front h.1.1.0 _))))
means_words s a_boolean (leaf _ _ (node _ a (node _ r (leaf x _ (node _ k (node _ d b)))))) h = λ n e.
    keep (sub_behind (leaves s a) (sub_append (h.1.0 n e) (keep (sub_behind (leaves s k) (sub_front h.1.1.1.0 _)))))
means_words s an_enum (leaf _ _ (node _ a (leaf _ _ (node q v (node r vs (leaf _ _ (leaf x _ (node _ k (node _ d b))))))))) h = λ n e.
    keep (sub_behind (leaves s a) (drop (sub_right (leaves s v) (leaves s vs) _
    (sub_append (value_list_words (means q (meaning s v) n e) n e (means r (meaning s vs)) (h.1.0 n e) h.1.1.0)
    (drop (keep (sub_behind (leaves s k) (sub_front h.1.1.1.1.0 _))))))))
means_words s reference_is (leaf _ _ (leaf x _ (node _ k b))) h = λ n e. keep (keep (sub_none _))
means_words s no_D nil h = tt
means_words s a_D us h = tt
means_words s no_P nil h = λ n e. sub_nil
means_words s a_P (leaf _ _ (node _ d (leaf _ _ nil))) h = λ n e. drop (sub_front (h.0 n e) _)
means_words s no_auto us h = tt
means_words s with_auto us h = tt
means_words s no_mark us h = tt
means_words s a_mark us h = tt
means_words s no_range nil h = sub_nil
means_words s no_float_range nil h = sub_nil
means_words s a_range (leaf _ _ (leaf a _ (leaf _ _ (leaf b _ r)))) h = drop (keep (drop (keep (sub_none _))))
means_words s a_float_range (leaf _ _ (leaf a _ (leaf _ _ (leaf b _ r)))) h = drop (keep (drop (keep (sub_none _))))
means_words s a_list (leaf _ _ (leaf a _ (node _ ns r))) h = drop (keep (sub_front h.0 _))
means_words s no_number nil h = sub_nil
means_words s a_number (leaf _ _ (leaf a _ (node _ ns nil))) h = drop (keep (sub_front h.0 []))
means_words s no_boolean_range nil h = λ n e. sub_nil
means_words s a_boolean_range (leaf _ _ (leaf t _ (node _ us (node _ d (leaf _ _ (leaf f _ (node _ vs (node _ b c)))))))) h = λ n e.
    drop (keep (sub_append (h.0 n e) (sub_behind (leaves s d) (drop (keep (sub_append (h.1.1.0 _ _) (sub_none _)))))))
means_words s enumerator_is (leaf w _ (node _ us (node _ d nil))) h = λ n e. keep (sub_front (h.0 n (suc e)) _)
means_words s no_enumerator nil h = λ n e. sub_nil
means_words s an_enumerator (leaf _ _ (node q v (node r vs nil))) h = λ n e.
    drop (value_list_words (means q (meaning s v) n e) n e (means r (meaning s vs)) (h.0 n e) (λ a b. sub_front (h.1.0 a b) []))
means_words s no_default nil h = sub_nil
means_words s a_default (leaf _ _ (node _ o nil)) h = drop (sub_front h.0 [])
means_words s own_auto (leaf t _ nil) h = keep sub_nil
means_words s own_none (leaf t _ nil) h = keep sub_nil
means_words s own_number (leaf t _ nil) h = keep sub_nil
means_words s own_string (leaf t _ nil) h = keep sub_nil
means_words s own_float (leaf t _ nil) h = keep sub_nil
means_words s own_true (leaf t _ nil) h = keep sub_nil
means_words s own_false (leaf t _ nil) h = keep sub_nil
means_words s own_name (leaf t _ nil) h = keep sub_nil
means_words s application_is (leaf _ _ (leaf x _ (leaf _ _ (node _ os r)))) h = drop (keep (drop (sub_front (h.0 0 0) _)))
means_words s no_object nil h = λ n k. sub_nil
means_words s an_object (node _ x (node _ xs nil)) h = λ n k. sub_append (h.0 n k) (sub_front (h.1.0 _ _) [])
means_words s an_object_alone (leaf _ _ (leaf x _ r)) h = λ n k. keep (keep (sub_none _))
means_words s an_object_with (leaf _ _ (leaf x _ (leaf _ _ (node _ ss r)))) h = λ n k. keep (keep (drop (sub_front (h.0 k) _)))
means_words s no_block nil h = λ k. sub_nil
means_words s a_block (leaf _ _ (node _ ss r)) h = λ k. keep (sub_front (h.0 k) _)
means_words s no_statement nil h = λ k. sub_nil
means_words s a_statement (node _ x (node _ xs nil)) h = λ k. sub_append (h.0 k) (sub_front (h.1.0 _) [])
means_words s statement_is (leaf x _ (leaf _ _ (node _ v r))) h = λ k. keep (drop (sub_front (h.0 (suc k)) _))
means_words s value_number (leaf t _ nil) h = λ k. keep sub_nil
means_words s value_string (leaf t _ nil) h = λ k. keep sub_nil
means_words s value_float (leaf t _ nil) h = λ k. keep sub_nil
means_words s value_auto (leaf t _ nil) h = λ k. keep sub_nil
means_words s value_name (leaf t _ (node _ b nil)) h = λ k. keep (sub_front (h.0 k) [])
means_words s value_true (leaf t _ (node _ b nil)) h = λ k. keep (sub_front (h.0 k) [])
means_words s value_false (leaf t _ (node _ b nil)) h = λ k. keep (sub_front (h.0 k) [])

all_words : {f : Form} (s : List ℕ) (ts : Trees ◌⟶◌ f) → All s ts
all_words s nil = tt
all_words s (leaf t m ts) = all_words s ts
all_words s (node p us ts) = (means_words s p us (all_words s us), all_words s ts)

-- The words at which faults are placed are leaves of the derivation, in order.
pub words_leaves : (s : List ℕ) (t : Trees ◌⟶◌ (file ▸ ∎)) → Sub (file_words (syntax s t)) (leaves s t)
unfolding syntax meaning leaves
words_leaves s (node p us nil) = sub_front (means_words s p us (all_words s us)) []

-- Where the tokens are in order, the first fault of the list of 6 to 10 is the leftmost, and of those at its place the one with the smallest
-- number. With objects in parts the later stages' faults are not met in text order.
module _ (s : List ℕ) (t : Trees ◌⟶◌ (file ▸ ∎)) (o : Ordered 0 (tokens t)) where
  pub definition_order : first (definition_faults (syntax s t)) ≡ foremost (definition_faults (syntax s t))
  unfolding file_words
  definition_order =
      let f = syntax s t in
      let w = ordered_sub (words_leaves s t) 0 (leaves_in_order s t o) in
      rises_first (definition_faults f) (at_rises 0 (definition_at f) (ordered_sub (sub_front (sub_all (f.version ∷ spec_words f.specs)) (f.cpu ∷ object_words f.parts)) 0 w))
