-- The words of a text's syntax stand alone and have the classes that the grammar gives them. Assumes nothing.
use mathlib.Core.Path.{◌≡◌, refl, sym, subst}
use mathlib.Core.List.{List, [], ◌∷◌, ◌++◌}
use mathlib.Core.Bool.{Bool, true, false}
use mathlib.Core.Option.{Option, none, some}
use Prim.Native.Nat.{ℕ, suc}
use Rattle.token.specs.Find.{pick}
use Rattle.meaning.specs.Words.{choose}
use Rattle.meaning.specs.Merging.{then, same_object, used, continued, merged, merge_from, merge}
use Rattle.grammar.specs.Grammar.{Token, tokens, matches, Rule, Form, ◌▸◌, ∎, ◌⟶◌, Trees, nil, leaf, node, file, version, implementation, specs, spec, definitions, definition, attribute, D, P, auto, mark, integer_range, numbers, boolean_range, float_range, enumerator, enumerators, application, objects, object, block, statements, statement, default, own, file_is, version_is, implementation_is, no_spec, a_spec, spec_is, no_definition, a_definition, an_attribute, a_reference, an_integer, a_string, a_boolean, an_enum, a_float, reference_is, no_D, a_D, no_P, a_P, no_auto, with_auto, no_mark, a_mark, no_range, a_range, a_list, no_number, a_number, no_boolean_range, no_float_range, a_boolean_range, a_float_range, enumerator_is, no_enumerator, an_enumerator, no_default, a_default, own_auto, own_none, own_number, own_string, own_true, own_false, own_name, own_float, application_is, no_object, an_object, an_object_alone, an_object_with, no_block, a_block, no_statement, a_statement, statement_is, value_number, value_string, value_float, value_auto, value_name, value_true, value_false, reference as reference-rule, value as value-rule, kind as a_kind}
use Rattle.meaning.specs.Syntax.{Word, Definition, Definitions, no_more, define, Values, no_value, value, Defined, Statement, Statements, done, state, Spec, Object, File}
use Rattle.meaning.specs.Actions.{M, Enumerator, word_of, kind_of, first_value, truths, defined, defining, specifying, stating, means, meaning, syntax}
use Rattle.meaning.specs.Scopes.{sort_of}
use Rattle.meaning.specs.Judging.{is_no_default, taken_by, taken}
use Rattle.meaning.specs.Places.{each}
use Rattle.meaning.proofs.Unplaced.{unplaced_word}
use Rattle.reads_back.proofs.Restated.{plain_word, Alone, AllAlone, Named}
use Rattle.reads_back.proofs.WordingClasses.{in_list, ValueForm, number_form, string_form, float_form, auto_form, name_form, true_form, false_form, name_within, true_within, false_within, none_taken}

-- The syntax --------------------------------------------------------------------------------------------------------------------------------

-- A value that stands alone, of one of the grammar's forms.
pub record WordedValue (t : Word) : Type 0 where
  pub alone : Alone (unplaced_word t)
  pub form : ValueForm t.class

-- So is what may be there.
abbrev pub WordedOption : Option Word → Type 0
WordedOption none = Unit {0}
WordedOption (some t) = WordedValue t

mutual
  -- Definitions at any depth: of each the name, the default if one is taken, and the values of its list.
  pub data Worded : Definitions → Type 0 where
    worded_none : Worded no_more
    worded_more : {d : Definition} {vs : Values} {ds : Definitions} → Named d.name → WordedOption (taken d.default) → WordedList vs → Worded ds
        → Worded (define d vs ds)

  -- The values of a list are names, TRUE or FALSE.
  pub data WordedList : Values → Type 0 where
    list_none : WordedList no_value
    list_more : {w : Word} {e : ℕ} {us : Definitions} {vs : Values} → Alone (unplaced_word w) → in_list w.class ≡ true → Worded us → WordedList vs
        → WordedList (value w e us vs)

-- A kind's word and its definitions.
pub record WordedSpec (x : Spec) : Type 0 where
  pub word_alone : Alone (unplaced_word x.word)
  pub word_class : matches a_kind x.word.class ≡ true
  pub kind_is : kind_of x.word.class ≡ x.kind
  pub definitions : Worded x.definitions

-- So it is of all kinds.
abbrev pub WordedSpecs : List Spec → Type 0
WordedSpecs [] = Unit {0}
WordedSpecs (x ∷ xs) = WordedSpec x × WordedSpecs xs

-- Statements at any depth: of each the value.
pub data WordedStatements : Statements → Type 0 where
  worded_done : WordedStatements done
  worded_state : {x : Statement} {inside rest : Statements} → WordedValue x.value → WordedStatements inside → WordedStatements rest
      → WordedStatements (state x inside rest)

-- An object: its kind's word, its name and its statements.
pub record WordedObject (x : Object) : Type 0 where
  pub word_alone : Alone (unplaced_word x.word)
  pub word_class : matches a_kind x.word.class ≡ true
  pub kind_is : kind_of x.word.class ≡ x.kind
  pub name : Named x.name
  pub statements : WordedStatements x.statements

-- All objects.
abbrev pub WordedObjects : List Object → Type 0
WordedObjects [] = Unit {0}
WordedObjects (x ∷ xs) = WordedObject x × WordedObjects xs

-- So are the objects that are made of parts.
worded_then : {a b : Statements} → WordedStatements a → WordedStatements b → WordedStatements (then a b)
unfolding then
worded_then worded_done q = q
worded_then (worded_state v i r) q = worded_state v i (worded_then r q)

worded_continued : (x : Object) (ys : List Object) → WordedObjects ys → WordedStatements (continued x ys)
unfolding continued
worded_continued x [] w = worded_done
worded_continued x (y ∷ ys) w = go (same_object x y) (worded_continued x ys w.1)
  where
    go : (b : Bool) → WordedStatements (continued x ys) → WordedStatements (pick b (then y.statements (continued x ys)) (continued x ys))
    go true r = worded_then w.0.statements r
    go false r = r

worded_from : (before xs : List Object) (n : ℕ) → WordedObjects xs → WordedObjects (merge_from before xs n)
unfolding merge_from merged choose
worded_from before [] n w = tt
worded_from before (x ∷ xs) n w = go (used x before) (worded_from (before ++ (x ∷ [])) xs n w.1) (worded_from (before ++ (x ∷ [])) xs (suc n) w.1) (worded_continued x xs w.1)
  where
    go : (b : Bool) → WordedObjects (merge_from (before ++ (x ∷ [])) xs n) → WordedObjects (merge_from (before ++ (x ∷ [])) xs (suc n)) → WordedStatements (continued x xs)
        → WordedObjects (choose b (λ _. merge_from (before ++ (x ∷ [])) xs n) (λ _. merged x n xs ∷ merge_from (before ++ (x ∷ [])) xs (suc n)))
    go true p q c = p
    go false p q c = (
      record {
        word_alone = w.0.word_alone;
        word_class = w.0.word_class;
        kind_is = w.0.kind_is;
        name = w.0.name;
        statements = worded_then w.0.statements c;
      },
      q,
    )

worded_merge : (xs : List Object) → WordedObjects xs → WordedObjects (merge xs)
unfolding merge
worded_merge xs w = worded_from [] xs 0 w

-- A whole text.
pub record WordedFile (f : File) : Type 0 where
  pub cpu : Named f.cpu
  pub specs : WordedSpecs f.specs
  pub objects : WordedObjects f.objects

-- The trees ---------------------------------------------------------------------------------------------------------------------------------

record WordedDefined (x : Defined) : Type 0 where
  name : Named x.definition.name
  default : WordedOption (taken x.definition.default)
  values : WordedList x.values

record WordedEnumerator (x : Enumerator) : Type 0 where
  alone : Alone (unplaced_word x.word)
  class_is : in_list x.word.class ≡ true
  under : Worded x.under

-- What holds of what a rule means.
abbrev W : (x : Rule) → M x → Type 0
W file f = WordedFile f
W version v = Unit {0}
W implementation i = WordedSpecs i.specs
W specs g = (n e : ℕ) → WordedSpecs (g n e)
W spec g = (n e : ℕ) → WordedSpec (g n e)
W definitions g = (n e : ℕ) → Worded (g n e)
W definition g = (n e : ℕ) → WordedDefined (g n e)
W attribute g = (n e : ℕ) → WordedDefined (g n e)
W reference-rule g = (n e : ℕ) → WordedDefined (g n e)
W D m = Unit {0}
W P g = (n e : ℕ) → Worded (g n e)
W auto m = Unit {0}
W mark m = Unit {0}
W integer_range r = Unit {0}
W float_range r = Unit {0}
W numbers ts = Unit {0}
W boolean_range g = (n e : ℕ) → WordedList (g n e).values
W enumerator g = (n e : ℕ) → WordedEnumerator (g n e)
W enumerators g = (n e : ℕ) → WordedList (g n e)
W application a = Named a.name × WordedObjects a.objects
W objects g = (n k : ℕ) → WordedObjects (g n k)
W object g = (n k : ℕ) → WordedObject (g n k)
W block b = (k : ℕ) → WordedStatements (b.inside k)
W statements g = (k : ℕ) → WordedStatements (g k)
W statement g = (k : ℕ) → WordedValue (g k).statement.value × WordedStatements (g k).inside
W value-rule v = WordedValue v.word × ((k : ℕ) → WordedStatements (v.block.inside k))
W (default s) o = WordedOption (taken o)
W (own s) t = WordedOption (taken (some t))

-- Of trees: each leaf stands alone, and so it is of each rule.
abbrev All : {f : Form} → List ℕ → Trees ◌⟶◌ f → Type 0
All s nil = Unit {0}
All s (leaf t m ts) = Alone (unplaced_word (word_of s t)) × All s ts
All s (node {x} p us ts) = W x (means p (meaning s us)) × All s ts

-- A default that is a value, and one that is none.
taken_value : (b : Bool) {t : Word} → WordedValue t → WordedOption (taken_by b t)
unfolding taken_by
taken_value true v = tt
taken_value false v = v

own_value : (t : Word) → Alone (unplaced_word t) → ValueForm t.class → WordedOption (taken (some t))
unfolding taken
own_value t a f = taken_value (is_no_default (sort_of t.class)) (record { alone = a; form = f })

own_nothing : (t : Word) → is_no_default (sort_of t.class) ≡ true → WordedOption (taken (some t))
unfolding taken taken_by
own_nothing t e = subst (λ b. WordedOption (taken_by b t)) (sym e) tt

means_worded : {x : Rule} {g : Form} (s : List ℕ) (p : x ⟶ g) (us : Trees ◌⟶◌ g) → All s us → W x (means p (meaning s us))
unfolding means meaning first_value truths defined defining specifying stating word_of taken
means_worded s file_is (node _ v (node _ i (node q a nil))) h = record { cpu = h.1.1.0.0; specs = h.1.0; objects = worded_merge (means q (meaning s a)).objects h.1.1.0.1 }
means_worded s version_is us h = tt
means_worded s implementation_is (leaf _ _ (leaf _ _ (leaf _ _ (node _ ss (leaf _ _ (node _ d (leaf _ _ nil))))))) h = h.1.1.1.0 0 0
means_worded s no_spec nil h = λ n e. tt
means_worded s a_spec (node _ x (node _ xs nil)) h = λ n e. (h.0 n e, h.1.0 _ _)
means_worded s spec_is (leaf t m (leaf _ _ (node _ d r))) h = λ n e. record { word_alone = h.0; word_class = m; kind_is = refl; definitions = h.1.1.0 n e }
means_worded s no_definition nil h = λ n e. worded_none
means_worded s a_definition (node _ x (node _ xs nil)) h = λ n e. worded_more (h.0 n e).name (h.0 n e).default (h.0 n e).values (h.1.0 _ _)
means_worded s an_attribute (node _ x nil) h = h.0
means_worded s a_reference (node _ x nil) h = h.0
means_worded s an_integer (leaf _ _ (node _ a (node _ r (leaf x m (node _ k (node _ d b)))))) h = λ n e.
    record { name = record { alone = h.1.1.1.0; class_is = m }; default = h.1.1.1.1.1.0; values = list_none }
means_worded s a_float (leaf _ _ (node _ a (node _ r (leaf x m (node _ k (node _ d b)))))) h = λ n e.
    record { name = record { alone = h.1.1.1.0; class_is = m }; default = h.1.1.1.1.1.0; values = list_none }
means_worded s a_string (leaf _ _ (node _ a (leaf x m (node _ k (node _ d b))))) h = λ n e.
    record { name = record { alone = h.1.1.0; class_is = m }; default = h.1.1.1.1.0; values = list_none }
means_worded s a_boolean (leaf _ _ (node _ a (node _ r (leaf x m (node _ k (node _ d b)))))) h = λ n e.
    record { name = record { alone = h.1.1.1.0; class_is = m }; default = h.1.1.1.1.1.0; values = h.1.1.0 n e }
means_worded s an_enum (leaf _ _ (node _ a (leaf _ _ (node q v (node r vs (leaf _ _ (leaf x m (node _ k (node _ d b))))))))) h = λ n e.
    let y = h.1.1.1.0 n e in
    record {
      name = record { alone = h.1.1.1.1.1.1.0; class_is = m };
      default = h.1.1.1.1.1.1.1.1.0;
      values = list_more y.alone y.class_is y.under (h.1.1.1.1.0 _ _);
    }
means_worded s reference_is (leaf _ _ (leaf x m (node _ k b))) h = λ n e.
    record { name = record { alone = h.1.0; class_is = m }; default = tt; values = list_none }
means_worded s no_D us h = tt
means_worded s a_D us h = tt
means_worded s no_P nil h = λ n e. worded_none
means_worded s a_P (leaf _ _ (node _ d (leaf _ _ nil))) h = h.1.0
means_worded s no_auto us h = tt
means_worded s with_auto us h = tt
means_worded s no_mark us h = tt
means_worded s a_mark us h = tt
means_worded s no_range us h = tt
means_worded s no_float_range us h = tt
means_worded s a_range us h = tt
means_worded s a_float_range us h = tt
means_worded s a_list us h = tt
means_worded s no_number us h = tt
means_worded s a_number us h = tt
means_worded s no_boolean_range nil h = λ n e. list_none
means_worded s a_boolean_range (leaf _ _ (leaf t m (node _ us (node _ d (leaf _ _ (leaf f k (node _ vs (node _ b c)))))))) h = λ n e.
    list_more h.1.0 (true_within t.class m).0 (h.1.1.0 _ _)
    (list_more h.1.1.1.1.1.0 (false_within f.class k).0 (h.1.1.1.1.1.1.0 _ _) list_none)
means_worded s enumerator_is (leaf w m (node _ us (node _ d nil))) h = λ n e.
    record { alone = h.0; class_is = (name_within w.class m).0; under = h.1.0 n (suc e) }
means_worded s no_enumerator nil h = λ n e. list_none
means_worded s an_enumerator (leaf _ _ (node q v (node r vs nil))) h = λ n e.
    let y = h.1.0 n e in
    list_more y.alone y.class_is y.under (h.1.1.0 _ _)
means_worded s no_default nil h = tt
means_worded s a_default (leaf _ _ (node _ d nil)) h = h.1.0
means_worded s own_auto (leaf t m nil) h = own_value (word_of s t) h.0 (auto_form m)
means_worded s own_none (leaf t m nil) h = own_nothing (word_of s t) (none_taken t.class m)
means_worded s own_number (leaf t m nil) h = own_value (word_of s t) h.0 (number_form m)
means_worded s own_string (leaf t m nil) h = own_value (word_of s t) h.0 (string_form m)
means_worded s own_float (leaf t m nil) h = own_value (word_of s t) h.0 (float_form m)
means_worded s own_true (leaf t m nil) h = own_value (word_of s t) h.0 (true_form m)
means_worded s own_false (leaf t m nil) h = own_value (word_of s t) h.0 (false_form m)
means_worded s own_name (leaf t m nil) h = own_value (word_of s t) h.0 (name_form m)
means_worded s application_is (leaf _ _ (leaf x m (leaf _ _ (node _ os r)))) h = (record { alone = h.1.0; class_is = m }, h.1.1.1.0 0 0)
means_worded s no_object nil h = λ n k. tt
means_worded s an_object (node _ x (node _ xs nil)) h = λ n k. (h.0 n k, h.1.0 _ _)
means_worded s an_object_alone (leaf t m (leaf x l r)) h = λ n k.
    record { word_alone = h.0; word_class = m; kind_is = refl; name = record { alone = h.1.0; class_is = l }; statements = worded_done }
means_worded s an_object_with (leaf t m (leaf x l (leaf _ _ (node _ ss (leaf _ _ r))))) h = λ n k.
    record { word_alone = h.0; word_class = m; kind_is = refl; name = record { alone = h.1.0; class_is = l }; statements = h.1.1.1.0 k }
means_worded s no_block nil h = λ k. worded_done
means_worded s a_block (leaf _ _ (node _ ss r)) h = h.1.0
means_worded s no_statement nil h = λ k. worded_done
means_worded s a_statement (node _ x (node _ xs nil)) h = λ k. worded_state (h.0 k).0 (h.0 k).1 (h.1.0 _)
means_worded s statement_is (leaf x _ (leaf _ _ (node _ v r))) h = λ k. (h.1.1.0.0, h.1.1.0.1 (suc k))
means_worded s value_number (leaf t m nil) h = (record { alone = h.0; form = number_form m }, λ k. worded_done)
means_worded s value_string (leaf t m nil) h = (record { alone = h.0; form = string_form m }, λ k. worded_done)
means_worded s value_float (leaf t m nil) h = (record { alone = h.0; form = float_form m }, λ k. worded_done)
means_worded s value_auto (leaf t m nil) h = (record { alone = h.0; form = auto_form m }, λ k. worded_done)
means_worded s value_name (leaf t m (node _ b nil)) h = (record { alone = h.0; form = name_form m }, h.1.0)
means_worded s value_true (leaf t m (node _ b nil)) h = (record { alone = h.0; form = true_form m }, h.1.0)
means_worded s value_false (leaf t m (node _ b nil)) h = (record { alone = h.0; form = false_form m }, h.1.0)

-- The parts of tokens that all stand alone.
alone_parts : (s : List ℕ) (l m : List Token) → AllAlone (each (plain_word s) (l ++ m)) → AllAlone (each (plain_word s) l) × AllAlone (each (plain_word s) m)
unfolding each
alone_parts s [] m h = (tt, h)
alone_parts s (t ∷ l) m h = let r = alone_parts s l m h.1 in ((h.0, r.0), r.1)

all_worded : {f : Form} (s : List ℕ) (ts : Trees ◌⟶◌ f) → AllAlone (each (plain_word s) (tokens ts)) → All s ts
unfolding tokens each plain_word
all_worded s nil h = tt
all_worded s (leaf t m ts) h = (h.0, all_worded s ts h.1)
all_worded s (node p us ts) h =
    let k = alone_parts s (tokens us) (tokens ts) h in
    (means_worded s p us (all_worded s us k.0), all_worded s ts k.1)

-- The words of a text's syntax, where each of its tokens stands alone.
pub worded : (s : List ℕ) (t : Trees ◌⟶◌ (file ▸ ∎)) → AllAlone (each (plain_word s) (tokens t)) → WordedFile (syntax s t)
unfolding syntax meaning tokens
worded s (node p us nil) h = means_worded s p us (all_worded s us (alone_parts s (tokens us) [] h).0)
