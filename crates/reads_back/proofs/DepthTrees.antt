-- The definitions of a text stand within at most sixteen open braces: what its tokens open bounds how deep they lie. Assumes nothing.
use mathlib.Core.Path.{◌≡◌, refl, sym, ◌∙◌, ap, ap₂}
use mathlib.Core.List.{List, [], ◌∷◌, ◌++◌}
use Prim.Native.Nat.{ℕ, suc, ◌+◌, ◌≤◌}
use native.Mathlib.Omega.{arith}
use Rattle.token.specs.Find.{bit}
use Rattle.grammar.specs.Grammar.{tokens, given_code, sign_code, Rule, rule, tok, Form, ◌▸◌, ∎, ◌⟶◌, Trees, nil, leaf, node, file, version, implementation, specs, spec, definitions, definition, attribute, D, P, auto, mark, integer_range, numbers, boolean_range, float_range, enumerator, enumerators, application, objects, object, block, statements, statement, default, own, file_is, version_is, implementation_is, no_spec, a_spec, spec_is, no_definition, a_definition, an_attribute, a_reference, an_integer, a_string, a_boolean, an_enum, a_float, reference_is, no_D, a_D, no_P, a_P, no_auto, with_auto, no_mark, a_mark, no_range, a_range, a_list, no_number, a_number, no_boolean_range, no_float_range, a_boolean_range, a_float_range, enumerator_is, no_enumerator, an_enumerator, no_default, a_default, own_auto, own_none, own_number, own_string, own_true, own_false, own_name, own_float, application_is, no_object, an_object, an_object_alone, an_object_with, no_block, a_block, no_statement, a_statement, statement_is, value_number, value_string, value_float, value_auto, value_name, value_true, value_false, reference as reference-rule, value as value-rule}
use Rattle.grammar.proofs.Braces.{terminal_code, opening, closing, agree}
use Rattle.meaning.specs.Syntax.{Word, Definition, Definitions, no_more, define, Values, no_value, value, Spec}
use Rattle.meaning.specs.Actions.{M, word_of, first_value, truths, defined, defining, specifying, means, meaning, syntax}
use Rattle.meaning.specs.Places.{each}
use Rattle.meaning.proofs.Unplaced.{unplaced_word, each_append}
use Rattle.reads_back.proofs.Restated.{plain_word, word_opens, word_closes}
use Rattle.reads_back.proofs.DepthWords.{Low, low_here, low_shift, low_front, low_back, append_opens, append_closes}

-- Trees are balanced ------------------------------------------------------------------------------------------------------------------------

-- The words at the leaves, without their places.
unfoldable pub plain_leaves : {f : Form} → List ℕ → Trees ◌⟶◌ f → List Word
plain_leaves s nil = []
plain_leaves s (leaf t m ts) = plain_word s t ∷ plain_leaves s ts
plain_leaves s (node p us ts) = plain_leaves s us ++ plain_leaves s ts

-- They are the words of the tokens at the leaves.
pub plain_leaves_are : {f : Form} (s : List ℕ) (ts : Trees ◌⟶◌ f) → plain_leaves s ts ≡ each (plain_word s) (tokens ts)
unfolding plain_leaves tokens each
plain_leaves_are s nil = refl
plain_leaves_are s (leaf t m ts) = ap (plain_word s t ∷◌) (plain_leaves_are s ts)
plain_leaves_are s (node p us ts) = ap₂ ◌++◌ (plain_leaves_are s us) (plain_leaves_are s ts) ∙ sym (each_append (plain_word s) (tokens us) (tokens ts))

unfoldable form_opens : Form → ℕ
form_opens [] = 0
form_opens (tok a ∷ f) = bit (opening a) + form_opens f
form_opens (rule x ∷ f) = form_opens f

unfoldable form_closes : Form → ℕ
form_closes [] = 0
form_closes (tok a ∷ f) = bit (closing a) + form_closes f
form_closes (rule x ∷ f) = form_closes f

-- A form closes the braces that it opens.
form_balanced : {x : Rule} {g : Form} → x ⟶ g → form_opens g ≡ form_closes g
unfolding form_opens form_closes bit terminal_code given_code sign_code
form_balanced no_D = refl
form_balanced a_D = refl
form_balanced file_is = refl
form_balanced version_is = refl
form_balanced implementation_is = refl
form_balanced no_spec = refl
form_balanced a_spec = refl
form_balanced spec_is = refl
form_balanced no_definition = refl
form_balanced a_definition = refl
form_balanced an_attribute = refl
form_balanced a_reference = refl
form_balanced an_integer = refl
form_balanced a_float = refl
form_balanced a_string = refl
form_balanced a_boolean = refl
form_balanced an_enum = refl
form_balanced no_auto = refl
form_balanced with_auto = refl
form_balanced no_mark = refl
form_balanced a_mark = refl
form_balanced reference_is = refl
form_balanced no_range = refl
form_balanced no_float_range = refl
form_balanced a_range = refl
form_balanced a_float_range = refl
form_balanced a_list = refl
form_balanced no_number = refl
form_balanced a_number = refl
form_balanced no_boolean_range = refl
form_balanced a_boolean_range = refl
form_balanced enumerator_is = refl
form_balanced no_enumerator = refl
form_balanced an_enumerator = refl
form_balanced no_P = refl
form_balanced a_P = refl
form_balanced no_default = refl
form_balanced a_default = refl
form_balanced own_auto = refl
form_balanced own_none = refl
form_balanced own_number = refl
form_balanced own_string = refl
form_balanced own_float = refl
form_balanced own_true = refl
form_balanced own_false = refl
form_balanced own_name = refl
form_balanced application_is = refl
form_balanced no_object = refl
form_balanced an_object = refl
form_balanced an_object_alone = refl
form_balanced an_object_with = refl
form_balanced no_statement = refl
form_balanced a_statement = refl
form_balanced statement_is = refl
form_balanced value_number = refl
form_balanced value_string = refl
form_balanced value_float = refl
form_balanced value_auto = refl
form_balanced value_name = refl
form_balanced value_true = refl
form_balanced value_false = refl
form_balanced no_block = refl
form_balanced a_block = refl

trees_count : {f : Form} (s : List ℕ) (ts : Trees ◌⟶◌ f) → word_opens (plain_leaves s ts) + form_closes f ≡ word_closes (plain_leaves s ts) + form_opens f
unfolding plain_leaves word_opens word_closes form_opens form_closes plain_word unplaced_word word_of
trees_count s nil = refl
trees_count s (leaf {a} t m ts) =
    let r = trees_count s ts in
    let x = ap bit (agree a t.class m).0 in
    let y = ap bit (agree a t.class m).1 in
    omega arith
trees_count s (node p us ts) =
    let q = trees_count s us in
    let r = trees_count s ts in
    let e = form_balanced p in
    let x = append_opens (plain_leaves s us) (plain_leaves s ts) in
    let y = append_closes (plain_leaves s us) (plain_leaves s ts) in
    omega arith

-- So do the trees of a form of a rule.
pub trees_balanced : {x : Rule} {g : Form} (s : List ℕ) (p : x ⟶ g) (us : Trees ◌⟶◌ g) → word_opens (plain_leaves s us) ≡ word_closes (plain_leaves s us)
trees_balanced s p us = let q = trees_count s us in let e = form_balanced p in omega arith

-- Room for definitions ----------------------------------------------------------------------------------------------------------------------

mutual
  -- With k braces open there is room for definitions: at most sixteen are open around each.
  pub data Room : ℕ → Definitions → Type 0 where
    room_none : {k : ℕ} → Room k no_more
    room_more : {k : ℕ} {d : Definition} {vs : Values} {ds : Definitions} → k ≤ 16 → RoomUnder k vs → Room k ds → Room k (define d vs ds)

  -- Those under the values of a list stand in one brace more.
  pub data RoomUnder : ℕ → Values → Type 0 where
    under_none : {k : ℕ} → RoomUnder k no_value
    under_more : {k : ℕ} {w : Word} {e : ℕ} {us : Definitions} {vs : Values} → Room (suc k) us → RoomUnder k vs → RoomUnder k (value w e us vs)

-- There is room for the definitions of all kinds.
abbrev pub RoomSpecs : ℕ → List Spec → Type 0
RoomSpecs k [] = Unit {0}
RoomSpecs k (x ∷ xs) = Room k x.definitions × RoomSpecs k xs

-- What a rule means has room with k braces open before its first token.
abbrev W : ℕ → (x : Rule) → M x → Type 0
W k file f = RoomSpecs (suc (suc k)) f.specs
W k version v = Unit {0}
W k implementation i = RoomSpecs (suc (suc k)) i.specs
W k specs g = (n e : ℕ) → RoomSpecs (suc k) (g n e)
W k spec g = (n e : ℕ) → Room (suc k) (g n e).definitions
W k definitions g = (n e : ℕ) → Room k (g n e)
W k definition g = (n e : ℕ) → RoomUnder k (g n e).values
W k attribute g = (n e : ℕ) → RoomUnder k (g n e).values
W k reference-rule g = (n e : ℕ) → RoomUnder k (g n e).values
W k D m = Unit {0}
W k P g = (n e : ℕ) → Room (suc k) (g n e)
W k auto m = Unit {0}
W k mark m = Unit {0}
W k integer_range r = Unit {0}
W k float_range r = Unit {0}
W k numbers ts = Unit {0}
W k boolean_range g = (n e : ℕ) → RoomUnder k (g n e).values
W k enumerator g = (n e : ℕ) → Room (suc k) (g n e).under
W k enumerators g = (n e : ℕ) → RoomUnder k (g n e)
W k application a = Unit {0}
W k objects g = Unit {0}
W k object g = Unit {0}
W k block b = Unit {0}
W k statements g = Unit {0}
W k statement g = Unit {0}
W k value-rule v = Unit {0}
W k (default s) o = Unit {0}
W k (own s) t = Unit {0}

-- So it is for each tree of a form, behind a `{` and b `}`.
abbrev All : {f : Form} → List ℕ → ℕ → ℕ → Trees ◌⟶◌ f → Type 0
All s a b nil = Unit {0}
All s a b (leaf {a = x} t m ts) = All s (bit (opening x) + a) (bit (closing x) + b) ts
All s a b (node {x} p us ts) = ((k : ℕ) → a ≡ b + k → W k x (means p (meaning s us))) × All s a b ts

means_room : {x : Rule} {g : Form} (s : List ℕ) (p : x ⟶ g) (us : Trees ◌⟶◌ g) (a b k : ℕ) → a ≡ b + k → k ≤ 16 → All s a b us → W k x (means p (meaning s us))
unfolding means meaning first_value truths defined defining specifying bit terminal_code given_code sign_code
means_room s file_is (node _ v (node _ i (node _ c nil))) a b k e l h = h.1.0 k e
means_room s implementation_is (leaf _ _ (leaf _ _ (leaf _ _ (node _ ss (leaf _ _ (node _ d (leaf _ _ nil))))))) a b k e l h = h.0 (suc k) (omega arith) 0 0
means_room s no_spec nil a b k e l h = λ n m. tt
means_room s a_spec (node _ x (node _ xs nil)) a b k e l h = λ n m. (h.0 k e n m, h.1.0 k e _ _)
means_room s spec_is (leaf _ _ (leaf _ _ (node _ d r))) a b k e l h = h.0 (suc k) (omega arith)
means_room s no_definition nil a b k e l h = λ n m. room_none
means_room s a_definition (node _ x (node _ xs nil)) a b k e l h = λ n m. room_more l (h.0 k e n m) (h.1.0 k e _ _)
means_room s an_attribute (node _ x nil) a b k e l h = h.0 k e
means_room s a_reference (node _ x nil) a b k e l h = h.0 k e
means_room s an_integer (leaf _ _ (node _ c (node _ r (leaf x _ (node _ i (node _ d z)))))) a b k e l h = λ n m. under_none
means_room s a_float (leaf _ _ (node _ c (node _ r (leaf x _ (node _ i (node _ d z)))))) a b k e l h = λ n m. under_none
means_room s a_string (leaf _ _ (node _ c (leaf x _ (node _ i (node _ d z))))) a b k e l h = λ n m. under_none
means_room s a_boolean (leaf _ _ (node _ c (node _ r (leaf x _ (node _ i (node _ d z)))))) a b k e l h = h.1.0 k (omega arith)
means_room s an_enum (leaf _ _ (node _ c (leaf _ _ (node q v (node r vs (leaf _ _ (leaf x _ (node _ i (node _ d z))))))))) a b k e l h = λ n m.
    under_more (h.1.0 k (omega arith) n m) (h.1.1.0 k (omega arith) _ _)
means_room s reference_is (leaf _ _ (leaf x _ (node _ i r))) a b k e l h = λ n m. under_none
means_room s no_P nil a b k e l h = λ n m. room_none
means_room s a_P (leaf _ _ (node _ d (leaf _ _ nil))) a b k e l h = h.0 (suc k) (omega arith)
means_room s no_boolean_range nil a b k e l h = λ n m. under_none
means_room s a_boolean_range (leaf _ _ (leaf t _ (node _ us (node _ d (leaf _ _ (leaf f _ (node _ vs (node _ z r)))))))) a b k e l h = λ n m.
    under_more (h.0 k (omega arith) _ _) (under_more (h.1.1.0 k (omega arith) _ _) under_none)
means_room s enumerator_is (leaf w _ (node _ us (node _ d nil))) a b k e l h = λ n m. h.0 k (omega arith) n (suc m)
means_room s no_enumerator nil a b k e l h = λ n m. under_none
means_room s an_enumerator (leaf _ _ (node q v (node r vs nil))) a b k e l h = λ n m.
    under_more (h.0 k (omega arith) n m) (h.1.0 k (omega arith) _ _)
means_room s version_is us a b k e l h = tt
means_room s no_D us a b k e l h = tt
means_room s a_D us a b k e l h = tt
means_room s no_auto us a b k e l h = tt
means_room s with_auto us a b k e l h = tt
means_room s no_mark us a b k e l h = tt
means_room s a_mark us a b k e l h = tt
means_room s no_range us a b k e l h = tt
means_room s no_float_range us a b k e l h = tt
means_room s a_range us a b k e l h = tt
means_room s a_float_range us a b k e l h = tt
means_room s a_list us a b k e l h = tt
means_room s no_number us a b k e l h = tt
means_room s a_number us a b k e l h = tt
means_room s no_default us a b k e l h = tt
means_room s a_default us a b k e l h = tt
means_room s own_auto us a b k e l h = tt
means_room s own_none us a b k e l h = tt
means_room s own_number us a b k e l h = tt
means_room s own_string us a b k e l h = tt
means_room s own_float us a b k e l h = tt
means_room s own_true us a b k e l h = tt
means_room s own_false us a b k e l h = tt
means_room s own_name us a b k e l h = tt
means_room s application_is us a b k e l h = tt
means_room s no_object us a b k e l h = tt
means_room s an_object us a b k e l h = tt
means_room s an_object_alone us a b k e l h = tt
means_room s an_object_with us a b k e l h = tt
means_room s no_block us a b k e l h = tt
means_room s a_block us a b k e l h = tt
means_room s no_statement us a b k e l h = tt
means_room s a_statement us a b k e l h = tt
means_room s statement_is us a b k e l h = tt
means_room s value_number us a b k e l h = tt
means_room s value_string us a b k e l h = tt
means_room s value_float us a b k e l h = tt
means_room s value_auto us a b k e l h = tt
means_room s value_name us a b k e l h = tt
means_room s value_true us a b k e l h = tt
means_room s value_false us a b k e l h = tt

all_room : {f : Form} (s : List ℕ) (ts : Trees ◌⟶◌ f) (a b : ℕ) → Low a b (plain_leaves s ts) → All s a b ts
unfolding plain_leaves plain_word unplaced_word word_of
all_room s nil a b h = tt
all_room s (leaf {a = z} t m ts) a b h =
    let x = ap bit (agree z t.class m).0 in
    let y = ap bit (agree z t.class m).1 in
    all_room s ts (bit (opening z) + a) (bit (closing z) + b) (low_shift (plain_leaves s ts) _ _ (bit (opening z) + a) (bit (closing z) + b) (omega arith) h.1)
all_room s (node p us ts) a b h =
    let e = trees_balanced s p us in
    let i = low_front (plain_leaves s us) (plain_leaves s ts) a b h in
    let j = low_here (plain_leaves s us) a b i in
    let r = all_room s us a b i in
    (λ k e. means_room s p us a b k e (omega arith) r, all_room s ts a b (low_back (plain_leaves s us) (plain_leaves s ts) a b a b (omega arith) h))

-- There is room for the definitions of a text's kinds within two braces, where the text is never too deep.
pub specs_room : (s : List ℕ) (t : Trees ◌⟶◌ (file ▸ ∎)) → Low 0 0 (plain_leaves s t) → RoomSpecs 2 (syntax s t).specs
unfolding syntax meaning
specs_room s (node p us nil) h = (all_room s (node p us nil) 0 0 h).0 0 refl
