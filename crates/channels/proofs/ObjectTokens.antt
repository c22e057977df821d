-- The tokens of a file's objects among those of the file. Assumes nothing.
use mathlib.Core.Path.{◌≡◌, sym, ◌∙◌, ap, subst}
use mathlib.Core.List.{List, [], ◌∷◌, ◌++◌, append_assoc, append-nil}
use mathlib.Core.Bool.{Bool, true, false, false≢true}
use Prim.Native.Nat.{ℕ}
use Rattle.grammar.specs.Grammar.{Token, ◌▸◌, ∎, ◌⟶◌, Trees, nil, leaf, node, file, file_is, application_is, an_object_alone, an_object_with, Derivation, tokens as Leaves-of}
use Rattle.grammar.specs.Terminals.{tokens}
use Rattle.grammar.specs.Demand.{Covered}
use Rattle.meaning.specs.Places.{each}
use Rattle.meaning.specs.Answers.{Tables, Answer, accepted}
use Rattle.meaning.specs.Reading.{Answers, too_long, not_grammar, meant, reading}
use Rattle.meaning.proofs.Whole.{answers}
use Rattle.reads_back.proofs.Restated.{plain_word, word_opens, word_closes}
use Rattle.reads_back.proofs.DepthTrees.{plain_leaves_are, trees_balanced}
use Rattle.channels.specs.Neighbours.{ObjectTree, object_trees}
use Rattle.channels.proofs.ObjectTrees.{all_leaves, leaves_append, with_objects, front_leaves, back_leaves, with_own, with_trees}
use Rattle.channels.proofs.Saying.{brace_stops, Ending, ending_append, Ends, object_ending}

-- An object from its kind's word through its semicolon.
pub object_ends : (x : ObjectTree) → Ends (Leaves-of x)
unfolding Leaves-of
object_ends (node an_object_alone (leaf t _ (leaf n _ (node p d (leaf c h nil)))) nil) =
    record { first = t; mid = n ∷ Leaves-of d; final = c; leaves = append-nil (t ∷ n ∷ (Leaves-of d ++ (c ∷ []))); final_is = h }
object_ends (node an_object_with (leaf t _ (leaf n _ (leaf o _ (node q ss (leaf r _ (node p d (leaf c h nil))))))) nil) =
    record {
      first = t;
      mid = n ∷ o ∷ (Leaves-of ss ++ (r ∷ Leaves-of d));
      final = c;
      leaves = append-nil (t ∷ n ∷ o ∷ (Leaves-of ss ++ (r ∷ (Leaves-of d ++ (c ∷ [])))))
          ∙ ap (λ l. t ∷ n ∷ o ∷ l) (sym (append_assoc (Leaves-of ss) (r ∷ Leaves-of d) (c ∷ [])));
      final_is = h;
    }

-- It closes the braces that it opens.
pub object_balanced : (s : List ℕ) (x : ObjectTree) → word_opens (each (plain_word s) (Leaves-of x)) ≡ word_closes (each (plain_word s) (Leaves-of x))
unfolding Leaves-of
object_balanced s (node p us nil) =
    subst (λ l. word_opens l ≡ word_closes l) (plain_leaves_are s us ∙ ap (each (plain_word s)) (sym (append-nil (Leaves-of us)))) (trees_balanced s p us)

-- Tokens before an object end with a sign.
front_ending : (t : Trees ◌⟶◌ (file ▸ ∎)) → Ending (front_leaves t)
unfolding front_leaves
front_ending (node file_is (node p v (node q i (node application_is (leaf a k (leaf b m (leaf c n os))) nil))) nil) =
    ending_append (Leaves-of v) (Leaves-of i ++ (a ∷ b ∷ c ∷ [])) (ending_append (Leaves-of i) (a ∷ b ∷ c ∷ []) (brace_stops c.class n))

objects_ending : (l : List ObjectTree) (a : List Token) → Ending a → Ending (a ++ all_leaves l)
unfolding all_leaves
objects_ending [] a h = subst Ending (sym (append-nil a)) h
objects_ending (x ∷ l) a h =
    subst Ending (append_assoc a (Leaves-of x) (all_leaves l)) (objects_ending l (a ++ Leaves-of x) (ending_append a (Leaves-of x) (object_ending (object_ends x))))

pub before_ending : (t : Trees ◌⟶◌ (file ▸ ∎)) (l : List ObjectTree) → Ending (front_leaves t ++ all_leaves l)
before_ending t l = objects_ending l (front_leaves t) (front_ending t)

-- The tokens of a file, spread.
five : {A : Type 0} (f a x y b k : List A) → f ++ ((a ++ (x ++ (y ++ b))) ++ k) ≡ (f ++ a) ++ (x ++ (y ++ (b ++ k)))
five f a x y b k =
    ap (f ++◌) (append_assoc a (x ++ (y ++ b)) k ∙ ap (a ++◌) (append_assoc x (y ++ b) k ∙ ap (x ++◌) (append_assoc y b k)))
    ∙ sym (append_assoc f a (x ++ (y ++ (b ++ k))))

pub spread : (t : Trees ◌⟶◌ (file ▸ ∎)) (a b : List ObjectTree) (x y : ObjectTree)
    → Leaves-of (with_objects t (a ++ (x ∷ y ∷ b))) ≡ (front_leaves t ++ all_leaves a) ++ (Leaves-of x ++ (Leaves-of y ++ (all_leaves b ++ back_leaves t)))
unfolding all_leaves
spread t a b x y =
    with_trees t (a ++ (x ∷ y ∷ b)) ∙ ap (λ z. front_leaves t ++ (z ++ back_leaves t)) (leaves_append a (x ∷ y ∷ b))
    ∙ five (front_leaves t) (all_leaves a) (Leaves-of x) (Leaves-of y) (all_leaves b) (back_leaves t)

-- Those of a text.
pub text_spread : (s : List ℕ) (d : Derivation (tokens s)) (a b : List ObjectTree) (x y : ObjectTree) → object_trees d.tree ≡ a ++ (x ∷ y ∷ b)
    → tokens s ≡ (front_leaves d.tree ++ all_leaves a) ++ (Leaves-of x ++ (Leaves-of y ++ (all_leaves b ++ back_leaves d.tree)))
text_spread s d a b x y e = sym d.leaves ∙ ap Leaves-of (sym (with_own d.tree) ∙ ap (with_objects d.tree) e) ∙ spread d.tree a b x y

-- An accepted text is covered.
by_answer : {s : List ℕ} {a : Answer} (t : Tables) → Answers s a → a ≡ accepted t → Covered s
by_answer t (too_long k) e = absurd (let z : ◌≡◌ {A = Bool} false true = cc in false≢true z)
by_answer t (not_grammar a k m q) e = absurd (let z : ◌≡◌ {A = Bool} false true = cc in false≢true z)
by_answer t (meant w d) e = w

pub accepted_covered : (s : List ℕ) (t : Tables) → reading s ≡ accepted t → Covered s
accepted_covered s t e = by_answer t (answers s) e

-- It has a derivation.
by_meant : {s : List ℕ} {a : Answer} (t : Tables) → Answers s a → a ≡ accepted t → Derivation (tokens s)
by_meant t (too_long k) e = absurd (let z : ◌≡◌ {A = Bool} false true = cc in false≢true z)
by_meant t (not_grammar a k m q) e = absurd (let z : ◌≡◌ {A = Bool} false true = cc in false≢true z)
by_meant t (meant w d) e = d

pub accepted_derivation : (s : List ℕ) (t : Tables) → reading s ≡ accepted t → Derivation (tokens s)
accepted_derivation s t e = by_meant t (answers s) e
