-- THE ISOLATION: two accepted texts that differ only between the braces of one object, which pair with each other in both. Assumes nothing.
use mathlib.Core.Path.{◌≡◌, refl, sym, ◌∙◌, ap, ap₂, subst}
use mathlib.Core.List.{List, [], ◌∷◌, ◌++◌, map, append_assoc, append-nil}
use mathlib.Core.Bool.{true, false≢true}
use mathlib.Core.Option.{some}
use Prim.Native.Nat.{ℕ, suc, ◌+◌, ◌-◌}
use native.Mathlib.Omega.{arith}
use lib.ListN.{length, length-append, drop}
use lib.Seq.{drop-append-add, drop-append_seam}
use Rattle.grammar.specs.Grammar.{Token, Kind, matches, sg, rbrace, colon, semicolon, Form, ◌▸◌, ∎, ◌⟶◌, Trees, nil, leaf, node, file, file_is, application_is, an_object_alone, an_object_with, no_D, a_D, Derivation, tokens as Leaves-of}
use Rattle.grammar.specs.Terminals.{tokens}
use Rattle.grammar.proofs.Braces.{terminal_code, agree}
use Rattle.meaning.specs.Syntax.{Word}
use Rattle.meaning.specs.Actions.{word_of}
use Rattle.meaning.specs.Places.{each}
use Rattle.meaning.specs.Answers.{Tables, accepted}
use Rattle.meaning.specs.Reading.{reading}
use Rattle.meaning.proofs.Unplaced.{unplaced_word, each_append}
use Rattle.reads_back.proofs.Restated.{plain_word}
use Rattle.channels.specs.Neighbours.{ObjectTree, braces, key_in, Inside, Pairs}
use Rattle.channels.proofs.Computed.{channel_of}
use Rattle.channels.proofs.ObjectTrees.{join_trees, rest_trees, all_leaves, with_objects, front_leaves, back_leaves, with_own}
use Rattle.channels.proofs.Saying.{brace_stops, until_says, words_in, piece_says, back_words}
use Rattle.channels.proofs.ObjectTokens.{accepted_derivation}
use Rattle.channels.proofs.Emptying.{emptied}
use Rattle.channels.proofs.Isolation.{one_leaves, object_of, E, F, front_words, emptied_words, isolated}
use Rattle.channels.proofs.Pairing.{is_open, is_close, Level, form_level, pair_match, neat, empty_at, empty_tokens}
use Rattle.channels.proofs.Shapes.{classes, shape, size_is, same_shape, sizes, objects_shape, front_size, Third, third_here, third_later, three_tokens}
use Rattle.channels.proofs.Locating.{ThirdIn, LocatedIn, locate_in}

-- The shape of a file with other objects -----------------------------------------------------------------------------------------------------

abbrev lengths : List ObjectTree → List ℕ
lengths [] = []
lengths (x ∷ l) = length (Leaves-of x) ∷ lengths l

join_sizes : {f : Form} (l : List ObjectTree) (r : Trees ◌⟶◌ f) → sizes (shape (join_trees l r)) ≡ lengths l
unfolding join_trees shape sizes Leaves-of
join_sizes [] r = refl
join_sizes (node p x nil ∷ l) r = ap₂ ◌∷◌ (size_is x ∙ ap length (sym (append-nil (Leaves-of x)))) (join_sizes l nil)

with_front : (t : Trees ◌⟶◌ (file ▸ ∎)) (l : List ObjectTree) → front_size (shape (with_objects t l)) ≡ length (front_leaves t)
unfolding with_objects shape front_size front_leaves
with_front (node file_is (node p v (node q i (node application_is (leaf a k (leaf b m (leaf c n os))) nil))) nil) l =
    let x = size_is v in
    let y = size_is i in
    let s = length-append (Leaves-of v) (Leaves-of i ++ (a ∷ b ∷ c ∷ [])) in
    let u = length-append (Leaves-of i) (a ∷ b ∷ c ∷ []) in
    omega arith

with_sizes : (t : Trees ◌⟶◌ (file ▸ ∎)) (l : List ObjectTree) → sizes (objects_shape (shape (with_objects t l))) ≡ lengths l
unfolding with_objects shape objects_shape
with_sizes (node file_is (node p v (node q i (node application_is (leaf a k (leaf b m (leaf c n os))) nil))) nil) l = join_sizes l (rest_trees os)

third_of : (b a : List ObjectTree) (x : ObjectTree) → Third (lengths (b ++ (x ∷ a))) (length (all_leaves b) + 2)
unfolding all_leaves
third_of [] a x = third_here (let z : 0 + 2 ≡ 2 = omega arith in z) (three_tokens x)
third_of (y ∷ b) a x =
    let l = length-append (Leaves-of y) (all_leaves b) in
    let e : length (Leaves-of y ++ all_leaves b) + 2 ≡ length (Leaves-of y) + (length (all_leaves b) + 2) = omega arith in
    third_later (length (all_leaves b) + 2) e (third_of b a x)

-- An object by its third token -----------------------------------------------------------------------------------------------------------------

not_open : (o z : Token) → matches (sg semicolon) z.class ≡ true → z ≡ o → is_open o ≡ true → ⊥
unfolding terminal_code
not_open o z m e h = false≢true (sym (agree (sg semicolon) z.class m).0 ∙ ap (λ (t : Token). is_open t) e ∙ h)

colon_not_open : (o z : Token) → matches (sg colon) z.class ≡ true → z ≡ o → is_open o ≡ true → ⊥
unfolding terminal_code
colon_not_open o z m e h = false≢true (sym (agree (sg colon) z.class m).0 ∙ ap (λ (t : Token). is_open t) e ∙ h)

object_third : (x : ObjectTree) (Q : List Token) (o c : Token) (S R : List Token) → drop 2 (Leaves-of x ++ Q) ≡ o ∷ (S ++ (c ∷ R)) → is_open o ≡ true → is_close c ≡ true
    → Level 0 S → braces x ≡ some (record { opening = o; closing = c })
unfolding Leaves-of braces terminal_code
object_third (node an_object_alone (leaf t _ (leaf n _ (node no_D nil (leaf z m nil)))) nil) Q o c S R e h k s =
    let i : z ≡ o = cc in absurd (not_open o z m i h)
object_third (node an_object_alone (leaf t _ (leaf n _ (node a_D (leaf y m (leaf w _ nil)) (leaf z _ nil)))) nil) Q o c S R e h k s =
    let i : y ≡ o = cc in absurd (colon_not_open o y m i h)
object_third (node an_object_with (leaf t _ (leaf n _ (leaf y _ (node q ss (leaf z m r))))) nil) Q o c S R e h k s =
    let i : y ≡ o = cc in
    let j : ((Leaves-of ss ++ (z ∷ Leaves-of r)) ++ []) ++ Q ≡ S ++ (c ∷ R) = cc in
    let l : Leaves-of ss ++ (z ∷ (Leaves-of r ++ Q)) ≡ S ++ (c ∷ R) =
    sym (ap (◌++ Q) (append-nil (Leaves-of ss ++ (z ∷ Leaves-of r))) ∙ append_assoc (Leaves-of ss) (z ∷ Leaves-of r) Q) ∙ j in
    let w = (pair_match (Leaves-of ss) S z c (Leaves-of r ++ Q) R (form_level q ss) s (agree (sg rbrace) z.class m).1 k l).1 in
    let v : z ≡ c = cc in
    ap₂ (λ a b. some (record { opening = a; closing = b })) i v

-- The second text ------------------------------------------------------------------------------------------------------------------------------

words_classes : (s : List ℕ) (l : List Token) → map (λ (w : Word). w.class) (each (plain_word s) l) ≡ classes l
unfolding each plain_word unplaced_word word_of
words_classes s [] = refl
words_classes s (t ∷ l) = ap (t.class ∷◌) (words_classes s l)

each_length : (s : List ℕ) (l : List Token) → length (each (plain_word s) l) ≡ length l
unfolding each
each_length s [] = refl
each_length s (t ∷ l) = ap suc (each_length s l)

module _ (a i j b : List ℕ) (x : Inside a i b) (u : Tables) (accepts : reading (a ++ (j ++ b)) ≡ accepted u) (y : Pairs a j b) where
  abbrev s : List ℕ
  s = a ++ (i ++ b)

  abbrev v : List ℕ
  v = a ++ (j ++ b)

  derivation : Derivation (tokens v)
  derivation = accepted_derivation v u accepts

  abbrev T : Trees ◌⟶◌ (file ▸ ∎)
  T = derivation.tree

  abbrev n : ℕ
  n = length y.front

  level : Level 0 y.inner
  level = record { front = λ l m e. let h = y.never_more l m e in omega arith; total = let h = y.as_many in omega arith }

  cleared_leaves : Leaves-of (empty_at T n) ≡ (y.front ++ (y.opening ∷ [])) ++ (y.closing ∷ y.back)
  unfolding neat
  cleared_leaves =
      empty_tokens y.closing y.is_closing y.opening y.is_opening T y.front y.inner y.back refl (derivation.leaves ∙ y.whole) level
      ∙ sym (append_assoc y.front (y.opening ∷ []) (y.closing ∷ y.back))

  opening_words : each (plain_word v) (y.front ++ (y.opening ∷ [])) ≡ words_in a
  opening_words =
      piece_says (until_says a (j ++ b) y.front y.opening (y.inner ++ (y.closing ∷ y.back))
      (y.whole ∙ sym (append_assoc y.front (y.opening ∷ []) (y.inner ++ (y.closing ∷ y.back)))) y.opens_at (brace_stops y.opening.class y.is_opening))

  closing_words : each (plain_word v) (y.closing ∷ y.back) ≡ words_in b
  closing_words =
      let l = length-append a j in
      let c = y.closes_at in
      ap (λ z. each (plain_word z) (y.closing ∷ y.back)) (sym (append_assoc a j b))
      ∙ back_words (a ++ j) b (y.front ++ (y.opening ∷ y.inner)) y.closing y.back
      (ap tokens (append_assoc a j b) ∙ y.whole ∙ sym (append_assoc y.front (y.opening ∷ y.inner) (y.closing ∷ y.back))) (omega arith)

  same_classes : classes (Leaves-of (empty_at T n)) ≡ classes (Leaves-of (E a i b x))
  same_classes =
      sym (words_classes v (Leaves-of (empty_at T n)))
      ∙ ap (map (λ (w : Word). w.class))
      (ap (each (plain_word v)) cleared_leaves ∙ each_append (plain_word v) (y.front ++ (y.opening ∷ [])) (y.closing ∷ y.back) ∙ ap₂ ◌++◌ opening_words closing_words
      ∙ sym (emptied_words a i b x))
      ∙ words_classes s (Leaves-of (E a i b x))

  -- The `{` is as many tokens behind the text's begin as in the first text.
  n_is : n ≡ length (front_leaves x.derivation.tree) + (length (all_leaves x.before) + 2)
  n_is =
      let p = ap length (opening_words ∙ sym (front_words a i b x)) in
      let q = each_length v (y.front ++ (y.opening ∷ [])) in
      let r = each_length s (F a i b x ++ (x.pair.opening ∷ [])) in
      let l = length-append y.front (y.opening ∷ []) in
      let m = length-append (F a i b x) (x.pair.opening ∷ []) in
      let o = object_of a i b x in
      let k = length-append (front_leaves x.derivation.tree ++ all_leaves x.before) (o.kind ∷ o.name ∷ []) in
      let h = length-append (front_leaves x.derivation.tree) (all_leaves x.before) in
      omega arith

  third_in : ThirdIn (shape (empty_at T n)) n
  third_in =
      let l = x.before ++ (emptied x.this ∷ x.after) in
      let e = with_front x.derivation.tree l in
      let k = n_is in
      let z : length (all_leaves x.before) + 2 ≡ n - front_size (shape (E a i b x)) = omega arith in
      subst (λ q. ThirdIn q n) (sym (same_shape (E a i b x) (empty_at T n) same_classes))
      (record {
        low = omega arith;
        third = subst (λ q. Third q (n - front_size (shape (E a i b x)))) (sym (with_sizes x.derivation.tree l)) (subst (Third (lengths l)) z (third_of x.before x.after (emptied x.this)));
      })

  place : LocatedIn T n
  place = locate_in T n third_in

  -- So it is what stands between the braces of one object.
  inside : Inside a j b
  inside =
      let r = place.located in
      let A = front_leaves T ++ all_leaves r.before in
      let Q = all_leaves r.after ++ back_leaves T in
      let w : A ++ (Leaves-of r.this ++ Q) ≡ y.front ++ (y.opening ∷ (y.inner ++ (y.closing ∷ y.back))) =
      sym (ap Leaves-of (sym (with_own T) ∙ ap (with_objects T) r.whole) ∙ one_leaves T r.before r.after r.this) ∙ derivation.leaves ∙ y.whole in
      let p = r.place_is in
      let q = place.low in
      let h = length-append (front_leaves T) (all_leaves r.before) in
      let m : n ≡ length A + 2 = omega arith in
      let d : drop 2 (Leaves-of r.this ++ Q) ≡ y.opening ∷ (y.inner ++ (y.closing ∷ y.back)) =
      sym (drop-append-add A (Leaves-of r.this ++ Q) 2) ∙ ap₂ (λ k l. drop k l) (sym m) w ∙ drop-append_seam y.front (y.opening ∷ (y.inner ++ (y.closing ∷ y.back))) in
      record {
        derivation = derivation;
        before = r.before;
        this = r.this;
        after = r.after;
        objects_are = r.whole;
        pair = record { opening = y.opening; closing = y.closing };
        braces_are = object_third r.this Q y.opening y.closing y.inner y.back d y.is_opening y.is_closing level;
        opens = y.opens_at;
        closes = y.closes_at;
      }

-- Two texts that differ between the braces of one part, which pair in both.
pub pairs_isolated : (a i j b : List ℕ) (t u : Tables) → reading (a ++ (i ++ b)) ≡ accepted t → reading (a ++ (j ++ b)) ≡ accepted u
    → (x : Inside a i b) → Pairs a j b → (k : Kind) (n : List ℕ) → (key_in (a ++ (i ++ b)) x.this ≡ record { kind = k; name = n } → ⊥)
    → channel_of (a ++ (j ++ b)) k n ≡ channel_of (a ++ (i ++ b)) k n
pairs_isolated a i j b t u e f x y k n h = isolated a i j b t u e f x (inside a i j b x u f y) k n h
