-- "No channel may depend on its neighbours" (document 02, Q-12): its two statements. Assumes nothing.
use Rattle.std.specs.Prelude.{◌≡◌, List, [], ◌∷◌, ◌++◌, true, ℕ, ◌+◌, ◌≤◌, length, take, drop}
use Rattle.std.proofs.Math.Option.{Option, none, some}
use Rattle.token.specs.Tokens.{bytes_between}
use Rattle.grammar.specs.Grammar.{Token, matches, sg, lbrace, rbrace, Form, ◌▸◌, ∎, ◌⟶◌, Trees, nil, leaf, node, file, objects, object, file_is, application_is, no_object, an_object, an_object_alone, an_object_with, Kind, Derivation, tokens as Leaves-of}
use Rattle.grammar.specs.Terminals.{tokens}
use Rattle.grammar.specs.Stage.{opens, closes}
use Rattle.meaning.specs.Actions.{meaning, syntax}
use Rattle.meaning.specs.Answers.{Tables, accepted}
use Rattle.meaning.specs.Reading.{Answers}
use Rattle.meaning.specs.Rules.{TheAnswer}
use Rattle.channels.specs.Channels.{Key, key_of}
use Rattle.channels.specs.Channels.{channel}

-- The parts of a derivation -------------------------------------------------------------------------------------------------------------------

-- The tree of one part: an object of the grammar, which may continue one before it (document 02, Q-2).
abbrev pub ObjectTree : Type 0
ObjectTree = Trees ◌⟶◌ (object ▸ ∎)

unfoldable pub each_tree : {f : Form} → Trees ◌⟶◌ (objects ▸ f) → List ObjectTree
each_tree (node no_object nil ts) = []
each_tree (node an_object (node p x xs) ts) = node p x nil ∷ each_tree xs

-- The parts of a file, in text order.
unfoldable pub object_trees : Trees ◌⟶◌ (file ▸ ∎) → List ObjectTree
object_trees (node file_is (node _ v (node _ i (node application_is (leaf _ _ (leaf _ _ (leaf _ _ os))) nil))) nil) = each_tree os

-- "each from kind word through semicolon": where the first of a part's tokens begins, and where the last one ends.
unfoldable pub first_place : List Token → ℕ
first_place [] = 0
first_place (t ∷ l) = t.place

unfoldable pub end_of_last : List Token → ℕ
end_of_last [] = 0
end_of_last (t ∷ []) = t.place + t.length
end_of_last (t ∷ u ∷ l) = end_of_last (u ∷ l)

-- The braces of a part that has some.
pub record Pair : Type 0 where
  pub opening : Token
  pub closing : Token

unfoldable pub braces : ObjectTree → Option Pair
braces (node an_object_alone us nil) = none
braces (node an_object_with (leaf _ _ (leaf _ _ (leaf o _ (node _ ss (leaf c _ r))))) nil) = some (record { opening = o; closing = c })

-- Its kind and name, in the text s.
unfoldable pub key_in : List ℕ → ObjectTree → Key
key_in s x = key_of ((meaning s x).0 0 0)

-- The statements -----------------------------------------------------------------------------------------------------------------------------

-- The channel of the kind k and the name n is the same in the texts s and u, by any derivations of their tokens (each has one and no other).
abbrev pub SameChannel : List ℕ → List ℕ → Kind → List ℕ → Type 0
SameChannel s u k n = (d : Derivation (tokens s)) (e : Derivation (tokens u)) → channel (syntax u e.tree) k n ≡ channel (syntax s d.tree) k n

-- The rules accept the text u, and each channel of it is that of s: "every object has the same resolved values, and each reference leads to the
-- same kind and name".
pub record Unchanged (s u : List ℕ) : Type 0 where
  pub tables : Tables
  pub accepts : TheAnswer u (accepted tables)
  pub same : (k : Kind) (n : List ℕ) → SameChannel s u k n

-- x and y are "two neighbouring objects or parts of different ones" in the text a x m y b, "each from kind word through semicolon".
pub record Neighbours (a x m y b : List ℕ) : Type 0 where
  pub derivation : Derivation (tokens (a ++ (x ++ (m ++ (y ++ b)))))
  pub before : List ObjectTree
  pub one : ObjectTree
  pub other : ObjectTree
  pub after : List ObjectTree
  pub objects_are : object_trees derivation.tree ≡ before ++ (one ∷ other ∷ after)
  pub different : key_in (a ++ (x ++ (m ++ (y ++ b)))) one ≡ key_in (a ++ (x ++ (m ++ (y ++ b)))) other → ⊥
  pub one_begins : first_place (Leaves-of one) ≡ length a
  pub one_ends : end_of_last (Leaves-of one) ≡ length a + length x
  pub other_begins : first_place (Leaves-of other) ≡ length a + (length x + length m)
  pub other_ends : end_of_last (Leaves-of other) ≡ length a + (length x + (length m + length y))

-- i is what stands "between the braces of one object or part" in the text a i b.
pub record Inside (a i b : List ℕ) : Type 0 where
  pub derivation : Derivation (tokens (a ++ (i ++ b)))
  pub before : List ObjectTree
  pub this : ObjectTree
  pub after : List ObjectTree
  pub objects_are : object_trees derivation.tree ≡ before ++ (this ∷ after)
  pub pair : Pair
  pub braces_are : braces this ≡ some pair
  pub opens : pair.opening.place + pair.opening.length ≡ length a
  pub closes : pair.closing.place ≡ length a + length i

-- The `{` with which a ends and the `}` with which b begins "pair with each other" in the text a i b: as many `}` as `{` stand between them, and
-- in no front part of what stands between them more.
pub record Pairs (a i b : List ℕ) : Type 0 where
  pub front : List Token
  pub opening : Token
  pub inner : List Token
  pub closing : Token
  pub back : List Token
  pub whole : tokens (a ++ (i ++ b)) ≡ front ++ (opening ∷ (inner ++ (closing ∷ back)))
  pub is_opening : matches (sg lbrace) opening.class ≡ true
  pub is_closing : matches (sg rbrace) closing.class ≡ true
  pub opens_at : opening.place + opening.length ≡ length a
  pub closes_at : closing.place ≡ length a + length i
  pub never_more : (l m : List Token) → inner ≡ l ++ m → closes l ≤ opens l
  pub as_many : closes inner ≡ opens inner

-- "In an accepted text, exchange two neighbouring objects or parts of different ones ..: the text is accepted, every object has the same resolved values, and each
-- reference leads to the same kind and name."
abbrev pub Exchange : Type 0
Exchange = (a x m y b : List ℕ) (t : Tables) → Answers (a ++ (x ++ (m ++ (y ++ b)))) (accepted t) → Neighbours a x m y b
    → Unchanged (a ++ (x ++ (m ++ (y ++ b)))) (a ++ (y ++ (m ++ (x ++ b))))

-- The text s with two of its parts exchanged, by their places: what stands before them, the second, what stands between them, the first, and what
-- stands after them.
unfoldable pub exchanged : List ℕ → (one other : ObjectTree) → List ℕ
exchanged s one other =
    let p = first_place (Leaves-of one) in
    let q = end_of_last (Leaves-of one) in
    let r = first_place (Leaves-of other) in
    let e = end_of_last (Leaves-of other) in
    take p s ++ (bytes_between s r e ++ (bytes_between s q r ++ (bytes_between s p q ++ drop e s)))

-- The same for any two neighbouring parts of different objects, of any accepted text.
abbrev pub ExchangeAll : Type 0
ExchangeAll = (s : List ℕ) (t : Tables) → Answers s (accepted t) → (d : Derivation (tokens s)) (before after : List ObjectTree) (one other : ObjectTree)
    → object_trees d.tree ≡ before ++ (one ∷ other ∷ after) → (key_in s one ≡ key_in s other → ⊥) → Unchanged s (exchanged s one other)

-- What follows the place p of the text s, where the parts l stand, with pairs of neighbouring parts of different objects exchanged.
pub data Exchanges (s : List ℕ) : ℕ → List ObjectTree → List ℕ → Type 0 where
  -- the rest as it stands
  rest_stands : (p : ℕ) (l : List ObjectTree) → Exchanges s p l (drop p s)
  -- a part as it stands, with what stands before it
  part_stands : (p : ℕ) (x : ObjectTree) (l : List ObjectTree) (u : List ℕ) → Exchanges s (end_of_last (Leaves-of x)) l u → Exchanges s p (x ∷ l) (bytes_between s p (end_of_last (Leaves-of x)) ++ u)
  -- two parts exchanged
  two_exchanged : (p : ℕ) (x y : ObjectTree) (l : List ObjectTree) (u : List ℕ) → (key_in s x ≡ key_in s y → ⊥) → Exchanges s (end_of_last (Leaves-of y)) l u
      → Exchanges s p (x ∷ y ∷ l)
      (bytes_between s p (first_place (Leaves-of x))
      ++ (bytes_between s (first_place (Leaves-of y)) (end_of_last (Leaves-of y))
      ++ (bytes_between s (end_of_last (Leaves-of x)) (first_place (Leaves-of y)) ++ (bytes_between s (first_place (Leaves-of x)) (end_of_last (Leaves-of x)) ++ u))))

-- The same for any number of pairs at once: so it is where a text is included in several places.
abbrev pub ExchangeMany : Type 0
ExchangeMany = (s : List ℕ) (t : Tables) → Answers s (accepted t) → (d : Derivation (tokens s)) (u : List ℕ) → Exchanges s 0 (object_trees d.tree) u → Unchanged s u

-- "if two accepted texts, expanded, differ only between the braces of one object or part, which pair with each other in both, every other object's
-- resolved values and references are equal in both." They are the braces of a part in the first text; in the second they pair. Another object is
-- one of another kind or name.
abbrev pub Isolation : Type 0
Isolation = (a i j b : List ℕ) (t u : Tables) → Answers (a ++ (i ++ b)) (accepted t) → Answers (a ++ (j ++ b)) (accepted u)
    → (x : Inside a i b) → Pairs a j b → (k : Kind) (n : List ℕ) → (key_in (a ++ (i ++ b)) x.this ≡ record { kind = k; name = n } → ⊥)
    → SameChannel (a ++ (i ++ b)) (a ++ (j ++ b)) k n
