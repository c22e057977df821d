-- The words of a text's syntax are what stands in the text at their places, and those of the definitions do not stand at its start.
-- Assumes nothing.
use mathlib.Core.Path.{◌≡◌, refl, sym, subst}
use mathlib.Core.List.{List, [], ◌∷◌, ◌++◌}
use Prim.Native.Nat.{ℕ, suc, ◌+◌, ◌<◌}
use native.Mathlib.Omega.{arith}
use Rattle.grammar.specs.Grammar.{Token, file, ◌▸◌, ∎, ◌⟶◌, Trees, tokens}
use Rattle.meaning.specs.Normal.{part}
use Rattle.meaning.specs.Actions.{word_of, syntax}
use Rattle.meaning.specs.Syntax.{Word, span_of, Object, File}
use Rattle.meaning.specs.Merging.{merge}
use Rattle.meaning.proofs.Merges.{In, in_here, in_there, merge_in}
use Rattle.meaning.proofs.Order.{Ordered, InOrder, Sub, sub_nil, keep, drop, sub_front, sub_all, ordered_sub, ordered_from}
use Rattle.meaning.proofs.Sites.{spec_words, object_words, file_words}
use Rattle.meaning.proofs.Leaves.{words, leaves_words, leaves_in_order, words_leaves}
use Rattle.scopes.specs.Situations.{ReadAt}
use Rattle.scopes.proofs.Chains.{Chain, step_read}

-- The word w is what stands in the text at its place.
pub record Good (s : List ℕ) (w : Word) : Type 0 where
  pub read : ReadAt s w w.place w.length
  pub text : w.bytes ≡ part s (span_of w)
  -- some word stands before it
  pub later : 0 < w.place

abbrev pub Goods : List ℕ → List Word → Type 0
Goods s [] = Unit {0}
Goods s (w ∷ l) = Good s w × Goods s l

pub good_front : (s : List ℕ) (a b : List Word) → Goods s (a ++ b) → Goods s a
good_front s [] b h = tt
good_front s (w ∷ a) b h = (h.0, good_front s a b h.1)

pub good_back : (s : List ℕ) (a b : List Word) → Goods s (a ++ b) → Goods s b
good_back s [] b h = h
good_back s (w ∷ a) b h = good_back s a b h.1

-- The same without what stands before.
record Plain (s : List ℕ) (w : Word) : Type 0 where
  read : ReadAt s w w.place w.length
  text : w.bytes ≡ part s (span_of w)

abbrev Plains : List ℕ → List Word → Type 0
Plains s [] = Unit {0}
Plains s (w ∷ l) = Plain s w × Plains s l

plain_sub : (s : List ℕ) {l m : List Word} → Sub l m → Plains s m → Plains s l
plain_sub s sub_nil h = tt
plain_sub s (keep p) h = (h.0, plain_sub s p h.1)
plain_sub s (drop p) h = plain_sub s p h.1

plain_good : (s : List ℕ) (l : List Word) (p : ℕ) → 0 < p → InOrder p l → Plains s l → Goods s l
plain_good s [] p h o k = tt
plain_good s (w ∷ l) p h o k = let a = o.0 in (record { read = k.0.read; text = k.0.text; later = omega arith }, plain_good s l (suc w.place) (omega arith) o.1 k.1)

words_good : (s : List ℕ) (l : List Token) (p : ℕ) → Chain s p l → Plains s (words s l)
unfolding words word_of part span_of
words_good s [] p c = tt
words_good s (t ∷ l) p c = (record { read = step_read s p t c.0; text = refl }, words_good s l (t.place + t.length) c.1)

-- The words behind the version's.
unfoldable pub later_words : File → List Word
later_words f = spec_words f.specs ++ (f.cpu ∷ object_words f.parts)

syntax_plain : (s : List ℕ) (t : Trees ◌⟶◌ (file ▸ ∎)) (p : ℕ) → Chain s p (tokens t) → Plains s (file_words (syntax s t))
syntax_plain s t p c = plain_sub s (words_leaves s t) (subst (λ l. Plains s l) (sym (leaves_words s t)) (words_good s (tokens t) p c))

pub version_read : (s : List ℕ) (t : Trees ◌⟶◌ (file ▸ ∎)) (p : ℕ) → Chain s p (tokens t)
    → ReadAt s (syntax s t).version (syntax s t).version.place (syntax s t).version.length
unfolding file_words
version_read s t p c = (syntax_plain s t p c).0.read

-- So it is for all words of a text's syntax; those behind the version's are in order.
pub syntax_order : (s : List ℕ) (t : Trees ◌⟶◌ (file ▸ ∎)) → Ordered 0 (tokens t) → InOrder 1 (later_words (syntax s t))
unfolding file_words later_words
syntax_order s t o =
    let f = syntax s t in
    let w = ordered_sub (words_leaves s t) 0 (leaves_in_order s t o) in
    ordered_from (spec_words f.specs ++ (f.cpu ∷ object_words f.parts)) (omega arith) w.1

pub syntax_good : (s : List ℕ) (t : Trees ◌⟶◌ (file ▸ ∎)) (p : ℕ) → Chain s p (tokens t) → Ordered 0 (tokens t) → Goods s (later_words (syntax s t))
unfolding file_words later_words
syntax_good s t p c o = plain_good s (later_words (syntax s t)) 1 (omega arith) (syntax_order s t o) (syntax_plain s t p c).1

pub spec_order : (s : List ℕ) (t : Trees ◌⟶◌ (file ▸ ∎)) → Ordered 0 (tokens t) → InOrder 1 (spec_words (syntax s t).specs)
unfolding later_words
spec_order s t o = let f = syntax s t in ordered_sub (sub_front (sub_all (spec_words f.specs)) (f.cpu ∷ object_words f.parts)) 1 (syntax_order s t o)

pub spec_good : (s : List ℕ) (f : File) → Goods s (later_words f) → Goods s (spec_words f.specs)
unfolding later_words
spec_good s f h = good_front s (spec_words f.specs) (f.cpu ∷ object_words f.parts) h

pub part_good : (s : List ℕ) (f : File) → Goods s (later_words f) → Goods s (object_words f.parts)
unfolding later_words
part_good s f h = (good_back s (spec_words f.specs) (f.cpu ∷ object_words f.parts) h).1

-- The words of the objects are words of their parts.
one_good : (s : List ℕ) {w : Word} {l : List Word} → In w l → Goods s l → Good s w
one_good s (in_here e) g = subst (Good s) e g.0
one_good s (in_there h) g = one_good s h g.1

in_good : (s : List ℕ) (l m : List Word) → ((w : Word) → In w l → In w m) → Goods s m → Goods s l
in_good s [] m f g = tt
in_good s (w ∷ l) m f g = (one_good s (f w (in_here refl)) g, in_good s l m (λ v h. f v (in_there h)) g)

pub object_good : (s : List ℕ) (f : File) → f.objects ≡ merge f.parts → Goods s (later_words f) → Goods s (object_words f.objects)
object_good s f e h =
    subst (λ (os : List Object). Goods s (object_words os)) (sym e) (in_good s (object_words (merge f.parts)) (object_words f.parts) (λ w i. merge_in f.parts i) (part_good s f h))
