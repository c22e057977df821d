-- The objects of an accepted text differ in kind or name, so swapping the texts swaps the sides. Assumes nothing.
use mathlib.Core.Path.{◌≡◌, refl, sym, ◌∙◌, ap, subst}
use mathlib.Core.List.{List, [], ◌∷◌, ◌++◌}
use mathlib.Core.Bool.{Bool, true, false, false≢true}
use mathlib.Core.Option.{Option, none, some}
use Prim.Native.Nat.{ℕ, ◌+◌}
use lib.Dec.{ltb}
use lib.ListN.{length}
use Rattle.token.specs.Find.{pick, both, is_there}
use Rattle.token.specs.Lexing.{lex_from}
use Rattle.grammar.specs.Grammar.{Kind, file, ◌▸◌, ∎, ◌⟶◌, Trees}
use Rattle.grammar.specs.Terminals.{tokens_in}
use Rattle.grammar.specs.Factored.{paper}
use Rattle.grammar.specs.Machine.{run}
use Rattle.grammar.specs.Readers.{stream_of}
use Rattle.grammar.specs.Answered.{Answer as GrammarAnswer}
use Rattle.std.specs.Prelude.{Ok, Err}
use Rattle.grammar.specs.declared.Refusal.TheVariants.{NoToken, NotAdmitted, TooDeep}
use Rattle.meaning.specs.Syntax.{Word, Object, File}
use Rattle.meaning.specs.Words.{alike, choose}
use Rattle.meaning.specs.Kinds.{same_kind}
use Rattle.meaning.specs.Actions.{syntax}
use Rattle.meaning.specs.Tree.{tree}
use Rattle.meaning.specs.Scopes.{find_object}
use Rattle.meaning.specs.Merging.{used}
use Rattle.meaning.specs.Resolving.{object_values, how_many_values}
use Rattle.meaning.specs.Answers.{Answer, accepted, refused, answer}
use Rattle.meaning.specs.Reading.{not_parsed, by_tree, after_grammar, parse}
use Rattle.meaning.proofs.Merges.{syntax_merged}
use Rattle.reads_back.proofs.MergedAgain.{AllNew, merge_new}
use Rattle.comparing.specs.Lists.{the_first}
use Rattle.comparing.specs.Contents.{Content, contents_from, contents, same_object}
use Rattle.comparing.specs.Differences.{Release, release, no_release, released, release_of, differences, of_contents, Difference}
use Rattle.comparing.specs.Lists.{count}
use Rattle.comparing.proofs.Matching.{Apart, All, none_first, first_none}
use Rattle.comparing.proofs.Alikes.{keyed_flip, kind_keyed, object_keyed}
use Rattle.comparing.proofs.Swaps.{PathsApart, ObjectsApart, Sound, sound, swapped, total_swapped}
use Rattle.comparing.proofs.Orders.{first_order, second_order}
use Rattle.comparing.proofs.Sames.{self_none}
use Rattle.release_laws.specs.Statements.{SidesSwap, TotalSame, NoneWithItself, FirstOrder, SecondOrder}

-- The object x has the kind k and the name t.
abbrev named : Kind → Word → Object → Bool
named k t x = both (same_kind k x.kind) (alike x.name t)

pub data In (x : Object) : List Object → Type 0 where
  here : {xs : List Object} → In x (x ∷ xs)
  there : {y : Object} {xs : List Object} → In x xs → In x (y ∷ xs)

in_append : (x : Object) (xs ys : List Object) → In x xs → In x (xs ++ ys)
in_append x (y ∷ xs) ys here = here
in_append x (y ∷ xs) ys (there i) = there (in_append x xs ys i)
in_append x [] ys x'' = elim x'' [ ]

in_last : (x : Object) (xs : List Object) → In x (xs ++ (x ∷ []))
in_last x [] = here
in_last x (y ∷ xs) = there (in_last x xs)

not_there : {A : Type 0} (b : Bool) (x : A) (r : Option A) → is_there (pick b (some x) r) ≡ false → (b ≡ false) × (is_there r ≡ false)
unfolding is_there
not_there true x r e = absurd (false≢true (sym e))
not_there false x r e = (refl, e)

-- Where none is found, none has the kind and the name.
none_named : (k : Kind) (os : List Object) (t : Word) (x : Object) → is_there (find_object k os t) ≡ false → In x os → named k t x ≡ false
unfolding find_object
none_named k (y ∷ os) t x e here = (not_there (named k t y) y (find_object k os t) e).0
none_named k (y ∷ os) t x e (there i) = none_named k os t x (not_there (named k t y) y (find_object k os t) e).1 i
none_named k [] t x e x4 = elim x4 [ ]

-- None of the contents of ys is the same object as x, where none of ys is.
none_content : (f : File) (x : Content) (ys : List Object) (n : ℕ) → ((y : Object) → In y ys → both (same_kind x.object.kind y.kind) (alike x.object.name y.name) ≡ false)
    → the_first (same_object x) (contents_from f ys n) ≡ none
unfolding the_first contents_from same_object
none_content f x [] n k = refl
none_content f x (y ∷ ys) n k =
    first_none (both (same_kind x.object.kind y.kind) (alike x.object.name y.name)) (record { object = y; values = _ })
    (the_first (same_object x) (contents_from f ys (n + how_many_values (object_values f y)))) (k y here)
    (none_content f x ys (n + how_many_values (object_values f y)) (λ z i. k z (there i)))

-- Objects of which none is used before have no kind and name of one before.
none_behind : (before ys : List Object) (x : Object) → In x before → AllNew before ys → (y : Object) → In y ys → named y.kind y.name x ≡ false
unfolding used
none_behind before (z ∷ ys) x i e y j =
    by_place z ys (none_named z.kind before z.name x e.0 i) (λ w k. none_behind (before ++ (z ∷ [])) ys x (in_append x before (z ∷ []) i) e.1 w k) y j
  where
    by_place : (z : Object) (ys : List Object) → named z.kind z.name x ≡ false → ((w : Object) → In w ys → named w.kind w.name x ≡ false)
        → (y : Object) → In y (z ∷ ys) → named y.kind y.name x ≡ false
    by_place z ys p q y here = p
    by_place z ys p q y (there k) = q y k
none_behind before [] x i e y j = elim j [ ]

-- The test from the other side.
flipped : (x y : Object) → named y.kind y.name x ≡ false → both (same_kind x.kind y.kind) (alike x.name y.name) ≡ false
flipped x y e = ap (λ (b : Bool). both b (alike x.name y.name)) (keyed_flip kind_keyed x.kind y.kind) ∙ e

apart_from : (f : File) (before xs : List Object) (n : ℕ) → AllNew before xs → ObjectsApart (contents_from f xs n)
unfolding ObjectsApart contents_from
apart_from f before [] n e = tt
apart_from f before (x ∷ xs) n e = (
  none_content f (record { object = x; values = _ }) xs (n + how_many_values (object_values f x)) (λ y i. flipped x y (none_behind (before ++ (x ∷ [])) xs x (in_last x before) e.1 y i)),
  apart_from f (before ++ (x ∷ [])) xs (n + how_many_values (object_values f x)) e.1,
)

-- The objects of a syntax are made of its parts.
pub syntax_apart : (s : List ℕ) (t : Trees ◌⟶◌ (file ▸ ∎)) → ObjectsApart (contents (syntax s t))
unfolding contents
syntax_apart s t = apart_from (syntax s t) [] (syntax s t).objects 0 (subst (AllNew []) (sym (syntax_merged s t)) (merge_new (syntax s t).parts))

-- The file of a release is the syntax of its text -------------------------------------------------------------------------------------------

file_of : File → Release → File
file_of f (release g) = g
file_of f (no_release n p) = f

is_release : Release → Bool
is_release (release g) = true
is_release (no_release n p) = false

released_file : (f g : File) (a : Answer) → released f a ≡ release g → f ≡ g
unfolding released file_of is_release
released_file f g (accepted t) e = ap (file_of f) e
released_file f g (refused n p) e = absurd (false≢true (ap is_release e))

module _ (s : List ℕ) (g : File) where
  by_trees : (o : Option (Trees ◌⟶◌ (file ▸ ∎))) → release_of (by_tree s o) ≡ release g → ObjectsApart (contents g)
  unfolding release_of by_tree is_release
  by_trees none e = absurd (false≢true (ap is_release e))
  by_trees (some t) e = subst (λ (h : File). ObjectsApart (contents h)) (released_file (syntax s t) g (answer (syntax s t)) e) (syntax_apart s t)

  by_grammar : (a : GrammarAnswer) (t : Unit {0} → Option (Trees ◌⟶◌ (file ▸ ∎))) → release_of (after_grammar s a t) ≡ release g → ObjectsApart (contents g)
  unfolding release_of after_grammar is_release
  by_grammar (Ok _) t e = by_trees (t tt) e
  by_grammar (Err (NoToken p)) t e = absurd (false≢true (ap is_release e))
  by_grammar (Err (NotAdmitted p)) t e = absurd (false≢true (ap is_release e))
  by_grammar (Err (TooDeep p)) t e = absurd (false≢true (ap is_release e))

  pub accepted_apart : release_of (parse s) ≡ release g → ObjectsApart (contents g)
  unfolding parse choose release_of is_release
  accepted_apart e = by (ltb 65535 (length s)) e
    where
      by : (b : Bool)
          → release_of (choose b (λ _. not_parsed 2 0) (λ _. let l = lex_from s 0 in after_grammar s (run 0 (paper file ▸ ∎) (stream_of l)) (λ _. tree (tokens_in l)))) ≡ release g
          → ObjectsApart (contents g)
      by true q = absurd (false≢true (ap is_release q))
      by false q = by_grammar (run 0 (paper file ▸ ∎) (stream_of (lex_from s 0))) (λ _. tree (tokens_in (lex_from s 0))) q

-- Objects exchanged --------------------------------------------------------------------------------------------------------------------------

none_exchange : {A : Type 0} (t : A → Bool) (l : List A) (y z : A) (m : List A) → the_first t (l ++ (y ∷ z ∷ m)) ≡ none → the_first t (l ++ (z ∷ y ∷ m)) ≡ none
unfolding the_first
none_exchange t [] y z m e =
    let a = none_first (t y) y (pick (t z) (some z) (the_first t m)) e in
    let b = none_first (t z) z (the_first t m) a.1 in
    first_none (t z) z (pick (t y) (some y) (the_first t m)) b.0 (first_none (t y) y (the_first t m) a.0 b.1)
none_exchange t (x ∷ l) y z m e =
    let a = none_first (t x) x (the_first t (l ++ (y ∷ z ∷ m))) e in
    first_none (t x) x (the_first t (l ++ (z ∷ y ∷ m))) a.0 (none_exchange t l y z m a.1)

apart_exchange : (l : List Content) (y z : Content) (m : List Content) → Apart same_object (l ++ (y ∷ z ∷ m)) → Apart same_object (l ++ (z ∷ y ∷ m))
unfolding the_first
apart_exchange [] y z m a =
    let b = none_first (same_object y z) z (the_first (same_object y) m) a.0 in
    (first_none (same_object z y) y (the_first (same_object z) m) (keyed_flip object_keyed z y ∙ b.0) a.1.0, (b.1, a.1.1))
apart_exchange (x ∷ l) y z m a = (none_exchange (same_object x) l y z m a.0, apart_exchange l y z m a.1)

all_exchange : (P : Content → Type 0) (l : List Content) (y z : Content) (m : List Content) → All P (l ++ (y ∷ z ∷ m)) → All P (l ++ (z ∷ y ∷ m))
all_exchange P [] y z m a = (a.1.0, (a.0, a.1.1))
all_exchange P (x ∷ l) y z m a = (a.0, all_exchange P l y z m a.1)

sound_exchange : (l : List Content) (y z : Content) (m : List Content) → Sound (l ++ (y ∷ z ∷ m)) → Sound (l ++ (z ∷ y ∷ m))
unfolding ObjectsApart
sound_exchange l y z m a = record { objects = apart_exchange l y z m a.objects; paths = all_exchange PathsApart l y z m a.paths }

-- THE THEOREMS -------------------------------------------------------------------------------------------------------------------------------

pub sides_swap : SidesSwap
sides_swap s t f g a b p = swapped f g (accepted_apart s f a) (accepted_apart t g b) p

pub total_same : TotalSame
total_same s t f g a b = total_swapped f g (accepted_apart s f a) (accepted_apart t g b)

pub none_with_itself : NoneWithItself
none_with_itself s f a = self_none f (accepted_apart s f a)

pub order_of_first : FirstOrder
order_of_first p before y z behind xs = first_order p before y z behind xs

pub order_of_second : SecondOrder
unfolding differences
order_of_second s t f g a b p before y z behind e =
    let S = sound f (accepted_apart s f a) in
    let T : Sound (before ++ (y ∷ z ∷ behind)) = subst Sound e (sound g (accepted_apart t g b)) in
    ap (λ (l : List Content). count p (of_contents (contents f) l)) e
    ∙ second_order p before y z behind (contents f) S T (sound_exchange before y z behind T)
