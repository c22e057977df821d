-- The derivation of a normal text's tokens: its heading, the implementation's words of the text, and the restated application. Assumes nothing.
use mathlib.Core.Path.{◌≡◌, refl, sym, ◌∙◌, ap, ap₂, subst₂}
use mathlib.Core.List.{List, [], ◌∷◌, ◌++◌, append_assoc, append-nil}
use mathlib.Core.Bool.{true}
use Prim.Native.Nat.{ℕ}
use Rattle.token.specs.Words.{bytes_of}
use Rattle.grammar.specs.Grammar.{Token, matches, sg, word, OIL-VERSION, semicolon, ◌▸◌, ∎, ◌⟶◌, Trees, nil, leaf, node, file, version, implementation, application, file_is, no_D, version_is, implementation_is, Derivation, tokens as Leaves-of}
use Rattle.grammar.specs.Terminals.{tokens}
use Rattle.grammar.proofs.Viable.{one_derivation}
use Rattle.meaning.specs.Syntax.{Word, absent, through, Object, File}
use Rattle.meaning.specs.Merging.{merge}
use Rattle.reads_back.proofs.MergedRestated.{merged_restated}
use Rattle.meaning.specs.Actions.{word_of, Implementation, Application, means, meaning, syntax}
use Rattle.meaning.specs.Resolving.{all_values}
use Rattle.meaning.specs.Places.{each}
use Rattle.meaning.proofs.Unplaced.{unplaced, unplaced_word, unplaced_spec}
use Rattle.reads_back.proofs.Restated.{given, equal_sign, version_string, stop, version_words, application_words, restated_objects, restated_file, Said, plain_word}
use Rattle.reads_back.proofs.Unplacing.{bare_implementation, bare_application, bare_M, bare_parts, means_bare}
use Rattle.reads_back.proofs.WordTrees.{WordTrees, word_nil, word_leaf, word_node, lifted, planted}
use Rattle.reads_back.proofs.RestatedTrees.{restated_application, application_tree}

-- The three parts of a file ------------------------------------------------------------------------------------------------------------------

unfoldable whole_tree : Trees ◌⟶◌ (version ▸ ∎) → Trees ◌⟶◌ (implementation ▸ ∎) → Trees ◌⟶◌ (application ▸ ∎) → Trees ◌⟶◌ (file ▸ ∎)
whole_tree (node p us nil) (node q vs nil) (node r ws nil) = node file_is (node p us (node q vs (node r ws nil))) nil

unfoldable file_of : Word → Implementation → Application → File
file_of v i a = means file_is (v, (i, (a, tt)))

file_bare : (v : Word) (i : Implementation) (a : Application)
    → unplaced (file_of v i a) ≡ file_of (unplaced_word v) (bare_implementation i) (bare_application a)
unfolding file_of bare_parts bare_M
file_bare v i a = sym (means_bare file_is (v, (i, (a, tt))))

-- Files of the same parts are the same.
file_same : {v v' : Word} {i i' : Implementation} {a a' : Application} → v ≡ v' → i ≡ i' → a ≡ a' → file_of v i a ≡ file_of v' i' a'
file_same p q r = λ j. file_of (p j) (q j) (r j)

whole_leaves : (v : Trees ◌⟶◌ (version ▸ ∎)) (i : Trees ◌⟶◌ (implementation ▸ ∎)) (a : Trees ◌⟶◌ (application ▸ ∎))
    → Leaves-of (whole_tree v i a) ≡ Leaves-of v ++ (Leaves-of i ++ Leaves-of a)
unfolding whole_tree Leaves-of
whole_leaves (node p us nil) (node q vs nil) (node r ws nil) =
    append-nil (Leaves-of us ++ (Leaves-of vs ++ (Leaves-of ws ++ [])))
    ∙ ap₂ (λ x y. x ++ (y ++ (Leaves-of ws ++ []))) (sym (append-nil (Leaves-of us))) (sym (append-nil (Leaves-of vs)))

whole_syntax : (s : List ℕ) (v : Trees ◌⟶◌ (version ▸ ∎)) (i : Trees ◌⟶◌ (implementation ▸ ∎)) (a : Trees ◌⟶◌ (application ▸ ∎))
    → syntax s (whole_tree v i a) ≡ file_of (meaning s v).0 (meaning s i).0 (meaning s a).0
unfolding whole_tree syntax meaning file_of
whole_syntax s (node p us nil) (node q vs nil) (node r ws nil) = refl

-- A file's tree is that of three parts.
record Three (t : Trees ◌⟶◌ (file ▸ ∎)) : Type 0 where
  version_tree : Trees ◌⟶◌ (version ▸ ∎)
  implementation_tree : Trees ◌⟶◌ (implementation ▸ ∎)
  application_part : Trees ◌⟶◌ (application ▸ ∎)
  whole : t ≡ whole_tree version_tree implementation_tree application_part

three : (t : Trees ◌⟶◌ (file ▸ ∎)) → Three t
unfolding whole_tree
three (node file_is (node p us (node q vs (node r ws nil))) nil) = record {
  version_tree = node p us nil;
  implementation_tree = node q vs nil;
  application_part = node r ws nil;
  whole = refl;
}

-- The implementation -------------------------------------------------------------------------------------------------------------------------

-- The tokens of an implementation's tree: the first, those between, and its semicolon; its span is from the first through the last.
record Ends (s : List ℕ) (i : Trees ◌⟶◌ (implementation ▸ ∎)) : Type 0 where
  first : Token
  mid : List Token
  final : Token
  leaves : Leaves-of i ≡ first ∷ (mid ++ (final ∷ []))
  final_is : matches (sg semicolon) final.class ≡ true
  span_is : (meaning s i).0.span ≡ through (word_of s first) (word_of s final)

ends : (s : List ℕ) (i : Trees ◌⟶◌ (implementation ▸ ∎)) → Ends s i
unfolding Leaves-of meaning means
ends s (node implementation_is (leaf a _ (leaf x _ (leaf o _ (node p ss (leaf r _ (node q ds (leaf c h nil))))))) nil) = record {
  first = a;
  mid = x ∷ o ∷ (Leaves-of ss ++ (r ∷ Leaves-of ds));
  final = c;
  leaves = append-nil (a ∷ x ∷ o ∷ (Leaves-of ss ++ (r ∷ (Leaves-of ds ++ (c ∷ [])))))
      ∙ ap (λ l. a ∷ x ∷ o ∷ l) (sym (append_assoc (Leaves-of ss) (r ∷ Leaves-of ds) (c ∷ [])));
  final_is = h;
  span_is = refl;
}

-- The implementation of a file, unplaced.
unfoldable pub restated_implementation : File → Implementation
restated_implementation f = record { span = absent; name = unplaced_word f.implementation_name; specs = each unplaced_spec f.specs }

-- The tokens of the implementation in a text's derivation.
unfoldable pub implementation_leaves : Trees ◌⟶◌ (file ▸ ∎) → List Token
implementation_leaves (node file_is (node _ v (node _ i (node _ a nil))) nil) = Leaves-of i

implementation_part : (v : Trees ◌⟶◌ (version ▸ ∎)) (i : Trees ◌⟶◌ (implementation ▸ ∎)) (a : Trees ◌⟶◌ (application ▸ ∎))
    → implementation_leaves (whole_tree v i a) ≡ Leaves-of i
unfolding whole_tree implementation_leaves Leaves-of
implementation_part (node p us nil) (node q vs nil) (node r ws nil) = sym (append-nil (Leaves-of vs))

-- The tree of the implementation in a file's tree.
unfoldable pub implementation_tree : Trees ◌⟶◌ (file ▸ ∎) → Trees ◌⟶◌ (implementation ▸ ∎)
implementation_tree (node file_is (node _ v (node p i (node _ a nil))) nil) = node p i nil

-- It has the implementation's tokens.
pub implementation_tree_leaves : (t : Trees ◌⟶◌ (file ▸ ∎)) → Leaves-of (implementation_tree t) ≡ implementation_leaves t
unfolding implementation_tree implementation_leaves Leaves-of
implementation_tree_leaves (node file_is (node _ v (node p i (node _ a nil))) nil) = append-nil (Leaves-of i)

-- Any tree of the implementation's tokens means the definitions of the file.
pub implementation_specs : (s : List ℕ) (t : Trees ◌⟶◌ (file ▸ ∎)) (i : Trees ◌⟶◌ (implementation ▸ ∎)) → Leaves-of i ≡ implementation_leaves t
    → (syntax s t).specs ≡ (meaning s i).0.specs
unfolding file_of means
implementation_specs s t i e =
    let k = three t in
    let v = k.version_tree in
    let j = k.implementation_tree in
    let a = k.application_part in
    let l : Leaves-of (whole_tree v i a) ≡ Leaves-of t =
    whole_leaves v i a ∙ ap (λ z. Leaves-of v ++ (z ++ Leaves-of a)) (e ∙ ap implementation_leaves k.whole ∙ implementation_part v j a) ∙ sym (whole_leaves v j a)
    ∙ sym (ap Leaves-of k.whole) in
    ap (λ z. (syntax s z).specs) (one_derivation (Leaves-of t) (record { tree = t; leaves = refl }) (record { tree = whole_tree v i a; leaves = l }))
    ∙ ap (λ (x : File). x.specs) (whole_syntax s v i a)

-- The tokens of the implementation among those of the text s.
pub record ImplementationTokens (s : List ℕ) (d : Derivation (tokens s)) : Type 0 where
  pub before : List Token
  pub first : Token
  pub mid : List Token
  pub final : Token
  pub after : List Token
  pub whole : tokens s ≡ before ++ ((first ∷ (mid ++ (final ∷ []))) ++ after)
  pub leaves_are : implementation_leaves d.tree ≡ first ∷ (mid ++ (final ∷ []))
  pub final_is : matches (sg semicolon) final.class ≡ true
  pub span_is : (syntax s d.tree).implementation ≡ through (word_of s first) (word_of s final)
  -- they are derived, and mean the implementation
  pub derived : WordTrees (implementation ▸ ∎) (each (plain_word s) (first ∷ (mid ++ (final ∷ [])))) (restated_implementation (syntax s d.tree), tt)

-- A text's derivation has them.
pub implementation_tokens : (s : List ℕ) (d : Derivation (tokens s)) → ImplementationTokens s d
unfolding bare_parts bare_M bare_implementation restated_implementation file_of means
implementation_tokens s d =
    let t = three d.tree in
    let v = t.version_tree in
    let i = t.implementation_tree in
    let a = t.application_part in
    let e = ends s i in
    let f : syntax s d.tree ≡ file_of (meaning s v).0 (meaning s i).0 (meaning s a).0 = ap (syntax s) t.whole ∙ whole_syntax s v i a in
    record {
      before = Leaves-of v;
      first = e.first;
      mid = e.mid;
      final = e.final;
      after = Leaves-of a;
      whole = sym d.leaves ∙ ap Leaves-of t.whole ∙ whole_leaves v i a ∙ ap (λ l. Leaves-of v ++ (l ++ Leaves-of a)) e.leaves;
      leaves_are = ap implementation_leaves t.whole ∙ implementation_part v i a ∙ e.leaves;
      final_is = e.final_is;
      span_is = ap (λ (x : File). x.implementation) f ∙ e.span_is;
      derived = subst₂ (λ l x. WordTrees (implementation ▸ ∎) (each (plain_word s) l) (x, tt)) e.leaves (sym (ap restated_implementation f)) (lifted s i);
    }

-- The normal text ----------------------------------------------------------------------------------------------------------------------------

version_tree : WordTrees (version ▸ ∎) version_words (version_string, tt)
unfolding means matches given
version_tree =
    word_node version_is (word_leaf (given (word OIL-VERSION) (bytes_of "OIL_VERSION")) refl (word_leaf equal_sign refl (word_leaf version_string refl
    (word_node no_D word_nil (word_leaf stop refl word_nil))))) word_nil

-- A tree of the tokens ts of the text n, with the restated syntax of s; the implementation's tokens are `middle`.
pub record Planted (s n : List ℕ) (d : Derivation (tokens s)) (middle ts : List Token) : Type 0 where
  pub tree : Trees ◌⟶◌ (file ▸ ∎)
  pub leaves : Leaves-of tree ≡ ts
  pub syntax_is : unplaced (syntax n tree) ≡ restated_file (syntax s d.tree)
  pub first : Token
  pub mid : List Token
  pub final : Token
  pub middle_is : middle ≡ first ∷ (mid ++ (final ∷ []))
  pub leaves_are : implementation_leaves tree ≡ middle
  pub span_is : (syntax n tree).implementation ≡ through (word_of n first) (word_of n final)

restated_parts : (f : File) → merge (restated_objects f.objects (all_values f f.objects) 0) ≡ restated_objects f.objects (all_values f f.objects) 0
    → file_of version_string (restated_implementation f) (restated_application f) ≡ restated_file f
unfolding file_of means restated_implementation restated_application restated_file
restated_parts f e =
    ap (λ (os : List Object). record {
      version = version_string;
      implementation = absent;
      implementation_name = unplaced_word f.implementation_name;
      specs = each unplaced_spec f.specs;
      cpu = unplaced_word f.cpu;
      parts = restated_objects f.objects (all_values f f.objects) 0;
      objects = os;
    }) e

-- Tokens of a text n whose words are the version's, the implementation's of s, and the restated application's have a tree with the restated syntax.
pub planted_text : (s n : List ℕ) (d : Derivation (tokens s)) (im : ImplementationTokens s d) → Said (syntax s d.tree)
    → (heading middle last : List Token)
    → each (plain_word n) heading ≡ version_words
    → each (plain_word n) middle ≡ each (plain_word s) (im.first ∷ (im.mid ++ (im.final ∷ [])))
    → each (plain_word n) last ≡ application_words (syntax s d.tree) (all_values (syntax s d.tree) (syntax s d.tree).objects)
    → Planted s n d middle (heading ++ (middle ++ last))
unfolding bare_parts bare_M file_of means
planted_text s n d im said heading middle last h m l =
    let f = syntax s d.tree in
    let v = planted version_tree n heading h in
    let i = planted im.derived n middle m in
    let a = planted (application_tree f said) n last l in
    let e = ends n i.tree in
    let w = whole_syntax n v.tree i.tree a.tree in
    record {
      tree = whole_tree v.tree i.tree a.tree;
      leaves = whole_leaves v.tree i.tree a.tree ∙ ap₂ ◌++◌ v.leaves (ap₂ ◌++◌ i.leaves a.leaves);
      syntax_is = ap unplaced w ∙ file_bare (meaning n v.tree).0 (meaning n i.tree).0 (meaning n a.tree).0
          ∙ file_same (ap (λ k. k.0) v.meaning_is) (ap (λ k. k.0) i.meaning_is) (ap (λ k. k.0) a.meaning_is) ∙ restated_parts f (merged_restated s d said);
      first = e.first;
      mid = e.mid;
      final = e.final;
      middle_is = sym i.leaves ∙ e.leaves;
      leaves_are = implementation_part v.tree i.tree a.tree ∙ i.leaves;
      span_is = ap (λ (x : File). x.implementation) w ∙ e.span_is;
    }
