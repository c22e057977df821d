-- Two accepted texts that differ only between the braces of one object. Assumes nothing.
use mathlib.Core.Path.{◌≡◌, refl, sym, ◌∙◌, ap, ap₂}
use mathlib.Core.List.{List, [], ◌∷◌, ◌++◌, append_assoc}
use Prim.Native.Nat.{ℕ, ◌-◌}
use native.Mathlib.Omega.{arith}
use lib.ListN.{length, length-append, drop}
use lib.Seq.{drop-append_seam}
use Rattle.grammar.specs.Grammar.{Token, Kind, ◌▸◌, ∎, ◌⟶◌, Trees, file, tokens as Leaves-of}
use Rattle.grammar.specs.Terminals.{tokens}
use Rattle.grammar.proofs.Viable.{one_derivation}
use Rattle.meaning.specs.Syntax.{Word}
use Rattle.meaning.specs.Actions.{word_of, kind_of, meaning, syntax}
use Rattle.meaning.specs.Places.{each}
use Rattle.meaning.specs.Answers.{Tables, accepted}
use Rattle.meaning.specs.Reading.{reading}
use Rattle.meaning.proofs.Found.{reading_derived}
use Rattle.meaning.proofs.Numbering.{numbered}
use Rattle.meaning.proofs.Unplaced.{unplaced_word, unplaced, each_append}
use Rattle.reads_back.proofs.Restated.{plain_word}
use Rattle.reads_back.proofs.RestatingPlain.{syntax_plain}
use Rattle.reads_back.proofs.Unplacing.{bare_M, bare_parts}
use Rattle.reads_back.proofs.WordTrees.{lifted, planted}
use Rattle.channels.specs.Channels.{Key, called}
use Rattle.channels.proofs.Computed.{channel_of}
use Rattle.channels.specs.Neighbours.{ObjectTree, key_in, Inside}
use Rattle.channels.proofs.ObjectTrees.{all_leaves, leaves_append, with_objects, front_leaves, back_leaves, with_own, with_trees}
use Rattle.channels.proofs.Saying.{brace_stops, until_says, words_in, piece_says, back_words}
use Rattle.channels.proofs.ObjectTokens.{accepted_covered}
use Rattle.channels.proofs.Alone.{channel_alone, channel_is_alone}
use Rattle.channels.proofs.Moved.{channel_derived}
use Rattle.channels.proofs.Emptying.{emptied, Braced, braced, emptied_alone, channel_alone_unplaced}

-- Lists --------------------------------------------------------------------------------------------------------------------------------------

spread : {A : Type 0} (f a x b k : List A) → f ++ ((a ++ (x ++ b)) ++ k) ≡ (f ++ a) ++ (x ++ (b ++ k))
spread f a x b k = ap (f ++◌) (append_assoc a (x ++ b) k ∙ ap (a ++◌) (append_assoc x b k)) ∙ sym (append_assoc f a (x ++ (b ++ k)))

-- The tokens of a file, those of the object x among them.
pub one_leaves : (t : Trees ◌⟶◌ (file ▸ ∎)) (a b : List ObjectTree) (x : ObjectTree)
    → Leaves-of (with_objects t (a ++ (x ∷ b))) ≡ (front_leaves t ++ all_leaves a) ++ (Leaves-of x ++ (all_leaves b ++ back_leaves t))
unfolding all_leaves
one_leaves t a b x =
    with_trees t (a ++ (x ∷ b)) ∙ ap (λ z. front_leaves t ++ (z ++ back_leaves t)) (leaves_append a (x ∷ b))
    ∙ spread (front_leaves t) (all_leaves a) (Leaves-of x) (all_leaves b) (back_leaves t)

-- The last three of a list.
last_three : {A : Type 0} (l : List A) (x y z : A) → drop (length (l ++ (x ∷ y ∷ z ∷ [])) - 3) (l ++ (x ∷ y ∷ z ∷ [])) ≡ x ∷ y ∷ z ∷ []
last_three l x y z =
    let e = length-append l (x ∷ y ∷ z ∷ []) in
    let n : length (l ++ (x ∷ y ∷ z ∷ [])) - 3 ≡ length l = omega arith in
    ap (λ k. drop k (l ++ (x ∷ y ∷ z ∷ []))) n ∙ drop-append_seam l (x ∷ y ∷ z ∷ [])

-- Are the same in two lists that are the same.
same_three : {A : Type 0} (l m : List A) (x y z x' y' z' : A) → l ++ (x ∷ y ∷ z ∷ []) ≡ m ++ (x' ∷ y' ∷ z' ∷ []) → (x ≡ x') × (y ≡ y')
same_three {A} l m x y z x' y' z' e =
    let q : x ∷ y ∷ z ∷ [] ≡ x' ∷ y' ∷ z' ∷ [] = sym (last_three l x y z) ∙ ap (λ (k : List A). drop (length k - 3) k) e ∙ last_three m x' y' z' in
    (cc, cc)

-- One text -----------------------------------------------------------------------------------------------------------------------------------

module _ (a i b : List ℕ) (x : Inside a i b) where
  abbrev pub s : List ℕ
  s = a ++ (i ++ b)

  abbrev pub T : Trees ◌⟶◌ (file ▸ ∎)
  T = x.derivation.tree

  abbrev pub E : Trees ◌⟶◌ (file ▸ ∎)
  E = with_objects T (x.before ++ (emptied x.this ∷ x.after))

  pub object_of : Braced x.this x.pair
  object_of = braced x.this x.pair x.braces_are

  -- The tokens up to the `{`, and those from the `}` on.
  abbrev pub F : List Token
  F = (front_leaves T ++ all_leaves x.before) ++ (object_of.kind ∷ object_of.name ∷ [])

  abbrev R : List Token
  R = object_of.rest ++ (all_leaves x.after ++ back_leaves T)

  whole : tokens s ≡ (F ++ (x.pair.opening ∷ [])) ++ (object_of.inner ++ (x.pair.closing ∷ R))
  whole =
      let o = object_of in
      let A = front_leaves T ++ all_leaves x.before in
      let B = all_leaves x.after ++ back_leaves T in
      sym x.derivation.leaves ∙ ap Leaves-of (sym (with_own T) ∙ ap (with_objects T) x.objects_are) ∙ one_leaves T x.before x.after x.this
      ∙ ap (λ l. A ++ (l ++ B)) o.leaves
      ∙ ap (λ l. A ++ (o.kind ∷ o.name ∷ x.pair.opening ∷ l)) (append_assoc o.inner (x.pair.closing ∷ o.rest) B)
      ∙ sym (append_assoc A (o.kind ∷ o.name ∷ []) (x.pair.opening ∷ (o.inner ++ (x.pair.closing ∷ R))))
      ∙ sym (append_assoc F (x.pair.opening ∷ []) (o.inner ++ (x.pair.closing ∷ R)))

  emptied_whole : Leaves-of E ≡ (F ++ (x.pair.opening ∷ [])) ++ (x.pair.closing ∷ R)
  emptied_whole =
      let o = object_of in
      let A = front_leaves T ++ all_leaves x.before in
      let B = all_leaves x.after ++ back_leaves T in
      one_leaves T x.before x.after (emptied x.this) ∙ ap (λ l. A ++ (l ++ B)) o.emptied_leaves
      ∙ sym (append_assoc A (o.kind ∷ o.name ∷ []) (x.pair.opening ∷ (x.pair.closing ∷ R)))
      ∙ sym (append_assoc F (x.pair.opening ∷ []) (x.pair.closing ∷ R))

  -- Their words are those of a and of b, whatever stands between.
  pub front_words : each (plain_word s) (F ++ (x.pair.opening ∷ [])) ≡ words_in a
  front_words =
      piece_says (until_says a (i ++ b) F x.pair.opening (object_of.inner ++ (x.pair.closing ∷ R)) whole x.opens (brace_stops x.pair.opening.class object_of.opening_is))

  rest_words : each (plain_word s) (x.pair.closing ∷ R) ≡ words_in b
  rest_words =
      let p = x.pair in
      let l = length-append a i in
      let c = x.closes in
      ap (λ z. each (plain_word z) (p.closing ∷ R)) (sym (append_assoc a i b))
      ∙ back_words (a ++ i) b ((F ++ (p.opening ∷ [])) ++ object_of.inner) p.closing R
      (ap tokens (append_assoc a i b) ∙ whole ∙ sym (append_assoc (F ++ (p.opening ∷ [])) object_of.inner (p.closing ∷ R))) (omega arith)

  pub emptied_words : each (plain_word s) (Leaves-of E) ≡ words_in a ++ words_in b
  emptied_words =
      ap (each (plain_word s)) emptied_whole ∙ each_append (plain_word s) (F ++ (x.pair.opening ∷ [])) (x.pair.closing ∷ R) ∙ ap₂ ◌++◌ front_words rest_words

  -- The kind and the name are words of a.
  named_words : each (plain_word s) (front_leaves T ++ all_leaves x.before) ++ (plain_word s object_of.kind ∷ plain_word s object_of.name ∷ plain_word s x.pair.opening ∷ []) ≡ words_in a
  unfolding each
  named_words =
      let A = front_leaves T ++ all_leaves x.before in
      sym (each_append (plain_word s) A (object_of.kind ∷ object_of.name ∷ x.pair.opening ∷ []))
      ∙ ap (each (plain_word s)) (sym (append_assoc A (object_of.kind ∷ object_of.name ∷ []) (x.pair.opening ∷ []))) ∙ front_words

  -- A channel of another object shows what it shows where nothing is between the braces.
  other_channel : (t : Tables) → reading s ≡ accepted t → (k : Kind) (n : List ℕ) → (key_in s x.this ≡ record { kind = k; name = n } → ⊥)
      → channel_of s k n ≡ channel_alone (unplaced (syntax s E)) k (called n)
  other_channel t e k n h =
      let w = accepted_covered s t e in
      let d = x.derivation in
      channel_derived s w d k n
      ∙ channel_is_alone (syntax s T) t (syntax_plain s T) (numbered s T).1.0 (sym (reading_derived s w d) ∙ e) k n
      ∙ emptied_alone s T x.before x.after x.this x.objects_are k n h
      ∙ sym (channel_alone_unplaced (syntax s E) k n)

-- Two texts ----------------------------------------------------------------------------------------------------------------------------------

-- Trees with the same words are the same but for places.
same_syntax : (s u : List ℕ) (t v : Trees ◌⟶◌ (file ▸ ∎)) → each (plain_word s) (Leaves-of t) ≡ each (plain_word u) (Leaves-of v) → unplaced (syntax s t) ≡ unplaced (syntax u v)
unfolding syntax bare_parts bare_M
same_syntax s u t v e =
    let p = planted (lifted s t) u (Leaves-of v) (sym e) in
    let q : p.tree ≡ v = one_derivation (Leaves-of v) (record { tree = p.tree; leaves = p.leaves }) (record { tree = v; leaves = refl }) in
    sym (ap (λ (z : Trees ◌⟶◌ (file ▸ ∎)). unplaced (meaning u z).0) (sym q) ∙ ap (λ m. m.0) p.meaning_is)

same_key : (s u : List ℕ) (t v n m : Token) → plain_word s t ≡ plain_word u v → plain_word s n ≡ plain_word u m
    → ◌≡◌ {A = Key} (record { kind = kind_of (word_of s t).class; name = (word_of s n).bytes }) (record { kind = kind_of (word_of u v).class; name = (word_of u m).bytes })
unfolding plain_word unplaced_word
same_key s u t v n m p q = ap₂ (λ (a b : Word). record { kind = kind_of a.class; name = b.bytes }) p q

-- Two texts that have i and j between the braces of one object.
pub isolated : (a i j b : List ℕ) (t u : Tables) → reading (a ++ (i ++ b)) ≡ accepted t → reading (a ++ (j ++ b)) ≡ accepted u
    → (x : Inside a i b) → Inside a j b → (k : Kind) (n : List ℕ) → (key_in (a ++ (i ++ b)) x.this ≡ record { kind = k; name = n } → ⊥)
    → channel_of (a ++ (j ++ b)) k n ≡ channel_of (a ++ (i ++ b)) k n
isolated a i j b t u e f x y k n h =
    let s = a ++ (i ++ b) in
    let v = a ++ (j ++ b) in
    let o = object_of a i b x in
    let p = object_of a j b y in
    let w = same_three (each (plain_word s) (front_leaves x.derivation.tree ++ all_leaves x.before)) (each (plain_word v) (front_leaves y.derivation.tree ++ all_leaves y.before))
    (plain_word s o.kind) (plain_word s o.name) (plain_word s x.pair.opening) (plain_word v p.kind) (plain_word v p.name) (plain_word v y.pair.opening)
    (named_words a i b x ∙ sym (named_words a j b y)) in
    let same : key_in s x.this ≡ key_in v y.this = o.key s ∙ same_key s v o.kind p.kind o.name p.name w.0 w.1 ∙ sym (p.key v) in
    other_channel a j b y u f k n (λ q. h (same ∙ q))
    ∙ ap (λ z. channel_alone z k (called n)) (sym (same_syntax s v (E a i b x) (E a j b y) (emptied_words a i b x ∙ sym (emptied_words a j b y))))
    ∙ sym (other_channel a i b x t e k n h)
