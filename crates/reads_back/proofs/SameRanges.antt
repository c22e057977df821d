-- The ranges of definitions have the same bytes, where the tokens are copied with the bytes around them. Assumes nothing.
use mathlib.Core.Path.{◌≡◌, refl, sym, ◌∙◌, ap, ap₂, subst}
use mathlib.Core.List.{List, [], ◌∷◌, ◌++◌}
use Prim.Native.Nat.{ℕ, suc}
use lib.ListN.{take, drop}
use Rattle.grammar.specs.Grammar.{Token, Rule, rule, tok, Form, matches, ◌▸◌, ∎, ◌⟶◌, Trees, nil, leaf, node, file, version, implementation, specs, spec, definitions, definition, attribute, D, P, auto, mark, integer_range, numbers, boolean_range, float_range, enumerator, enumerators, application, objects, object, block, statements, statement, default, own, file_is, version_is, implementation_is, no_spec, a_spec, spec_is, no_definition, a_definition, an_attribute, a_reference, an_integer, a_string, a_boolean, an_enum, a_float, reference_is, no_D, a_D, no_P, a_P, no_auto, with_auto, no_mark, a_mark, no_range, a_range, a_list, no_number, a_number, no_boolean_range, no_float_range, a_boolean_range, a_float_range, enumerator_is, no_enumerator, an_enumerator, no_default, a_default, own_auto, own_none, own_number, own_string, own_true, own_false, own_name, own_float, application_is, no_object, an_object, an_object_alone, an_object_with, no_block, a_block, no_statement, a_statement, statement_is, value_number, value_string, value_float, value_auto, value_name, value_true, value_false, reference as reference-rule, value as value-rule, tokens as Leaves-of}
use Rattle.meaning.specs.Syntax.{Word, Span, absent, span_of, through, Definitions, Values, Defined, Spec}
use Rattle.meaning.specs.Actions.{word_of, Enumerator, M, Parts, first_value, truths, defined, defining, specifying, means, meaning, syntax}
use Rattle.meaning.specs.Defining.{DefinitionRow, definition_row, definition_rows, definition_rows_under, all_definition_rows}
use Rattle.meaning.specs.Normal.{part}
use Rattle.meaning.specs.Places.{each}
use Rattle.meaning.proofs.Unplaced.{each_append}
use Rattle.reads_back.specs.ReadsBack.{definition_row_range}
use Rattle.reads_back.proofs.SayingOffsets.{Offset, token_span, Offsets, no_offset, an_offset, Copied, through_same}
use Rattle.reads_back.proofs.Planting.{implementation_leaves, implementation_tree, implementation_tree_leaves, implementation_specs}

-- The texts s and n have the same m bytes from p and from q on.
module _ (s n : List ℕ) (p q m : ℕ) (copied : take m (drop p s) ≡ take m (drop q n)) where
  -- Rows whose ranges have the same bytes.
  abbrev Alike : List DefinitionRow → List DefinitionRow → Type 0
  Alike l l' = each (definition_row_range s) l ≡ each (definition_row_range n) l'

  abbrev AlikeSpan : Span → Span → Type 0
  AlikeSpan a b = part s a ≡ part n b

  record AlikeDefined (x y : Defined) : Type 0 where
    range : AlikeSpan x.definition.range y.definition.range
    under : Alike (definition_rows_under x.values) (definition_rows_under y.values)

  -- What a rule means has ranges of the same bytes, whatever the numbers of its rows.
  abbrev AlikeM : (x : Rule) → M x → M x → Type 0
  AlikeM file f g = Alike (all_definition_rows f.specs) (all_definition_rows g.specs)
  AlikeM version f g = Unit {0}
  AlikeM implementation f g = Alike (all_definition_rows f.specs) (all_definition_rows g.specs)
  AlikeM specs f g = (a b c d : ℕ) → Alike (all_definition_rows (f a b)) (all_definition_rows (g c d))
  AlikeM spec f g = (a b c d : ℕ) → Alike (definition_rows (f a b).definitions (f a b).word) (definition_rows (g c d).definitions (g c d).word)
  AlikeM definitions f g = (a b c d : ℕ) (u v : Word) → Alike (definition_rows (f a b) u) (definition_rows (g c d) v)
  AlikeM definition f g = (a b c d : ℕ) → AlikeDefined (f a b) (g c d)
  AlikeM attribute f g = (a b c d : ℕ) → AlikeDefined (f a b) (g c d)
  AlikeM reference-rule f g = (a b c d : ℕ) → AlikeDefined (f a b) (g c d)
  AlikeM D f g = Unit {0}
  AlikeM P f g = (a b c d : ℕ) (u v : Word) → Alike (definition_rows (f a b) u) (definition_rows (g c d) v)
  AlikeM auto f g = Unit {0}
  AlikeM mark f g = Unit {0}
  AlikeM integer_range f g = AlikeSpan f.span g.span
  AlikeM float_range f g = AlikeSpan f.span g.span
  AlikeM numbers f g = Unit {0}
  AlikeM boolean_range f g =
      (a b c d : ℕ) → AlikeSpan (f a b).span (g c d).span × Alike (definition_rows_under (f a b).values) (definition_rows_under (g c d).values)
  AlikeM enumerator f g = (a b c d : ℕ) (u v : Word) → Alike (definition_rows (f a b).under u) (definition_rows (g c d).under v)
  AlikeM enumerators f g = (a b c d : ℕ) → Alike (definition_rows_under (f a b)) (definition_rows_under (g c d))
  AlikeM application f g = Unit {0}
  AlikeM objects f g = Unit {0}
  AlikeM object f g = Unit {0}
  AlikeM block f g = Unit {0}
  AlikeM statements f g = Unit {0}
  AlikeM statement f g = Unit {0}
  AlikeM value-rule f g = Unit {0}
  AlikeM (default o) f g = Unit {0}
  AlikeM (own o) f g = Unit {0}

  -- The parts of a form: words lie at the same offset.
  abbrev AlikeParts : (f : Form) → Parts f → Parts f → Type 0
  AlikeParts [] j k = Unit {0}
  AlikeParts (tok a ∷ f) j k = Offset p q m (span_of j.0) (span_of k.0) × AlikeParts f j.1 k.1
  AlikeParts (rule x ∷ f) j k = AlikeM x j.0 k.0 × AlikeParts f j.1 k.1

  -- The actions ---------------------------------------------------------------------------------------------------------------------------

  both_alike : (a b c d : List DefinitionRow) → Alike a c → Alike b d → Alike (a ++ b) (c ++ d)
  both_alike a b c d x y =
      each_append (definition_row_range s) a b ∙ ap₂ ◌++◌ x y ∙ sym (each_append (definition_row_range n) c d)

  no_range_alike : AlikeSpan absent absent
  unfolding part absent
  no_range_alike = refl

  through_alike : (o c o' c' : Word) → Offset p q m (span_of o) (span_of o') → Offset p q m (span_of c) (span_of c') → AlikeSpan (through o c) (through o' c')
  through_alike o c o' c' x y = through_same s n p q m o c o' c' copied x y

  defining_alike : (x y : Defined) (e e' : ℕ) (f g : ℕ → ℕ → Definitions) (u v : Word) → AlikeDefined x y
      → ((a b c d : ℕ) (u v : Word) → Alike (definition_rows (f a b) u) (definition_rows (g c d) v))
      → Alike (definition_rows (defining x e f) u) (definition_rows (defining y e' g) v)
  unfolding defining definition_rows definition_row definition_row_range each
  defining_alike x y e e' f g u v h k =
      both_alike (definition_rows_under x.values) _ (definition_rows_under y.values) _ h.under (ap₂ ◌∷◌ h.range (k _ _ _ _ u v))

  first_alike : (x y : Enumerator) (a b c d : ℕ) (f g : ℕ → ℕ → Values) → Alike (definition_rows x.under x.word) (definition_rows y.under y.word)
      → ((a b c d : ℕ) → Alike (definition_rows_under (f a b)) (definition_rows_under (g c d)))
      → Alike (definition_rows_under (first_value x a b f)) (definition_rows_under (first_value y c d g))
  unfolding first_value definition_rows
  first_alike x y a b c d f g h k = both_alike (definition_rows x.under x.word) _ (definition_rows y.under y.word) _ h (k _ _ _ _)

  truths_alike : (t t' u u' : Word) (f g h k : ℕ → ℕ → Definitions) (a b c d : ℕ)
      → ((a b c d : ℕ) (u v : Word) → Alike (definition_rows (f a b) u) (definition_rows (g c d) v))
      → ((a b c d : ℕ) (u v : Word) → Alike (definition_rows (h a b) u) (definition_rows (k c d) v))
      → Alike (definition_rows_under (truths t f u h a b)) (definition_rows_under (truths t' g u' k c d))
  unfolding truths definition_rows each
  truths_alike t t' u u' f g h k a b c d x y =
      both_alike (definition_rows (f a b) t) _ (definition_rows (g c d) t') _ (x a b c d t t')
      (both_alike (definition_rows (h _ _) u) [] (definition_rows (k _ _) u') [] (y _ _ _ _ u u') refl)

  specifying_alike : (x y : Spec) (a b c d : ℕ) (f g : ℕ → ℕ → List Spec) → Alike (definition_rows x.definitions x.word) (definition_rows y.definitions y.word)
      → ((a b c d : ℕ) → Alike (all_definition_rows (f a b)) (all_definition_rows (g c d)))
      → Alike (all_definition_rows (specifying x a b f)) (all_definition_rows (specifying y c d g))
  unfolding specifying all_definition_rows
  specifying_alike x y a b c d f g h k =
      both_alike (definition_rows x.definitions x.word) _ (definition_rows y.definitions y.word) _ h (k _ _ _ _)

  -- What a form means of alike parts is alike.
  means_alike : {x : Rule} {g : Form} (r : x ⟶ g) (j k : Parts g) → AlikeParts g j k → AlikeM x (means r j) (means r k)
  unfolding means defined all_definition_rows definition_rows each
  means_alike file_is j k h = h.1.0
  means_alike version_is j k h = tt
  means_alike implementation_is j k h = h.1.1.1.0 0 0 0 0
  means_alike no_spec j k h = λ a b c d. refl
  means_alike a_spec j k h = λ a b c d. specifying_alike (j.0 a b) (k.0 c d) a b c d j.1.0 k.1.0 (h.0 a b c d) h.1.0
  means_alike spec_is j k h = λ a b c d. h.1.1.0 a b c d j.0 k.0
  means_alike no_definition j k h = λ a b c d u v. refl
  means_alike a_definition j k h = λ a b c d u v. defining_alike (j.0 a b) (k.0 c d) b d j.1.0 k.1.0 u v (h.0 a b c d) h.1.0
  means_alike an_attribute j k h = h.0
  means_alike a_reference j k h = h.0
  means_alike an_integer j k h = λ a b c d. record { range = h.1.1.0; under = refl }
  means_alike a_float j k h = λ a b c d. record { range = h.1.1.0; under = refl }
  means_alike a_string j k h = λ a b c d. record { range = no_range_alike; under = refl }
  means_alike a_boolean j k h = λ a b c d. record { range = (h.1.1.0 a b c d).0; under = (h.1.1.0 a b c d).1 }
  means_alike an_enum j k h = λ a b c d. record {
    range = through_alike j.1.1.0 j.1.1.1.1.1.0 k.1.1.0 k.1.1.1.1.1.0 h.1.1.0 h.1.1.1.1.1.0;
    under = first_alike (j.1.1.1.0 a b) (k.1.1.1.0 c d) a b c d j.1.1.1.1.0 k.1.1.1.1.0 (h.1.1.1.0 a b c d _ _) h.1.1.1.1.0;
  }
  means_alike reference_is j k h = λ a b c d. record { range = no_range_alike; under = refl }
  means_alike no_D j k h = tt
  means_alike a_D j k h = tt
  means_alike no_P j k h = λ a b c d u v. refl
  means_alike a_P j k h = h.1.0
  means_alike no_auto j k h = tt
  means_alike with_auto j k h = tt
  means_alike no_mark j k h = tt
  means_alike a_mark j k h = tt
  means_alike no_range j k h = no_range_alike
  means_alike no_float_range j k h = no_range_alike
  means_alike a_range j k h = through_alike j.0 j.1.1.1.1.0 k.0 k.1.1.1.1.0 h.0 h.1.1.1.1.0
  means_alike a_float_range j k h = through_alike j.0 j.1.1.1.1.0 k.0 k.1.1.1.1.0 h.0 h.1.1.1.1.0
  means_alike a_list j k h = through_alike j.0 j.1.1.1.0 k.0 k.1.1.1.0 h.0 h.1.1.1.0
  means_alike no_number j k h = tt
  means_alike a_number j k h = tt
  means_alike no_boolean_range j k h = λ a b c d. (no_range_alike, refl)
  means_alike a_boolean_range j k h = λ a b c d. (
    through_alike j.0 j.1.1.1.1.1.1.1.1.0 k.0 k.1.1.1.1.1.1.1.1.0 h.0 h.1.1.1.1.1.1.1.1.0,
    truths_alike j.1.0 k.1.0 j.1.1.1.1.1.0 k.1.1.1.1.1.0 j.1.1.0 k.1.1.0 j.1.1.1.1.1.1.0 k.1.1.1.1.1.1.0 a b c d
        h.1.1.0 h.1.1.1.1.1.1.0,
  )
  means_alike enumerator_is j k h = λ a b c d u v. h.1.0 a (suc b) c (suc d) u v
  means_alike no_enumerator j k h = λ a b c d. refl
  means_alike an_enumerator j k h = λ a b c d. first_alike (j.1.0 a b) (k.1.0 c d) a b c d j.1.1.0 k.1.1.0 (h.1.0 a b c d _ _) h.1.1.0
  means_alike no_default j k h = tt
  means_alike a_default j k h = tt
  means_alike own_auto j k h = tt
  means_alike own_none j k h = tt
  means_alike own_number j k h = tt
  means_alike own_string j k h = tt
  means_alike own_float j k h = tt
  means_alike own_true j k h = tt
  means_alike own_false j k h = tt
  means_alike own_name j k h = tt
  means_alike application_is j k h = tt
  means_alike no_object j k h = tt
  means_alike an_object j k h = tt
  means_alike an_object_alone j k h = tt
  means_alike an_object_with j k h = tt
  means_alike no_block j k h = tt
  means_alike a_block j k h = tt
  means_alike no_statement j k h = tt
  means_alike a_statement j k h = tt
  means_alike statement_is j k h = tt
  means_alike value_number j k h = tt
  means_alike value_string j k h = tt
  means_alike value_float j k h = tt
  means_alike value_auto j k h = tt
  means_alike value_name j k h = tt
  means_alike value_true j k h = tt
  means_alike value_false j k h = tt

  -- Trees ---------------------------------------------------------------------------------------------------------------------------------

  -- Tokens in two parts, of which the first are at the offset of ts and the others at that of vs.
  record Parted (us ts vs : List Token) : Type 0 where
    before : List Token
    after : List Token
    whole : before ++ after ≡ us
    first : Offsets p q m ts before
    second : Offsets p q m vs after

  parted : (us ts vs : List Token) → Offsets p q m (ts ++ vs) us → Parted us ts vs
  parted us [] vs h = record { before = []; after = us; whole = refl; first = no_offset; second = h }
  parted _ (t ∷ ts) vs (an_offset {u} {us} o c h) =
      let r = parted us ts vs h in
      record { before = u ∷ r.before; after = r.after; whole = ap (u ∷◌) r.whole; first = an_offset o c r.first; second = r.second }

  -- A tree of the same forms over the tokens us, with alike parts.
  record Replanted (f : Form) (t : Trees ◌⟶◌ f) (us : List Token) : Type 0 where
    tree : Trees ◌⟶◌ f
    leaves : Leaves-of tree ≡ us
    alike : AlikeParts f (meaning s t) (meaning n tree)

  replanted : {f : Form} (t : Trees ◌⟶◌ f) (us : List Token) → Offsets p q m (Leaves-of t) us → Replanted f t us
  unfolding Leaves-of meaning word_of span_of token_span
  replanted nil _ no_offset = record { tree = nil; leaves = refl; alike = tt }
  replanted (leaf {a} t h ts) _ (an_offset {u} {us} o c r) =
      let k = replanted ts us r in
      record { tree = leaf u (ap (matches a) c ∙ h) k.tree; leaves = ap (u ∷◌) k.leaves; alike = (o, k.alike) }
  replanted (node r ts vs) us h =
      let c = parted us (Leaves-of ts) (Leaves-of vs) h in
      let j = replanted ts c.before c.first in
      let k = replanted vs c.after c.second in
      record {
        tree = node r j.tree k.tree;
        leaves = ap₂ ◌++◌ j.leaves k.leaves ∙ c.whole;
        alike = (means_alike r (meaning s ts) (meaning n j.tree) j.alike, k.alike);
      }

-- So it is for two texts with implementations of which one is copied from the other.
pub ranges_same : (s n : List ℕ) (t u : Trees ◌⟶◌ (file ▸ ∎)) → Copied s n (implementation_leaves t) (implementation_leaves u)
    → each (definition_row_range s) (all_definition_rows (syntax s t).specs) ≡ each (definition_row_range n) (all_definition_rows (syntax n u).specs)
ranges_same s n t u c =
    let i = implementation_tree t in
    let r = replanted s n c.from c.to c.many c.bytes i (implementation_leaves u)
    (subst (λ l. Offsets c.from c.to c.many l (implementation_leaves u)) (sym (implementation_tree_leaves t)) c.offsets) in
    ap (λ x. each (definition_row_range s) (all_definition_rows x)) (implementation_specs s t i (implementation_tree_leaves t)) ∙ r.alike.0
    ∙ sym (ap (λ x. each (definition_row_range n) (all_definition_rows x)) (implementation_specs n u r.tree r.leaves))
