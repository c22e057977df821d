-- A text compared with its own normal text has no difference. Assumes nothing.
use mathlib.Core.Path.{◌≡◌, refl, sym, ◌∙◌, ap, ap₂, subst}
use mathlib.Core.List.{List, [], ◌∷◌, ◌++◌}
use mathlib.Core.Bool.{Bool, true, false, false≢true}
use Prim.Native.Nat.{ℕ, suc, ◌+◌, ◌≤◌}
use lib.ListN.{length}
use Rattle.token.specs.Find.{bit, both}
use Rattle.token.specs.Words.{same}
use Rattle.token.proofs.Codes.{same_self}
use Rattle.grammar.specs.Grammar.{Derivation}
use Rattle.grammar.specs.Terminals.{tokens}
use Rattle.grammar.specs.Demand.{Covered}
use Rattle.meaning.specs.Syntax.{Num, Word, Object, File}
use Rattle.meaning.specs.Words.{alike}
use Rattle.meaning.specs.Kinds.{kind_number, same_kind}
use Rattle.meaning.specs.Actions.{syntax}
use Rattle.meaning.specs.Resolving.{Value, number, truth, auto, string, float, enumerator, object, Taken, Resolved, end, resolved, object_values, all_values, how_many_values}
use Rattle.meaning.specs.Normal.{written, normal}
use Rattle.meaning.specs.Answers.{Tables, Answer, accepted, refused, answer}
use Rattle.meaning.specs.Reading.{Answers, too_long, not_grammar, meant, Parsed, parsed, not_parsed, parse, answer_of_parsed, reading, normal_text}
use Rattle.meaning.specs.Places.{each}
use Rattle.meaning.proofs.Found.{parse_derived, normal_derived}
use Rattle.meaning.proofs.Whole.{answers, one_answer}
use Rattle.meaning.proofs.Unplaced.{unplaced_word, unplaced_definition, unplaced_object, unplaced, unplaced_taken, unplaced_resolved, all_values_unplaced}
use Rattle.reads_back.proofs.Restated.{restated_object, restated_objects, restated_file}
use Rattle.reads_back.proofs.RestatingUnplaced.{kept_file, unplaced_kept}
use Rattle.reads_back.proofs.SameValues.{float_in, SameTaken, Same, same_end, same_more, SameAll, none_same, more_same}
use Rattle.reads_back.proofs.SameMeaning.{MeansSame, means_same}
use Rattle.reads_back.proofs.ReadsBack.{NormalFile, normal_file, reads_back}
use Rattle.comparing.specs.Contents.{Step, Placed, num_key, kind_of_type, counts_as, same_step, same_path, same_value, how_often, step_to, below, placed, Content, contents_from, contents, same_object}
use Rattle.comparing.specs.Differences.{Release, release, no_release, released, release_of, differences}
use Rattle.comparing.proofs.Alikes.{both_of, step_keyed, object_keyed, value_keyed}
use Rattle.comparing.proofs.Swaps.{sound}
use Rattle.comparing.proofs.Sames.{Alike, none_alike, more_alike, SameValue, SameContent, alike_none}
use Rattle.release_laws.specs.Statements.{Accepted, NormalSame, NoneWithNormal}
use Rattle.release_laws.proofs.Accepted.{accepted_apart}

-- Values that are alike but places and the stated mark ----------------------------------------------------------------------------------------

record Meets (t u : Taken) : Type 0 where
  name : t.definition.name.bytes ≡ u.definition.name.bytes
  list : t.definition.list ≡ u.definition.list
  counts : counts_as t.value t ≡ counts_as u.value u

data SameTree : Resolved → Resolved → Type 0 where
  same_none : SameTree end end
  same_some : {t u : Taken} {a b c d : Resolved} → Meets t u → SameTree a b → SameTree c d → SameTree (resolved t a c) (resolved u b d)

tree_then : {a b c : Resolved} → SameTree a b → SameTree b c → SameTree a c
tree_then same_none same_none = same_none
tree_then (same_some m p q) (same_some n r s) =
    same_some (record { name = m.name ∙ n.name; list = m.list ∙ n.list; counts = m.counts ∙ n.counts }) (tree_then p r) (tree_then q s)

tree_back : {a b : Resolved} → SameTree a b → SameTree b a
tree_back same_none = same_none
tree_back (same_some m p q) = same_some (record { name = sym m.name; list = sym m.list; counts = sym m.counts }) (tree_back p) (tree_back q)

data SameTrees : List Resolved → List Resolved → Type 0 where
  no_trees : SameTrees [] []
  more_trees : {a b : Resolved} {rs qs : List Resolved} → SameTree a b → SameTrees rs qs → SameTrees (a ∷ rs) (b ∷ qs)

trees_then : {a b c : List Resolved} → SameTrees a b → SameTrees b c → SameTrees a c
trees_then no_trees no_trees = no_trees
trees_then (more_trees p q) (more_trees r s) = more_trees (tree_then p r) (trees_then q s)

trees_back : {a b : List Resolved} → SameTrees a b → SameTrees b a
trees_back no_trees = no_trees
trees_back (more_trees p q) = more_trees (tree_back p) (trees_back q)

-- Without places.
unplaced_counts : (v : Value) (t : Taken) → counts_as v (unplaced_taken t) ≡ counts_as v t
unfolding counts_as unplaced_taken unplaced_word unplaced_definition
unplaced_counts (number n) t = refl
unplaced_counts (truth b) t = refl
unplaced_counts auto t = refl
unplaced_counts string t = refl
unplaced_counts float t = refl
unplaced_counts (enumerator e) t = refl
unplaced_counts (object o) t = refl

unplaced_meets : (t : Taken) → Meets (unplaced_taken t) t
unfolding unplaced_taken unplaced_word unplaced_definition
unplaced_meets t = record { name = refl; list = refl; counts = unplaced_counts t.value t }

unplaced_tree : (r : Resolved) → SameTree (unplaced_resolved r) r
unfolding unplaced_resolved
unplaced_tree end = same_none
unplaced_tree (resolved t us rest) = same_some (unplaced_meets t) (unplaced_tree us) (unplaced_tree rest)

unplaced_trees : (rs : List Resolved) → SameTrees (each unplaced_resolved rs) rs
unfolding each
unplaced_trees [] = no_trees
unplaced_trees (r ∷ rs) = more_trees (unplaced_tree r) (unplaced_trees rs)

-- Restated.
restated_counts : (v : Value) (t u : Taken) → t.definition ≡ u.definition → written v t.word ≡ written v u.word → float_in v t.word ≡ float_in v u.word → counts_as v t ≡ counts_as v u
unfolding counts_as written float_in
restated_counts (number n) t u d w f = refl
restated_counts (truth b) t u d w f = refl
restated_counts auto t u d w f = refl
restated_counts string t u d w f = ap (λ (l : List ℕ). 3 ∷ l) w
restated_counts float t u d w f = ap (λ (n : Num). 6 ∷ num_key n) f
restated_counts (enumerator e) t u d w f = ap (λ (l : List ℕ). 4 ∷ l) w
restated_counts (object o) t u d w f = λ i. 5 ∷ kind_of_type (d i).type ∷ w i

taken_meets : {t u : Taken} → SameTaken t u → Meets t u
taken_meets {t} {u} h = record {
  name = ap (λ d. d.name.bytes) h.definition;
  list = ap (λ d. d.list) h.definition;
  counts = ap (λ (v : Value). counts_as v t) h.value
      ∙ restated_counts u.value t u h.definition (ap (λ (v : Value). written v t.word) (sym h.value) ∙ h.writes) (ap (λ (v : Value). float_in v t.word) (sym h.value) ∙ h.floats);
}

same_tree : {a b : Resolved} → Same a b → SameTree a b
same_tree same_end = same_none
same_tree (same_more h p q) = same_some (taken_meets h) (same_tree p) (same_tree q)

same_trees : {a b : List Resolved} → SameAll a b → SameTrees a b
same_trees none_same = no_trees
same_trees (more_same p q) = more_trees (same_tree p) (same_trees q)

-- Paths ------------------------------------------------------------------------------------------------------------------------------------

abbrev bytes_of : List Word → List (List ℕ)
bytes_of l = each (λ (w : Word). w.bytes) l

often_same : (t u : Word) (b c : List Word) → t.bytes ≡ u.bytes → bytes_of b ≡ bytes_of c → how_often t b ≡ how_often u c
unfolding how_often alike each
often_same t u [] [] e q = refl
often_same t u [] (w ∷ c) e q = absurd (let z : ◌≡◌ {A = Bool} false true = cc in false≢true z)
often_same t u (v ∷ b) [] e q = absurd (let z : ◌≡◌ {A = Bool} false true = cc in false≢true z)
often_same t u (v ∷ b) (w ∷ c) e q =
    let h : v.bytes ≡ w.bytes = cc in
    let r : bytes_of b ≡ bytes_of c = cc in
    ap₂ ◌+◌ (λ i. bit (same (e i) (h i))) (often_same t u b c e r)

step_same : (t u : Taken) (b c : List Word) → Meets t u → bytes_of b ≡ bytes_of c → same_step (step_to t b) (step_to u c) ≡ true
unfolding step_to
step_same t u b c m q =
    step_keyed.from_keys (step_to t b) (step_to u c)
    (λ i. (m.name i, (bit (m.list i), often_same t.definition.name u.definition.name b c m.name q i)))

below_same : (s t : Step) (l k : List Placed) → same_step s t ≡ true → Alike SameValue l k → Alike SameValue (each (below s) l) (each (below t) k)
unfolding each below same_path
below_same s t [] [] e none_alike = none_alike
below_same s t (v ∷ l) (w ∷ k) e (more_alike r a) =
    more_alike (record { path = both_of (same_step s t) (same_path v.path w.path) e r.path; value = r.value }) (below_same s t l k e a)
below_same s t [] (w ∷ k) e x4 = elim x4 [ ]
below_same s t (v ∷ l) [] e x4 = elim x4 [ ]

append_alike : (a b c d : List Placed) → Alike SameValue a b → Alike SameValue c d → Alike SameValue (a ++ c) (b ++ d)
append_alike [] [] c d none_alike q = q
append_alike (x ∷ a) (y ∷ b) c d (more_alike r p) q = more_alike r (append_alike a b c d p q)
append_alike [] (y ∷ b) c d x4 q = elim x4 [ ]
append_alike (x ∷ a) [] c d x5 q = elim x5 [ ]

placed_same : {r q : Resolved} → SameTree r q → (n m : ℕ) (b c : List Word) → bytes_of b ≡ bytes_of c → Alike SameValue (placed r n b) (placed q m c)
unfolding placed same_path same_value each
placed_same same_none n m b c e = none_alike
placed_same (same_some {t} {u} {a} {b} {c} {d} h p q) n m bs cs e =
    let st = step_same t u bs cs h e in
    more_alike
    (record { path = both_of (same_step (step_to t bs) (step_to u cs)) true st refl; value = value_keyed.from_keys t u h.counts })
    (append_alike (each (below (step_to t bs)) (placed a (suc n) [])) (each (below (step_to u cs)) (placed b (suc m) []))
    (placed c (suc n + how_many_values a) (t.definition.name ∷ bs)) (placed d (suc m + how_many_values b) (u.definition.name ∷ cs))
    (below_same (step_to t bs) (step_to u cs) (placed a (suc n) []) (placed b (suc m) []) st (placed_same p (suc n) (suc m) [] [] refl))
    (placed_same q (suc n + how_many_values a) (suc m + how_many_values b) (t.definition.name ∷ bs) (u.definition.name ∷ cs) (ap₂ (λ (k : List ℕ) (l : List (List ℕ)). k ∷ l) h.name e)))

-- Objects ----------------------------------------------------------------------------------------------------------------------------------

unfoldable contents_of : List Object → List Resolved → ℕ → List Content
contents_of [] rs n = []
contents_of (x ∷ xs) [] n = []
contents_of (x ∷ xs) (r ∷ rs) n = record { object = x; values = placed r n [] } ∷ contents_of xs rs (n + how_many_values r)

contents_are : (f : File) (xs : List Object) (n : ℕ) → contents_from f xs n ≡ contents_of xs (all_values f xs) n
unfolding contents_from contents_of all_values
contents_are f [] n = refl
contents_are f (x ∷ xs) n = ap (λ (l : List Content). record { object = x; values = placed (object_values f x) n [] } ∷ l) (contents_are f xs (n + how_many_values (object_values f x)))

record SameName (x y : Object) : Type 0 where
  kind : x.kind ≡ y.kind
  name : x.name.bytes ≡ y.name.bytes

data SameNames : List Object → List Object → Type 0 where
  no_names : SameNames [] []
  more_names : {x y : Object} {xs ys : List Object} → SameName x y → SameNames xs ys → SameNames (x ∷ xs) (y ∷ ys)

names_then : {a b c : List Object} → SameNames a b → SameNames b c → SameNames a c
names_then no_names no_names = no_names
names_then (more_names p q) (more_names r s) = more_names (record { kind = p.kind ∙ r.kind; name = p.name ∙ r.name }) (names_then q s)

names_back : {a b : List Object} → SameNames a b → SameNames b a
names_back no_names = no_names
names_back (more_names p q) = more_names (record { kind = sym p.kind; name = sym p.name }) (names_back q)

unplaced_names : (xs : List Object) → SameNames (each unplaced_object xs) xs
unfolding each unplaced_object unplaced_word
unplaced_names [] = no_names
unplaced_names (x ∷ xs) = more_names (record { kind = refl; name = refl }) (unplaced_names xs)

restated_names : (f : File) (xs : List Object) (k : ℕ) → SameNames (restated_objects xs (all_values f xs) k) xs
unfolding restated_objects restated_object all_values unplaced_word
restated_names f [] k = no_names
restated_names f (x ∷ xs) k = more_names (record { kind = refl; name = refl }) (restated_names f xs (k + how_many_values (object_values f x)))

contents_same : {xs ys : List Object} → SameNames xs ys → {rs qs : List Resolved} → SameTrees rs qs → (n m : ℕ) → Alike SameContent (contents_of xs rs n) (contents_of ys qs m)
unfolding contents_of each
contents_same no_names t n m = none_alike
contents_same (more_names p q) no_trees n m = none_alike
contents_same (more_names {x} {y} p q) (more_trees {a} {b} r t) n m =
    more_alike
    (record {
      object = object_keyed.from_keys (record { object = x; values = placed a n [] }) (record { object = y; values = placed b m [] }) (λ i. (kind_number (p.kind i), p.name i));
      values = placed_same r n m [] [] refl;
    })
    (contents_same q t (n + how_many_values a) (m + how_many_values b))

-- Texts ------------------------------------------------------------------------------------------------------------------------------------

file_in : File → Parsed → File
file_in f (parsed g) = g
file_in f (not_parsed n p) = f

file_of : File → Release → File
file_of f (release g) = g
file_of f (no_release n p) = f

is_release : Release → Bool
is_release (release g) = true
is_release (no_release n p) = false

record Parses (s : List ℕ) (f : File) : Type 0 where
  tables : Tables
  is : parse s ≡ parsed f
  answers_so : answer f ≡ accepted tables

released_as : (g f : File) (a : Answer) → released g a ≡ release f → answer g ≡ a → (s : List ℕ) → parse s ≡ parsed g → Parses s f
unfolding released file_of is_release
released_as g f (accepted t) e q s p =
    let z : g ≡ f = ap (file_of g) e in
    record { tables = t; is = p ∙ ap parsed z; answers_so = ap answer (sym z) ∙ q }
released_as g f (refused n k) e q s p = absurd (false≢true (ap is_release e))

parses : (s : List ℕ) (f : File) → Accepted s f → Parses s f
unfolding release_of is_release
parses s f e = by (parse s) refl e
  where
    by : (p : Parsed) → parse s ≡ p → release_of p ≡ release f → Parses s f
    by (parsed g) q h = released_as g f (answer g) h refl s q
    by (not_parsed n k) q h = absurd (false≢true (ap is_release h))

record Derives (s : List ℕ) : Type 0 where
  covered : Covered s
  derivation : Derivation (tokens s)

derives : {s : List ℕ} {a : Answer} (t : Tables) → Answers s a → a ≡ accepted t → Derives s
derives t (too_long k) e = absurd (let z : ◌≡◌ {A = Bool} false true = cc in false≢true z)
derives t (not_grammar a k m q) e = absurd (let z : ◌≡◌ {A = Bool} false true = cc in false≢true z)
derives t (meant w d) e = record { covered = w; derivation = d }

module _ (s : List ℕ) (f g : File) (t : Tables) (h : SameAll (all_values (kept_file f) (kept_file f).objects) (all_values f f.objects)) (e : unplaced g ≡ restated_file f) where
  values_alike : SameTrees (all_values g g.objects) (all_values f f.objects)
  unfolding unplaced
  values_alike =
      let k = kept_file f in
      let a : each unplaced_resolved (all_values g g.objects) ≡ each unplaced_resolved (all_values k k.objects) =
      sym (all_values_unplaced g g.objects) ∙ ap (λ (z : File). all_values z z.objects) (e ∙ sym (unplaced_kept f)) ∙ all_values_unplaced k k.objects in
      trees_then (trees_back (unplaced_trees (all_values g g.objects)))
      (trees_then (subst (λ (l : List Resolved). SameTrees l (all_values k k.objects)) (sym a) (unplaced_trees (all_values k k.objects))) (same_trees h))

  objects_alike : SameNames g.objects f.objects
  unfolding unplaced restated_file
  objects_alike =
      let a : each unplaced_object g.objects ≡ restated_objects f.objects (all_values f f.objects) 0 = ap (λ (z : File). z.objects) e in
      names_then (names_back (unplaced_names g.objects)) (subst (λ (l : List Object). SameNames l f.objects) (sym a) (restated_names f f.objects 0))

  contents_alike : Alike SameContent (contents f) (contents g)
  unfolding contents
  contents_alike =
      subst (λ (l : List Content). Alike SameContent l (contents_from g g.objects 0)) (sym (contents_are f f.objects 0))
      (subst (Alike SameContent (contents_of f.objects (all_values f f.objects) 0)) (sym (contents_are g g.objects 0))
      (contents_same (names_back objects_alike) (trees_back values_alike) 0 0))

-- THE THEOREM.
pub none_with_normal : NoneWithNormal
unfolding reading answer_of_parsed release_of released differences file_in
none_with_normal s f a n e h =
    let p = parses s f a in
    let reads : reading s ≡ accepted p.tables = ap answer_of_parsed p.is ∙ p.answers_so in
    let D = derives p.tables (answers s) reads in
    let z : syntax s D.derivation.tree ≡ f = ap (file_in f) (sym (parse_derived s D.covered D.derivation) ∙ p.is) in
    let q : n ≡ normal s (syntax s D.derivation.tree) = e ∙ ap (normal s) (sym z) in
    let N = normal_file s D.covered D.derivation n q h in
    let M = means_same s D.derivation p.tables (ap answer z ∙ p.answers_so) in
    let g = N.file in
    let text : n ≡ normal_text s = q ∙ sym (normal_derived s D.covered D.derivation) in
    let R = reads_back s p.tables reads (subst (λ (l : List ℕ). length l ≤ 65535) text h) in
    let again : answer g ≡ accepted R.back = sym (ap answer_of_parsed N.parses) ∙ ap reading text ∙ one_answer R.accepts.given in
    let accepted-again : release_of (parse n) ≡ release g = ap release_of N.parses ∙ ap (released g) again in
    record {
      file = g;
      accepted = accepted-again;
      none = alike_none (contents f) (contents g) (sound f (accepted_apart s f a)) (sound g (accepted_apart n g accepted-again))
          (contents_alike s f g p.tables (subst (λ (k : File). SameAll (all_values (kept_file k) (kept_file k).objects) (all_values k k.objects)) z M.values)
          (N.restates ∙ ap restated_file z));
    }
