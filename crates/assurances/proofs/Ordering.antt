-- The rows stand in the order of their names. Assumes nothing.
use mathlib.Core.Path.{◌≡◌, refl, sym, subst}
use mathlib.Core.List.{List, [], ◌∷◌, ◌++◌}
use mathlib.Core.Bool.{Bool, true, false, false≢true}
use Prim.Native.Nat.{ℕ, suc, ◌≤◌, ◌<◌}
use native.Mathlib.Omega.{arith}
use Rattle.grammar.specs.Grammar.{Derivation}
use Rattle.grammar.specs.Terminals.{tokens}
use Rattle.meaning.specs.Syntax.{Word, span_of, Definitions, no_more, define, Values, no_value, value, Spec, Object, is_enum}
use Rattle.meaning.specs.Words.{choose}
use Rattle.meaning.specs.Actions.{syntax}
use Rattle.meaning.specs.Merging.{used, merged, merge_from, merge}
use Rattle.meaning.specs.Defining.{DefinitionRow, EnumeratorRow, definition_row, definition_rows, definition_rows_under, enumerator_row, enumerator_rows, enumerator_rows_of, all_definition_rows, all_enumerator_rows}
use Rattle.meaning.specs.Applying.{ObjectRow, object_rows}
use Rattle.meaning.specs.Resolving.{all_values}
use Rattle.meaning.specs.Answers.{Tables, Answer, accepted, tables}
use Rattle.meaning.specs.Reading.{Answers, too_long, not_grammar, meant}
use Rattle.meaning.proofs.Settled.{text_ordered}
use Rattle.meaning.proofs.Merges.{syntax_merged}
use Rattle.meaning.proofs.Order.{Ordered, ordered_sub}
use Rattle.meaning.proofs.Runs.{Run, run_le, cut, cuts, ends}
use Rattle.meaning.proofs.Leaves.{words_leaves, leaves_in_order}
use Rattle.meaning.proofs.Sites.{option_words, definition_words, value_words, spec_words, statement_words, object_words, file_words}
use Rattle.reads_back.proofs.SameMeaning.{accepted_tables}
use Rattle.assurances.specs.Own.{Row, here, behind}
use Rattle.assurances.specs.Ordering.{InNameOrder, NamesRise}

-- Rows whose places rise, from lo on and before hi.
data Climb {R : Type 0} (f : R → ℕ) : ℕ → List R → ℕ → Type 0 where
  climbed : {lo hi : ℕ} → lo ≤ hi → Climb f lo [] hi
  climb : {lo hi : ℕ} {r : R} {rs : List R} → lo ≤ f r → Climb f (suc (f r)) rs hi → Climb f lo (r ∷ rs) hi

climb_lower : {R : Type 0} {f : R → ℕ} {l : List R} {lo low hi : ℕ} → low ≤ lo → Climb f lo l hi → Climb f low l hi
climb_lower {low} {hi} h (climbed i) = let j : low ≤ hi = omega arith in climbed j
climb_lower {f} {low} h (climb {r} i c) = let j : low ≤ f r = omega arith in climb j c

climb_append : {R : Type 0} {f : R → ℕ} {a b : List R} {lo mid hi : ℕ} → Climb f lo a mid → Climb f mid b hi → Climb f lo (a ++ b) hi
climb_append (climbed i) e = climb_lower i e
climb_append (climb i c) e = climb i (climb_append c e)

climb_low : {R : Type 0} {f : R → ℕ} {l : List R} {lo hi j : ℕ} {q : R} → Climb f lo l hi → Row l j q → lo ≤ f q
climb_low (climb i c) here = i
climb_low {f} (climb {r} i c) (behind b) = let h : suc (f r) ≤ f _ = climb_low c b in omega arith
climb_low {R = R} {f = f} {j = j} {q = q} (climbed {lo = lo} {hi = hi} _) x6 = elim x6 [ ]

climb_less : {R : Type 0} {f : R → ℕ} {l : List R} {lo hi i j : ℕ} {r q : R} → Climb f lo l hi → i < j → Row l i r → Row l j q → f r < f q
climb_less c h here here = absurd (omega arith)
climb_less (climb k c) h here (behind b) = climb_low c b
climb_less c h (behind a) here = absurd (omega arith)
climb_less (climb k c) h (behind a) (behind b) = climb_less c (omega arith) a b

abbrev definition_place : DefinitionRow → ℕ
definition_place r = r.name.place

abbrev enumerator_place : EnumeratorRow → ℕ
enumerator_place r = r.name.place

abbrev object_place : ObjectRow → ℕ
object_place r = r.name.place

mutual
  unfolding definition_rows definition_row span_of definition_words value_words

  climb_rows : (ds : Definitions) (u : Word) (lo hi : ℕ) → Run lo (definition_words ds) hi → Climb definition_place lo (definition_rows ds u) hi
  climb_rows no_more u lo hi r = climbed r
  climb_rows (define d vs ds) u lo hi r =
      let k = cuts d vs ds lo hi r in
      let n = run_le (option_words d.default) k.named.1 in
      climb_append (climb_lower k.low (climb_under vs k.a k.b k.values))
      (climb k.named.0 (climb_lower n (climb_rows ds u k.c hi k.rest)))

  climb_under : (vs : Values) (lo hi : ℕ) → Run lo (value_words vs) hi → Climb definition_place lo (definition_rows_under vs) hi
  climb_under no_value lo hi r = climbed r
  climb_under (value w e us vs) lo hi r =
      let i = r.0 in
      let k = cut (definition_words us) (value_words vs) (suc w.place) hi r.1 in
      let h : lo ≤ suc w.place = omega arith in
      climb_append (climb_lower h (climb_rows us w (suc w.place) k.mid k.front))
      (climb_under vs k.mid hi k.back)

climb_specs : (xs : List Spec) (lo hi : ℕ) → Run lo (spec_words xs) hi → Climb definition_place lo (all_definition_rows xs) hi
unfolding all_definition_rows spec_words
climb_specs [] lo hi r = climbed r
climb_specs (x ∷ xs) lo hi r =
    let i = r.0 in
    let k = cut (definition_words x.definitions) (spec_words xs) (suc x.word.place) hi r.1 in
    let h : lo ≤ suc x.word.place = omega arith in
    climb_append (climb_lower h (climb_rows x.definitions x.word (suc x.word.place) k.mid k.front))
    (climb_specs xs k.mid hi k.back)

climb_one : (b : Bool) (a : ℕ) (w : Word) (lo : ℕ) → lo ≤ w.place → Climb enumerator_place lo (enumerator_row b a w) (suc w.place)
unfolding enumerator_row span_of
climb_one true a w lo h = let j : suc w.place ≤ suc w.place = omega arith in climb h (climbed j)
climb_one false a w lo h = let j : lo ≤ suc w.place = omega arith in climbed j

mutual
  unfolding enumerator_rows definition_words value_words

  climb_lists : (ds : Definitions) (lo hi : ℕ) → Run lo (definition_words ds) hi → Climb enumerator_place lo (enumerator_rows ds) hi
  climb_lists no_more lo hi r = climbed r
  climb_lists (define d vs ds) lo hi r =
      let k = cuts d vs ds lo hi r in
      climb_append (climb_lower k.low (climb_list vs (is_enum d.type) d.row k.a k.b k.values))
      (climb_lower k.next (climb_lists ds k.c hi k.rest))

  climb_list : (vs : Values) (b : Bool) (a lo hi : ℕ) → Run lo (value_words vs) hi → Climb enumerator_place lo (enumerator_rows_of vs b a) hi
  climb_list no_value b a lo hi r = climbed r
  climb_list (value w e us vs) b a lo hi r =
      let k = cut (definition_words us) (value_words vs) (suc w.place) hi r.1 in
      climb_append (climb_one b a w lo r.0) (climb_append (climb_lists us (suc w.place) k.mid k.front)
      (climb_list vs b a k.mid hi k.back))

climb_all_lists : (xs : List Spec) (lo hi : ℕ) → Run lo (spec_words xs) hi → Climb enumerator_place lo (all_enumerator_rows xs) hi
unfolding all_enumerator_rows spec_words
climb_all_lists [] lo hi r = climbed r
climb_all_lists (x ∷ xs) lo hi r =
    let i = r.0 in
    let k = cut (definition_words x.definitions) (spec_words xs) (suc x.word.place) hi r.1 in
    let h : lo ≤ suc x.word.place = omega arith in
    climb_append (climb_lower h (climb_lists x.definitions (suc x.word.place) k.mid k.front))
    (climb_all_lists xs k.mid hi k.back)

-- An object's name is that of its first part.
climb_objects : (before xs : List Object) (n lo hi : ℕ) → Run lo (object_words xs) hi → Climb object_place lo (object_rows (merge_from before xs n)) hi
unfolding merge_from choose merged object_rows object_words span_of
climb_objects before [] n lo hi r = climbed r
climb_objects before (x ∷ xs) n lo hi r =
    let i = r.0 in
    let j = r.1.0 in
    let k = cut (statement_words x.statements) (object_words xs) (suc x.name.place) hi r.1.1 in
    let m = run_le (statement_words x.statements) k.front in
    let h : lo ≤ x.name.place = omega arith in
    let g : lo ≤ k.mid = omega arith in
    go (used x before) (climb_lower g (climb_objects (before ++ (x ∷ [])) xs n k.mid hi k.back))
    (climb h (climb_lower m (climb_objects (before ++ (x ∷ [])) xs (suc n) k.mid hi k.back)))
  where
    go : (b : Bool) → Climb object_place lo (object_rows (merge_from (before ++ (x ∷ [])) xs n)) hi
        → Climb object_place lo (object_rows (merged x n xs ∷ merge_from (before ++ (x ∷ [])) xs (suc n))) hi
        → Climb object_place lo (object_rows (choose b (λ _. merge_from (before ++ (x ∷ [])) xs n) (λ _. merged x n xs ∷ merge_from (before ++ (x ∷ [])) xs (suc n)))) hi
    go true p q = p
    go false p q = q

merged_climb : (xs : List Object) (lo hi : ℕ) → Run lo (object_words xs) hi → Climb object_place lo (object_rows (merge xs)) hi
unfolding merge
merged_climb xs lo hi r = climb_objects [] xs 0 lo hi r

in_order : (s : List ℕ) (d : Derivation (tokens s)) → InNameOrder (tables (syntax s d.tree) (all_values (syntax s d.tree) (syntax s d.tree).objects))
unfolding tables file_words
in_order s d =
    let f = syntax s d.tree in
    let o = subst (λ l. Ordered 0 l) (sym d.leaves) (text_ordered s) in
    let y = ends (file_words f) 0 (ordered_sub (words_leaves s d.tree) 0 (leaves_in_order s d.tree o)) in
    let k = cut (f.version ∷ spec_words f.specs) (f.cpu ∷ object_words f.parts) 0 y.hi y.run in
    record {
      definitions = λ i j r q h a b. climb_less (climb_specs f.specs (suc f.version.place) k.mid k.front.1) h a b;
      enumerators = λ i j r q h a b. climb_less (climb_all_lists f.specs (suc f.version.place) k.mid k.front.1) h a b;
      objects = λ i j r q h a b. climb_less (subst (λ (os : List Object). Climb object_place (suc f.cpu.place) (object_rows os) y.hi) (sym (syntax_merged s d.tree))
          (merged_climb f.parts (suc f.cpu.place) y.hi k.back.1)) h a b;
    }

by_derivation : {s : List ℕ} {a : Answer} (t : Tables) → Answers s a → a ≡ accepted t → InNameOrder t
by_derivation t (too_long k) e = absurd (let z : ◌≡◌ {A = Bool} false true = cc in false≢true z)
by_derivation t (not_grammar a k m q) e = absurd (let z : ◌≡◌ {A = Bool} false true = cc in false≢true z)
by_derivation {s} t (meant w d) e = subst (λ y. InNameOrder y) (accepted_tables (syntax s d.tree) t e) (in_order s d)

-- Rows are numbered in the order of names.
pub names_rise : NamesRise
names_rise s t a = by_derivation t a refl
