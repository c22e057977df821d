-- Objects have different names, of one kind and across kinds. Assumes nothing.
use mathlib.Core.Path.{◌≡◌, refl, sym, ◌∙◌, ap, ap₂, subst}
use mathlib.Core.List.{List, [], ◌∷◌, ◌++◌}
use mathlib.Core.Bool.{Bool, true, false, not, false≢true}
use mathlib.Core.Option.{some}
use Prim.Native.Nat.{ℕ, ◌<◌}
use native.Mathlib.Omega.{arith}
use lib.ListN.{length}
use lib.Dec.{ltb}
use borrow.Author.Tests.{ltb-true, ltb-false}
use Rattle.token.specs.Find.{pick, both, either, is_there}
use Rattle.grammar.specs.Grammar.{Kind, Derivation}
use Rattle.grammar.specs.Terminals.{tokens}
use Rattle.meaning.specs.Syntax.{Word, Object}
use Rattle.meaning.specs.Words.{alike}
use Rattle.meaning.specs.Kinds.{kinds, same_kind}
use Rattle.meaning.specs.Faults.{faults_if}
use Rattle.meaning.specs.Actions.{syntax}
use Rattle.meaning.specs.Scopes.{find_object}
use Rattle.meaning.specs.Merging.{used}
use Rattle.meaning.specs.Applying.{ObjectRow, object_rows, too_few, each_object, each_part, elsewhere, each_name, object_faults}
use Rattle.meaning.specs.Normal.{part}
use Rattle.meaning.specs.Answers.{Tables, Answer, accepted, tables, answer}
use Rattle.meaning.specs.Reading.{Answers, too_long, not_grammar, meant}
use Rattle.meaning.proofs.Rooms.{nothing_front, nothing_back, not_faulty}
use Rattle.meaning.proofs.Merges.{syntax_merged}
use Rattle.meaning.proofs.Sites.{spec_words, statement_words, object_words, file_words}
use Rattle.meaning.proofs.Lookups.{InText, syntax_text}
use Rattle.reads_back.proofs.SameWords.{bytes_alike}
use Rattle.reads_back.proofs.SameNamesText.{parts, objects_text}
use Rattle.reads_back.proofs.MergedAgain.{AllNew, merge_new, merge_names}
use Rattle.reads_back.proofs.SameMeaning.{no_faults}
use Rattle.assurances.specs.Own.{Row, here, behind, NamesApart}

-- An object among others is found by its kind and name.
is_found : {xs : List Object} {i : ℕ} {x : Object} (k : Kind) (t : Word) → Row xs i x → same_kind k x.kind ≡ true → x.name.bytes ≡ t.bytes → is_there (find_object k xs t) ≡ true
unfolding find_object is_there
is_found {xs = []} k t x16 p q = elim x16 [ ]
is_found {xs = y ∷ ys} k t here p q = go (both (same_kind k y.kind) (alike y.name t)) hit
  where
    hit : both (same_kind k y.kind) (alike y.name t) ≡ true
    hit = ap₂ both p (bytes_alike y.name t q)

    go : (b : Bool) → b ≡ true → is_there (pick b (some y) (find_object k ys t)) ≡ true
    go true e = refl
    go false e = absurd (false≢true e)
is_found {xs = y ∷ ys} k t (behind r) p q = go (both (same_kind k y.kind) (alike y.name t)) (is_found k t r p q)
  where
    go : (b : Bool) → is_there (find_object k ys t) ≡ true → is_there (pick b (some y) (find_object k ys t)) ≡ true
    go true e = refl
    go false e = e

row_front : {R : Type 0} {a : List R} {i : ℕ} {x : R} (b : List R) → Row a i x → Row (a ++ b) i x
row_front b here = here
row_front b (behind r) = behind (row_front b r)

row_last : {R : Type 0} (a : List R) (x : R) → Row (a ++ (x ∷ [])) (length a) x
row_last [] x = here
row_last (y ∷ a) x = behind (row_last a x)

-- One of another kind and the same name is used elsewhere.
is_elsewhere : {xs : List Object} {i : ℕ} {x : Object} (z : Object) → Row xs i x → same_kind z.kind x.kind ≡ false → x.name.bytes ≡ z.name.bytes → elsewhere z xs ≡ true
unfolding elsewhere
is_elsewhere {xs = y ∷ ys} z here p q =
    ap (λ (b : Bool). either b (elsewhere z ys)) (ap₂ (λ (a b : Bool). both (not a) b) p (bytes_alike y.name z.name q))
is_elsewhere {xs = y ∷ ys} z (behind r) p q = go (both (not (same_kind z.kind y.kind)) (alike y.name z.name)) (is_elsewhere z r p q)
  where
    go : (b : Bool) → elsewhere z ys ≡ true → either b (elsewhere z ys) ≡ true
    go true e = refl
    go false e = e
is_elsewhere {xs = []} z x16 p q = elim x16 [ ]

-- Merging leaves no object with the kind and name of one before it, and 24 none with the name of one of another kind.
record Free (before : List Object) (x : Object) (xs : List Object) : Type 0 where
  not_elsewhere : elsewhere x before ≡ false
  rest : each_name (before ++ (x ∷ [])) xs ≡ []

free : (before : List Object) (x : Object) (xs : List Object) → each_name before (x ∷ xs) ≡ [] → Free before x xs
unfolding each_name
free before x xs e =
    let a = faults_if (elsewhere x before) x.name 24 in
    let r = each_name (before ++ (x ∷ [])) xs in
    record { not_elsewhere = not_faulty (elsewhere x before) x.name 24 (nothing_front a r e); rest = nothing_back a r e }

-- An object before, and one behind.
two_parts : {xs : List Object} {j : ℕ} {y : Object} → Row xs j y → {before : List Object} {i : ℕ} {x : Object} → Row before i x → AllNew before xs → each_name before xs ≡ []
    → x.name.bytes ≡ y.name.bytes → ⊥
unfolding used
two_parts (here {r} {rs}) {before} {x} b e f q = go (same_kind r.kind x.kind) refl
  where
    go : (c : Bool) → same_kind r.kind x.kind ≡ c → ⊥
    go true p = false≢true (sym e.0 ∙ is_found r.kind r.name b p q)
    go false p = false≢true (sym (free before r rs f).not_elsewhere ∙ is_elsewhere r b p q)
two_parts (behind {q = z} {rs} a) {before} b e f q = two_parts a (row_front (z ∷ []) b) e.1 (free before z rs f).rest q

two_rows : {xs : List Object} {i j : ℕ} {x y : Object} → Row xs i x → Row xs j y → i < j → (before : List Object) → AllNew before xs → each_name before xs ≡ []
    → x.name.bytes ≡ y.name.bytes → ⊥
two_rows here here h before e f q = omega arith
two_rows (here {r} {rs}) (behind b) h before e f q = two_parts b (row_last before r) e.1 (free before r rs f).rest q
two_rows (behind a) here h before e f q = omega arith
two_rows (behind {q = z} {rs} a) (behind b) h before e f q = two_rows a b (omega arith) (before ++ (z ∷ [])) e.1 (free before z rs f).rest q

-- The object of a row.
record Of (s : List ℕ) (os : List Object) (i : ℕ) (r : ObjectRow) : Type 0 where
  object : Object
  its : Row os i object
  name : object.name.bytes ≡ part s r.name

object_of : (s : List ℕ) (os : List Object) {i : ℕ} {r : ObjectRow} → Row (object_rows os) i r → InText s (object_words os) → Of s os i r
unfolding object_rows object_words
object_of s (x ∷ os) here h = record { object = x; its = here; name = h.1.0 }
object_of s (x ∷ os) (behind a) h =
    let f = object_of s os a (parts s (statement_words x.statements) (object_words os) h.1.1).1 in
    record { object = f.object; its = behind f.its; name = f.name }
object_of s [] {i = i} {r = r} x'' h = elim x'' [ ]

same_row : (s : List ℕ) (os : List Object) {i j : ℕ} {x y : ObjectRow} → AllNew [] os → each_name [] os ≡ [] → InText s (object_words os) → Row (object_rows os) i x → Row (object_rows os) j y
    → part s x.name ≡ part s y.name → i ≡ j
same_row s os {i} {j} e c h a b q =
    let f = object_of s os a h in
    let g = object_of s os b h in
    let n : f.object.name.bytes ≡ g.object.name.bytes = f.name ∙ q ∙ sym g.name in
    go (ltb i j) (ltb j i) refl refl (λ l. two_rows f.its g.its l [] e c n) (λ l. two_rows g.its f.its l [] e c (sym n))
  where
    go : (u v : Bool) → ltb i j ≡ u → ltb j i ≡ v → (i < j → ⊥) → (j < i → ⊥) → i ≡ j
    go true v c d k l = absurd (k (ltb-true i j c))
    go false true c d k l = absurd (l (ltb-true j i d))
    go false false c d k l = let y = ltb-false i j c in let z = ltb-false j i d in omega arith

rows_apart : (s : List ℕ) (d : Derivation (tokens s)) (t : Tables) → answer (syntax s d.tree) ≡ accepted t → (i j : ℕ) (x y : ObjectRow) → Row t.objects i x → Row t.objects j y
    → part s x.name ≡ part s y.name → i ≡ j
unfolding tables object_faults file_words
rows_apart s d t e i j x y a b q =
    let f = syntax s d.tree in
    let n = no_faults f t e in
    let w = parts s (f.version ∷ spec_words f.specs) (f.cpu ∷ object_words f.parts) (syntax_text s d.tree) in
    let u = subst (λ (z : Tables). Row z.objects i x) (sym n.tables_are) a in
    let v = subst (λ (z : Tables). Row z.objects j y) (sym n.tables_are) b in
    let c₁ = too_few kinds f.objects f.cpu in
    let c₂ = each_object [] f.objects in
    let c₃ = each_part f.parts in
    let c₄ = each_name [] f.parts in
    let c : c₄ ≡ [] = nothing_back c₃ c₄ (nothing_back c₂ (c₃ ++ c₄) (nothing_back c₁ (c₂ ++ (c₃ ++ c₄)) n.objects)) in
    let m = sym (syntax_merged s d.tree) in
    same_row s f.objects (subst (λ (os : List Object). AllNew [] os) m (merge_new f.parts)) (subst (λ (os : List Object). each_name [] os ≡ []) m (merge_names f.parts c))
    (objects_text s d.tree w.1.1) u v q

by_derivation : {s : List ℕ} {a : Answer} (t : Tables) → Answers s a → a ≡ accepted t → (i j : ℕ) (x y : ObjectRow) → Row t.objects i x → Row t.objects j y
    → part s x.name ≡ part s y.name → i ≡ j
by_derivation t (too_long k) e = absurd (let z : ◌≡◌ {A = Bool} false true = cc in false≢true z)
by_derivation t (not_grammar a k m q) e = absurd (let z : ◌≡◌ {A = Bool} false true = cc in false≢true z)
by_derivation {s} t (meant w d) e = rows_apart s d t e

-- No two objects have one name.
pub names_apart : NamesApart
names_apart s t a = by_derivation t a refl
