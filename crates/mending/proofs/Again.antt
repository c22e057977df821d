-- What is mended is accepted, and stays as it is when it is mended again. Assumes nothing.
use mathlib.Core.Path.{◌≡◌, refl, sym, ◌∙◌, ap, subst}
use mathlib.Core.List.{List, [], ◌∷◌, ◌++◌}
use mathlib.Core.Bool.{Bool, true, false, false≢true}
use mathlib.Core.Option.{Option, none, some}
use Prim.Native.Nat.{ℕ, zero, suc, ◌+◌, ◌-◌, ◌≤◌, ◌<◌}
use native.Mathlib.Omega.{arith}
use native.Mathlib.Decide.{dec_le}
use native.Mathlib.Numerals.{add-one}
use lib.ListN.{length, take, drop, drop_of_length-le}
use lib.Seq.{take_at, drop-cons}
use lib.Dec.{ltb}
use borrow.Author.Tests.{le-ltb}
use Rattle.token.specs.Find.{either, byte}
use Rattle.meaning.specs.Syntax.{Word, Definitions, Defined, Statement, Statements, done, state, Object, File}
use Rattle.meaning.specs.Words.{choose}
use Rattle.meaning.specs.Actions.{syntax}
use Rattle.meaning.specs.Faults.{Fault, faults_if, sooner, first}
use Rattle.meaning.specs.Defining.{definition_faults}
use Rattle.meaning.specs.Applying.{object_faults}
use Rattle.meaning.specs.Scopes.{under, find_definition, of_kind, names}
use Rattle.meaning.specs.Judging.{lacks, own_faults, and_inside, judged, judge, judge_object, judge_objects, statement_stage}
use Rattle.meaning.specs.Answers.{Answer, Tables, accepted, unless, answer}
use Rattle.meaning.specs.Reading.{Parsed, reading}
use Rattle.meaning.specs.Rules.{TheAnswer}
use Rattle.meaning.proofs.Found.{parse_derived, reading_derived}
use Rattle.meaning.proofs.Whole.{answers}
use Rattle.reading.proofs.Derived.{derived}
use Rattle.dropping.specs.Drops.{Drop, stated_again, or_inside, drops as drops-in, dropped as dropped-by, drops_of, all_drops}
use Rattle.mending.specs.Ends.{end_of}
use Rattle.mending.specs.Pieces.{Dropped, Piece, keeps, piece_at, next_place, pieces, kept_of, dropped_of, bytes_at, lines, number_or, number_at, kept, dropped, mended}
use Rattle.mending.specs.Results.{left, written, by_answer, mend_by, mend_parsed, mend_text}
use Rattle.mending.specs.Rules.{Mending, not_mended, too_short, done as is-done, MendsByRules, refuses, mends}
use Rattle.mending.specs.Assured.{Accepts, WrittenAccepted, AcceptedStays, MendedStays, Follow, at_end, byte_kept, span_dropped, PiecesFollow}
use Rattle.mending.specs.Answered.{Answer as Mended, refused_at, not_mended_at, done_at}
use Rattle.mending.specs.declared.Mended.{Mended as Lengths}
use Rattle.rows.proofs.Refusing.{ok_is}
use Rattle.mending.proofs.Endings.{end_after}
use Rattle.mending.proofs.Piecing.{next_on, next_in, pieces_here, pieces_past}
use Rattle.mending.proofs.Judged.{text_by_rules}
use Rattle.mending.proofs.Wholes.{none_faulty}

-- Accepted -----------------------------------------------------------------------------------------------------------------------------------

module _ {s g l k l' k' : List ℕ} (n c : ℕ) where
  from_mending : {ds : List Drop} {r : Mended} → Mending s g ds l k l' k' r → r ≡ done_at n c → Accepts (take n l')
  from_mending (not_mended a p h i j) e = absurd (let z : ◌≡◌ {A = Bool} false true = cc in false≢true z)
  from_mending (too_short t h w i j) e = absurd (let z : ◌≡◌ {A = Bool} false true = cc in false≢true z)
  from_mending {ds = ds} (is-done t h v w i j) e =
      let z : length (mended s ds) ≡ n = ap (λ (x : Lengths). x.text) (ok_is e) in
      let y : take n l' ≡ mended s ds = ap (take n) i ∙ take_at (mended s ds) (drop (length (mended s ds)) l) n z in
      record { tables = t; answer = subst (λ (x : List ℕ). TheAnswer x (accepted t)) (sym y) h }

  from_rules : {r : Mended} → MendsByRules s g l k l' k' r → r ≡ done_at n c → Accepts (take n l')
  from_rules (refuses h a p t i j v) e = absurd (let z : ◌≡◌ {A = Mended} (refused_at a p) (done_at n c) = sym i ∙ e in let y : ◌≡◌ {A = Bool} false true = cc in false≢true y)
  from_rules (mends p h) e = from_mending (h p.derivation) e

pub written_accepted : WrittenAccepted
written_accepted s g l k n c e = from_rules n c (text_by_rules s g l k) e

-- A text without a fault of the statements has nothing to drop -------------------------------------------------------------------------------

first_none : (fs : List Fault) → first fs ≡ none → fs ≡ []
unfolding first sooner
first_none [] e = refl
first_none (f ∷ fs) e = absurd (by_rest (first fs) e)
  where
    by_rest : (o : Option Fault) → sooner (some f) o ≡ none → ⊥
    by_rest none i = let z : ◌≡◌ {A = Bool} false true = cc in false≢true z
    by_rest (some g) i = let z : ◌≡◌ {A = Bool} false true = cc in false≢true z

front_empty : (xs ys : List Fault) → xs ++ ys ≡ [] → (xs ≡ []) × (ys ≡ [])
front_empty [] ys e = (refl, e)
front_empty (x ∷ xs) ys e = absurd (let z : ◌≡◌ {A = ℕ} 1 0 = ap one_if e in omega arith)
  where
    one_if : List Fault → ℕ
    one_if [] = 0
    one_if (y ∷ zs) = 1

not_empty : {f : Fault} {fs : List Fault} → ◌≡◌ {A = List Fault} (f ∷ fs) [] → ⊥
not_empty e = let z : ◌≡◌ {A = ℕ} 1 0 = ap one_if e in omega arith
  where
    one_if : List Fault → ℕ
    one_if [] = 0
    one_if (y ∷ zs) = 1

module _ (os : List Object) (x : Statement) (before ns : List Word) (j : Definitions → List Fault) (d : Definitions → List Drop) (h : (us : Definitions) → j us ≡ [] → d us ≡ []) where
  inside_none : (fs : List Fault) (again : Bool) (us : Definitions) → and_inside fs x us ns j ≡ [] → or_inside fs again x us d ≡ []
  unfolding and_inside or_inside
  inside_none [] again us e = h us (front_empty (faults_if (lacks us ns) x.value 16) (j us) e).1
  inside_none (f ∷ fs) again us e = absurd (not_empty e)

  statement_none : (o : Option Defined) → judged o os x before ns j ≡ [] → dropped-by o os x before d ≡ []
  unfolding judged dropped-by faults_if
  statement_none none e = absurd (not_empty e)
  statement_none (some y) e = inside_none (own_faults os x y before) (stated_again y x before) (under y.values x.value) e

drops_none : (ss : Statements) (os : List Object) (ds : Definitions) (before : List Word) → judge ss os ds before ≡ [] → drops-in ss os ds before ≡ []
unfolding judge drops-in
drops_none done os ds before e = refl
drops_none (state x inside rest) os ds before e =
    let p = front_empty (judged (find_definition ds x.name) os x before (names inside) (λ us. judge inside os us [])) (judge rest os ds (before ++ (x.name ∷ []))) e in
    let a = statement_none os x before (names inside) (λ us. judge inside os us []) (λ us. drops-in inside os us []) (λ us i. drops_none inside os us [] i) (find_definition ds x.name) p.0 in
    let b = drops_none rest os ds (before ++ (x.name ∷ [])) p.1 in
    ap (λ (y : List Drop). y ++ drops-in rest os ds (before ++ (x.name ∷ []))) a ∙ b

objects_none : (f : File) (xs : List Object) → judge_objects f xs ≡ [] → drops_of f xs ≡ []
unfolding judge_objects judge_object drops_of
objects_none f [] e = refl
objects_none f (x ∷ xs) e =
    let p = front_empty (judge_object f x (of_kind x.kind f.specs)) (judge_objects f xs) e in
    let q = front_empty (faults_if (lacks (of_kind x.kind f.specs) (names x.statements)) x.name 16) (judge x.statements f.objects (of_kind x.kind f.specs) []) p.0 in
    let a = drops_none x.statements f.objects (of_kind x.kind f.specs) [] q.1 in
    let b = objects_none f xs p.1 in
    ap (λ (y : List Drop). y ++ drops_of f xs) a ∙ b

pub nothing_dropped : (f : File) → first (statement_stage f) ≡ none → all_drops f ≡ []
unfolding statement_stage all_drops
nothing_dropped f e = objects_none f f.objects (first_none (judge_objects f f.objects) e)

-- Nothing dropped, nothing changed -----------------------------------------------------------------------------------------------------------

module _ (s : List ℕ) where
  keeps_here : (p : ℕ) → p < length s → pieces s (number_at []) p ≡ keeps p ∷ pieces s (number_at []) (p + 1)
  unfolding number_at number_or piece_at next_place
  keeps_here p h = pieces_here s (number_at []) p h

  all_kept : (k p : ℕ) → length s ≤ p + k → bytes_at s (kept_of (pieces s (number_at []) p)) ≡ drop p s
  unfolding bytes_at kept_of
  all_kept zero p h = ap (λ (x : List Piece). bytes_at s (kept_of x)) (pieces_past s (number_at []) p (omega arith)) ∙ sym (drop_of_length-le s (let z : length s ≤ p = omega arith in z))
  all_kept (suc k) p h = by_place (λ q a. all_kept k q a) (dec_le (length s) p)
    where
      by_place : ((q : ℕ) → length s ≤ q + k → bytes_at s (kept_of (pieces s (number_at []) q)) ≡ drop q s) → Dec (length s ≤ p) → bytes_at s (kept_of (pieces s (number_at []) p)) ≡ drop p s
      by_place f (yes i) = ap (λ (x : List Piece). bytes_at s (kept_of x)) (pieces_past s (number_at []) p i) ∙ sym (drop_of_length-le s i)
      by_place f (no i) =
          let j : p < length s = omega arith in
          ap (λ (x : List Piece). bytes_at s (kept_of x)) (keeps_here p j)
          ∙ ap (byte s p ∷◌) (f (p + 1) (omega arith) ∙ ap (λ (q : ℕ). drop q s) (add-one p))
          ∙ sym (drop-cons s p 0 j)

  mended_none : mended s [] ≡ s
  unfolding mended kept
  mended_none = all_kept (length s) 0 (omega arith)

  none_dropped : (k p : ℕ) → length s ≤ p + k → dropped_of (pieces s (number_at []) p) ≡ []
  unfolding dropped_of
  none_dropped zero p h = ap dropped_of (pieces_past s (number_at []) p (omega arith))
  none_dropped (suc k) p h = by_place (λ q a. none_dropped k q a) (dec_le (length s) p)
    where
      by_place : ((q : ℕ) → length s ≤ q + k → dropped_of (pieces s (number_at []) q) ≡ []) → Dec (length s ≤ p) → dropped_of (pieces s (number_at []) p) ≡ []
      by_place f (yes i) = ap dropped_of (pieces_past s (number_at []) p i)
      by_place f (no i) = let j : p < length s = omega arith in ap dropped_of (keeps_here p j) ∙ f (p + 1) (omega arith)

  dropped_none : dropped s [] ≡ []
  unfolding dropped
  dropped_none = none_dropped (length s) 0 (omega arith)

passes_on : (o : Option Fault) (k : Unit {0} → Answer) (t : Tables) → unless o k ≡ accepted t → (o ≡ none) × (k tt ≡ accepted t)
unfolding unless
passes_on none k t e = (refl, e)
passes_on (some x) k t e = absurd (let z : ◌≡◌ {A = Bool} false true = cc in false≢true z)

written_whole : (s g l k : List ℕ) → length s ≤ length l → written s (lines g []) l k ≡ record { result = done_at (length s) 0; text = s ++ drop (length s) l; lines = k }
unfolding written choose lines
written_whole s g l k h =
    ap (λ (b : Bool). choose (either b (ltb (length k) 0)) (λ _. left (not_mended_at 20 0) l k) (λ _. record { result = done_at (length s) 0; text = s ++ drop (length s) l; lines = k })) (le-ltb (length l) (length s) h)
    ∙ ap (λ (b : Bool). choose b (λ _. left (not_mended_at 20 0) l k) (λ _. record { result = done_at (length s) 0; text = s ++ drop (length s) l; lines = k })) (le-ltb (length k) 0 (omega arith))

pub accepted_stays : AcceptedStays
unfolding mend_text mend_by by_answer answer
accepted_stays s a g l k h =
    let r : reading s ≡ accepted a.tables = a.answer.no_other (reading s) (answers s) in
    let d = derived a.tables a.answer.given refl in
    let f = syntax s d.derivation.tree in
    let e : answer f ≡ accepted a.tables = sym (reading_derived s d.covered d.derivation) ∙ r in
    let p₁ = passes_on (first (definition_faults f)) _ a.tables e in
    let p₂ = passes_on (first (object_faults f)) _ a.tables p₁.1 in
    let p₃ = passes_on (first (statement_stage f)) _ a.tables p₂.1 in
    ap (λ (t : Parsed). mend_parsed t s g l k) (parse_derived s d.covered d.derivation)
    ∙ none_faulty f s g l k p₁.0 p₂.0
    ∙ ap (λ (ds : List Drop). mend_by s g ds l k) (nothing_dropped f p₃.0)
    ∙ ap (λ (x : Answer). by_answer x s g [] l k) (ap reading (mended_none s) ∙ r)
    ∙ ap (λ (x : List ℕ). written x (lines g (dropped s [])) l k) (mended_none s)
    ∙ ap (λ (x : List Dropped). written s (lines g x) l k) (dropped_none s)
    ∙ written_whole s g l k h

pub mended_stays : MendedStays
mended_stays s g l k n c e g₁ l₁ k₁ h = accepted_stays (take n (mend_text s g l k).text) (written_accepted s g l k n c e) g₁ l₁ k₁ h

-- The pieces follow one another --------------------------------------------------------------------------------------------------------------

module _ (s : List ℕ) (n : ℕ → ℕ) where
  one_follows : (k p : ℕ) → p < length s → {ps : List Piece} → Follow (length s) ps (next_place k s p) → Follow (length s) (piece_at k s p ∷ ps) p
  unfolding piece_at next_place
  one_follows zero p h t = byte_kept t
  one_follows (suc k) p h {ps} t =
      let a = end_after s p h in
      let e : end_of s p ≡ p + (end_of s p - p) = omega arith in
      span_dropped (let z : 0 < end_of s p - p = omega arith in z) (subst (λ (q : ℕ). Follow (length s) ps q) e t)

  follow_from : (k p : ℕ) → length s ≤ p + k → p ≤ length s → Follow (length s) (pieces s n p) p
  follow_from zero p h i = let e : length s ≡ p = omega arith in subst (λ (q : ℕ). Follow (length s) (pieces s n q) q) e (ended (length s) refl)
    where
      ended : (q : ℕ) → q ≡ length s → Follow (length s) (pieces s n q) q
      ended q j = subst (λ (x : List Piece). Follow (length s) x q) (sym (pieces_past s n q (omega arith))) (subst (λ (z : ℕ). Follow (length s) [] z) (sym j) at_end)
  follow_from (suc k) p h i = by_place (λ q a b. follow_from k q a b) (dec_le (length s) p)
    where
      by_place : ((q : ℕ) → length s ≤ q + k → q ≤ length s → Follow (length s) (pieces s n q) q) → Dec (length s ≤ p) → Follow (length s) (pieces s n p) p
      by_place f (yes j) =
          let e : length s ≡ p = omega arith in
          subst (λ (x : List Piece). Follow (length s) x p) (sym (pieces_past s n p j)) (subst (λ (z : ℕ). Follow (length s) [] z) e at_end)
      by_place f (no j) =
          let l : p < length s = omega arith in
          let o = next_on (n p) s p l in
          subst (λ (x : List Piece). Follow (length s) x p) (sym (pieces_here s n p l))
          (one_follows (n p) p l (f (next_place (n p) s p) (omega arith) (next_in (n p) s p l)))

pub pieces_follow : PiecesFollow
pieces_follow s ds = follow_from s (number_at ds) (length s) 0 (omega arith) (omega arith)
