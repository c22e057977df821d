-- The answers of the functions. Assumes nothing.
use Prim.Native.Nat.{ℕ, min}
use mathlib.Core.List.{List}
use mathlib.Core.Path.{◌≡◌, refl, sym, ◌∙◌, ap, ap₂, subst}
use native.Mathlib.Omega.{arith}
use lib.ListN.{length, take, replicate, length-replicate}
use lib.Dec.{eqb}
use borrow.Author.Tests.{eq-eqb, ne_eqb}
use Rattle.token.specs.Find.{pick}
use Rattle.meaning.specs.Answers.{Answer, Tables, accepted, refused}
use Rattle.meaning.specs.Rules.{TheAnswer as TheTextsAnswer, FullRoom}
use Rattle.reading.specs.Results.{reading_of}
use Rattle.reading.specs.Rules.{ReadsByRules}
use Rattle.reading.specs.Rules as reads
use Rattle.reading.specs.declared.Reading.{Reading}
use Rattle.reading.specs.declared.Answer.{Answer as Given}
use Rattle.reading.specs.declared.Answer.TheVariants as a
use Rattle.comparing.specs.Lists.{overwrite}
use Rattle.comparing.specs.Differences.{compare_texts}
use Rattle.comparing.specs.declared.Difference.{Difference}
use Rattle.comparing.specs.declared.Found.{Found}
use Rattle.comparing.specs.declared.Compared.{Compared as Result}
use Rattle.releases.specs.Promises.{Answered, Stopped as Halted}
use Rattle.releases.specs.Rules.{Refuses, ComparesByRules}
use Rattle.releases.specs.Rules as releases
use Rattle.releases.proofs.Answering.{compares_so}
use Rattle.sources_reading.specs.Answering.{text}
use Rattle.placing.specs.Placed.{place_in, placed_tables, is_at_start}
use Rattle.lent_texts.specs.Answered.{place_of, TheAnswer}
use Rattle.lent_texts.specs.Expanded.{refusal_in, ExpandsTexts, Lent}
use Rattle.lent_texts.specs.Expanded as lent
use Rattle.lent_texts.specs.declared.Expanded.{Expanded}
use Rattle.rows.specs.declared.Fault.{Fault}
use Rattle.std.specs.Prelude.{Ok, Err}
use Rattle.lent_texts.proofs.Told.{refused_is, AtOnce, by_1, by_30, at_once, There, there, answered_refused, answered_accepted}
use Rattle.releases_texts.specs.Comparing.{SideAnswer, short_rooms, by_rules, SideMemory, untouched, is_filled, SidesCompared, first_refused, second_refused, both_accepted, put, ListsTexts, ComparesTexts, side_in, told_in, ComparesExpanded, ListsExpanded, With, AnswersText, FirstOr, of_first, of_second}

-- ---- `side` and `compare_expanded`

pub side_is : (g : List ℕ) (e : Expanded) (c : Result) (n p : ℕ) → n ≡ pick (eqb c.number 3) e.fault c.number →
    p ≡ pick (is_at_start n) c.place (place_in g e.length e.main c.place) → record { which = c.which; number = n; place = p; total = 0 } ≡ side_in g e c
unfolding side_in
side_is g e c n p i j =
    ap (λ (y : Fault). record { which = c.which; number = y.number; place = y.place; total = 0 }) (refused_is g e c.number c.place n p i j)

first_told : (g : List ℕ) (e : Expanded) (h : List ℕ) (f : Expanded) (q r : Result) → q.which ≡ 1 → r ≡ side_in g e q → r ≡ told_in g e h f q
unfolding told_in
first_told g e h f q r i j = j ∙ sym (ap (λ b. pick b (side_in g e q) (pick (eqb q.which 2) (side_in h f q) q)) (eq-eqb q.which 1 i))

second_told : (g : List ℕ) (e : Expanded) (h : List ℕ) (f : Expanded) (q r : Result) → (q.which ≡ 1 → ⊥) → q.which ≡ 2 → r ≡ side_in h f q → r ≡ told_in g e h f q
unfolding told_in
second_told g e h f q r n i j =
    j ∙ sym (ap (λ b. pick b (side_in g e q) (pick (eqb q.which 2) (side_in h f q) q)) (ne_eqb q.which 1 n) ∙ ap (λ b. pick b (side_in h f q) q) (eq-eqb q.which 2 i))

neither_told : (g : List ℕ) (e : Expanded) (h : List ℕ) (f : Expanded) (q : Result) → (q.which ≡ 1 → ⊥) → (q.which ≡ 2 → ⊥) → q ≡ told_in g e h f q
unfolding told_in
neither_told g e h f q n i =
    sym (ap (λ b. pick b (side_in g e q) (pick (eqb q.which 2) (side_in h f q) q)) (ne_eqb q.which 1 n) ∙ ap (λ b. pick b (side_in h f q) q) (ne_eqb q.which 2 i))

-- the same records are put into a list
same_put : (q r : Found) → r.total ≡ q.total → r.records ≡ q.records → (ds : List Difference) → put q ds ≡ put r ds
same_put q r i j ds = sym (ap₂ (λ (n : ℕ) (y : List Difference). overwrite (take (min n 64) y) ds) i j)

module _ {s g : List ℕ} {e : Expanded} {t h : List ℕ} {f : Expanded} {q : Found} (w : Answered (compare_texts s t) q) where
  by_told : (r : Found) → r.total ≡ q.total → r.records ≡ q.records → r.compared ≡ told_in g e h f q.compared → ListsExpanded s g e t h f r
  by_told r i j z ds =
      record {
        in_expanded = q.compared;
        rules = subst (λ (y : List Difference). ComparesByRules s t ds y q.compared) (same_put q r i j ds) (compares_so s t ds q w).rules;
        told = z;
      }

  pub first_lists : {r : Found} {c : Result} → q.compared.which ≡ 1 → c ≡ side_in g e q.compared → With q c r → ListsExpanded s g e t h f r
  first_lists {r} {c} i j k = by_told r k.total k.records (k.answer ∙ first_told g e h f q.compared c i j)

  pub second_lists : {r : Found} {c : Result} → (q.compared.which ≡ 1 → ⊥) → q.compared.which ≡ 2 → c ≡ side_in h f q.compared → With q c r → ListsExpanded s g e t h f r
  second_lists {r} {c} n i j k = by_told r k.total k.records (k.answer ∙ second_told g e h f q.compared c n i j)

  pub neither_lists : (q.compared.which ≡ 1 → ⊥) → (q.compared.which ≡ 2 → ⊥) → ListsExpanded s g e t h f q
  neither_lists n i = by_told q refl refl (neither_told g e h f q.compared n i)

-- ---- `answer_of` and `first_or`

full_room : FullRoom (replicate 6656 0) (replicate 3072 0) (replicate 2048 0) (replicate 18432 0)
full_room =
    let d = length-replicate {A = ℕ} 6656 0 in
    let e = length-replicate {A = ℕ} 3072 0 in
    let o = length-replicate {A = ℕ} 2048 0 in
    let v = length-replicate {A = ℕ} 18432 0 in
    record { definitions = omega arith; enumerators = omega arith; objects = omega arith; values = omega arith }

by_answer : {s d e o v d' e' o' v' : List ℕ} {r : Reading} → ReadsByRules s d e o v d' e' o' v' r → FullRoom d e o v → AnswersText s r.answer
by_answer (reads.short_tables h q u) k = absurd (h k)
by_answer (reads.by_rules k x t q m) k' = record { answer = x; rules = t; result = ap (λ (y : Reading). y.answer) q }

pub answers_text : {s d' e' o' v' : List ℕ} {r : Reading} → ReadsByRules s (replicate 6656 0) (replicate 3072 0) (replicate 2048 0) (replicate 18432 0) d' e' o' v' r → AnswersText s r.answer
answers_text h = by_answer h full_room

refused_by : (s g : List ℕ) (e : Expanded) (n : Fault) (k p : ℕ) (r : Fault) (o : Found) (x : Answer) → TheTextsAnswer s x → (reading_of x).answer ≡ a.Refused k p →
    r ≡ refusal_in g e k p → Halted 1 r.number r.place o → FirstOr s g e n o
unfolding reading_of
refused_by s g e n k p r o (accepted y) t q z w = absurd (let w : ◌≡◌ {A = ℕ} 0 1 = cc in omega arith)
refused_by s g e n k p r o (refused i j) t q z w =
    let u : i ≡ k = cc in
    let v : j ≡ p = cc in
    of_first k p (subst (λ (y : ℕ). TheTextsAnswer s (refused y p)) u (subst (λ (y : ℕ). TheTextsAnswer s (refused i y)) v t))
    (subst (λ (y : Fault). Halted 1 y.number y.place o) z w)

pub first_refuses : {s g : List ℕ} {e : Expanded} {n : Fault} {k p : ℕ} {r : Fault} {x : Given} {o : Found} → AnswersText s x → x ≡ a.Refused k p → r ≡ refusal_in g e k p →
    Halted 1 r.number r.place o → FirstOr s g e n o
first_refuses {s} {g} {e} {n} {k} {p} {r} {o = o} w q z v = refused_by s g e n k p r o w.answer w.rules (sym w.result ∙ q) z v

accepted_by : (s g : List ℕ) (e : Expanded) (n : Fault) (o : Found) (x : Answer) → TheTextsAnswer s x → (reading_of x).answer ≡ a.Accepted → Halted 2 n.number n.place o → FirstOr s g e n o
unfolding reading_of
accepted_by s g e n o (accepted y) t q w = of_second y t w
accepted_by s g e n o (refused i j) t q w = absurd (let w : ◌≡◌ {A = ℕ} 0 1 = cc in omega arith)

pub first_accepts : {s g : List ℕ} {e : Expanded} {n : Fault} {x : Given} {o : Found} → AnswersText s x → x ≡ a.Accepted → Halted 2 n.number n.place o → FirstOr s g e n o
first_accepts {s} {g} {e} {n} {o = o} w q v = accepted_by s g e n o w.answer w.rules (sym w.result ∙ q) v

-- ---- the sides

memory : {b l x g x' g' : List ℕ} {o : Lent} → ExpandsTexts b l x g x' g' o → SideMemory b l x g x' g'
memory (lent.short_rooms h i j) = untouched h i j
memory (lent.too_long h i j) = is_filled h j
memory (lent.expands h i j) = is_filled h j

once : {b l x g x' g' : List ℕ} (n : Fault) → AtOnce b l x g x' g' n → SideAnswer b l x g (refused n.number n.place)
once {b} {l} {x} {g} n (by_1 h i j k) = subst (λ (o : Fault). SideAnswer b l x g (refused o.number o.place)) (sym i) (short_rooms h)
once {b} {l} {x} {g} n (by_30 h i _ k f) = subst (λ (o : Fault). SideAnswer b l x g (refused o.number o.place)) (sym i) (by_rules h k)

-- ---- the public call

-- a refused side leaves the list
put_stopped : (k n p : ℕ) (q : Found) (ds : List Difference) → Halted k n p q → put q ds ≡ ds
unfolding overwrite
put_stopped k n p q ds w =
    let e = w.total in
    let z : min q.total 64 ≡ 0 = omega (arith, e) in
    ap (λ (i : ℕ). overwrite (take i q.records) ds) z

leaves : (k n p : ℕ) (q : Found) (ds : List Difference) → Halted k n p q → Refuses k n p ds (put q ds) q.compared
leaves k n p q ds w = record { list = put_stopped k n p q ds w; result = w.answer }

module _ {b l x g x' g' c m y h y' h' : List ℕ} {o o₂ : Lent} (u : ExpandsTexts b l x g x' g' o) (u₂ : ExpandsTexts c m y h y' h' o₂) where
  pub stopped_first : {q : Found} (n : Fault) → o ≡ Err n → Halted 1 n.number n.place q → ListsTexts b l x g x' g' c m y h y' h' q
  stopped_first {q} n z w =
      record { first = memory u; second = memory u₂; rules = λ ds. first_refused n.number n.place (once n (at_once n u z)) (leaves 1 n.number n.place q ds w) }

  by_first : {e : Expanded} (n : Fault) (q : Found) (ds : List Difference) → There b l x g x' g' e → AtOnce c m y h y' h' n → FirstOr (text b l) g' e n q →
      SidesCompared b l x g c m y h ds (put q ds) q.compared
  by_first {e} n q ds t k (of_first i p w z) =
      let v = refusal_in g' e i p in
      first_refused v.number v.place (by_rules t.rooms (answered_refused i p t.holds w v refl)) (leaves 1 v.number v.place q ds z)
  by_first n q ds t k (of_second i w z) =
      second_refused (placed_tables (place_of b l) i) (by_rules t.rooms (answered_accepted i t.holds w)) n.number n.place (once n k) (leaves 2 n.number n.place q ds z)

  pub stopped_second : {e : Expanded} {q : Found} (n : Fault) → o ≡ Ok e → o₂ ≡ Err n → FirstOr (take e.length x') g' e n q →
      ListsTexts b l x g x' g' c m y h y' h' q
  stopped_second {e} {q} n z z₂ w =
      let t = there e u z in
      record {
        first = memory u;
        second = memory u₂;
        rules = λ ds. by_first n q ds t (at_once n u₂ z₂) (subst (λ (i : List ℕ). FirstOr i g' e n q) t.holds.bytes w);
      }

  compared_by : {e f : Expanded} (ds ds' : List Difference) (q r : Result) → There b l x g x' g' e → There c m y h y' h' f → ComparesByRules (text b l) (text c m) ds ds' q →
      r ≡ told_in g' e h' f q → SidesCompared b l x g c m y h ds ds' r
  unfolding told_in side_in
  compared_by {e} {f} ds ds' q r t t₂ (releases.first_refused n p w k) z =
      let v = refusal_in g' e n p in
      first_refused v.number v.place (by_rules t.rooms (answered_refused n p t.holds w v refl))
      (record { list = k.list; result = z ∙ ap (told_in g' e h' f) k.result })
  compared_by {e} {f} ds ds' q r t t₂ (releases.second_refused i j n p w k) z =
      let v = refusal_in h' f n p in
      second_refused (placed_tables (place_of b l) i) (by_rules t.rooms (answered_accepted i t.holds j)) v.number v.place
      (by_rules t₂.rooms (answered_refused n p t₂.holds w v refl))
      (record { list = k.list; result = z ∙ ap (told_in g' e h' f) k.result })
  compared_by {e} {f} ds ds' q r t t₂ (releases.both_accepted i j w w₂ d d₂ k) z =
      both_accepted (placed_tables (place_of b l) i) (placed_tables (place_of c m) j) (by_rules t.rooms (answered_accepted i t.holds w))
      (by_rules t₂.rooms (answered_accepted j t₂.holds w₂)) d d₂
      (λ s s₂. let v = k s s₂ in record { list = v.list; result = z ∙ ap (told_in g' e h' f) v.result })

  both_by : {e f : Expanded} (q : Found) (ds : List Difference) → There b l x g x' g' e → There c m y h y' h' f →
      ComparesExpanded (take e.length x') g' e (take f.length y') h' f ds (put q ds) q.compared → SidesCompared b l x g c m y h ds (put q ds) q.compared
  both_by {e} {f} q ds t t₂ w =
      let v : ComparesByRules (text b l) (text c m) ds (put q ds) w.in_expanded =
      subst (λ (i : List ℕ). ComparesByRules i (text c m) ds (put q ds) w.in_expanded) t.holds.bytes
      (subst (λ (i : List ℕ). ComparesByRules (take e.length x') i ds (put q ds) w.in_expanded) t₂.holds.bytes w.rules) in
      compared_by ds (put q ds) w.in_expanded q.compared t t₂ v w.told

  pub both_there : {e f : Expanded} {q : Found} → o ≡ Ok e → o₂ ≡ Ok f → ListsExpanded (take e.length x') g' e (take f.length y') h' f q →
      ListsTexts b l x g x' g' c m y h y' h' q
  both_there {e} {f} {q} z z₂ w =
      record { first = memory u; second = memory u₂; rules = λ ds. both_by q ds (there e u z) (there f u₂ z₂) (w ds) }

-- what was found, put into a list
pub compares_texts : {b l x g x' g' c m y h y' h' : List ℕ} {q : Found} (ds : List Difference) → ListsTexts b l x g x' g' c m y h y' h' q →
    ComparesTexts b l x g x' g' c m y h y' h' ds (put q ds) q.compared
compares_texts ds w = record { first = w.first; second = w.second; rules = w.rules ds }
