-- From the inner functions to the call. Assumes nothing.
use mathlib.Core.Path.{◌≡◌, refl, sym, ◌∙◌, ap, subst}
use mathlib.Core.List.{List, ◌++◌}
use mathlib.Core.Bool.{Bool, true, false, false≢true}
use mathlib.Core.Option.{Option, none, some}
use Prim.Native.Nat.{ℕ, ◌≤◌, ◌<◌}
use native.Mathlib.Omega.{arith}
use native.Mathlib.Nat.{zero-add}
use lib.ListN.{length, take, drop, get_or, replicate, length-replicate}
use lib.Seq.{sets, sets-eq, length-sets}
use lib.Dec.{ltb}
use borrow.Author.Tests.{lt-ltb, le-ltb}
use Rattle.token.specs.Find.{pick, either}
use Rattle.token.specs.Tokens.{part_of}
use Rattle.std.specs.Prelude.{Some, None, Ok, Err, ⊤}
use Rattle.rows.specs.declared.Fault.{Fault}
use Rattle.rows.proofs.Stores.{part_sets_same}
use Rattle.blocks.proofs.Files.{part_inside}
use Rattle.meaning.specs.Syntax.{File}
use Rattle.meaning.specs.Words.{choose}
use Rattle.meaning.specs.Faults.{first, Fault as Refusal}
use Rattle.meaning.specs.Defining.{definition_faults}
use Rattle.meaning.specs.Applying.{object_faults}
use Rattle.meaning.specs.Answers.{Answer as Meant, accepted, refused, unless, answer}
use Rattle.meaning.specs.Reading.{Parsed, parsed, not_parsed, parse, answer_of_parsed, reading}
use Rattle.meaning.specs.Rules.{FullRoom}
use Rattle.meaning.proofs.Found.{parse_derived, reading_long}
use Rattle.meaning.proofs.Whole.{answers}
use Rattle.placing.specs.Placed.{is_at_start}
use Rattle.reading.specs.Results.{reading_of}
use Rattle.reading.specs.Rules.{ReadsByRules, short_tables, by_rules}
use Rattle.reading.specs.Decisions.{Merged, or_else, stage_fault, Decides}
use Rattle.reading.specs.declared.Answer.{Answer}
use Rattle.reading.specs.declared.Answer.TheVariants.{Accepted, Refused}
use Rattle.reading.specs.declared.Decision.{Decision}
use Rattle.reading.specs.declared.Reading.{Reading}
use Rattle.writing.specs.Wrote.{cap, Wrote}
use Rattle.dropping.specs.Drops.{Drop, all_drops, scatter}
use Rattle.mending.specs.Pieces.{dropped, mended, back, lines}
use Rattle.mending.specs.Results.{Outcome, left, place_back, written, by_answer, mend_by, or_refused, mend_parsed, mend_text, Leaves, MendsText}
use Rattle.mending.specs.Promises.{kept_by, mended_by, PutsMended, place_by, AnswersTo, PutsOut, DropsKept, MarksDrops, stops, marks}
use Rattle.mending.specs.Answered.{Answer as Mended, refused_at, not_mended_at, done_at}
use Rattle.mending.proofs.Scattered.{kept_is, mended_is, lines_are}
use Rattle.mending.proofs.Judged.{parsed_derived, own_syntax, parse_long, not_parsed_here}

-- `mark_drops` ---------------------------------------------------------------------------------------------------------------

pub long_stops : (s l : List ℕ) → 65535 < length s → MarksDrops s l l (Err (record { number = 2; place = 0 }))
long_stops s l h =
    stops (reading_long s h) (λ f e n. not_parsed_here (sym (parse_long s h) ∙ e))

module _ {s : List ℕ} {y : Merged} {r : Decision} (l : length s ≤ 65535) (h : Decides s (replicate 9747 0) (replicate 3075 0) (replicate 2570 0) (replicate 14343 0) y r) where
  pub fault_stops : {m : List ℕ} (x : Fault) → r.fault ≡ Some x → MarksDrops s m m (Err x)
  fault_stops x i =
      let d = h.decided l refl refl refl refl in
      stops (d.refused_by x i)
      (λ f e z. let w = parsed_derived s f e in d.stopped x i w.covered w.derivation (ap stage_fault (sym (own_syntax s f e w.derivation)) ∙ z))

  pub kept_marks : {m m' : List ℕ} (u : ⊤) → r.fault ≡ None → DropsKept s y r m m' → MarksDrops s m m' (Ok u)
  kept_marks u i k =
      let p = (h.decided l refl refl refl refl).passes i in
      let t = p.kept.situation in
      marks l p.file (parse_derived s p.covered t.derivation ∙ ap parsed (sym t.syntax_of)) p.no_definition_fault p.no_object_fault (k p)

-- `answer_to` --------------------------------------------------------------------------------------------------------------------------------

rooms : FullRoom (replicate 6656 0) (replicate 3072 0) (replicate 2048 0) (replicate 18432 0)
rooms =
    let a = length-replicate {A = ℕ} 6656 0 in
    let b = length-replicate {A = ℕ} 3072 0 in
    let c = length-replicate {A = ℕ} 2048 0 in
    let d = length-replicate {A = ℕ} 18432 0 in
    record { definitions = omega (arith, a); enumerators = omega (arith, b); objects = omega (arith, c); values = omega (arith, d) }

pub answers_to : {s d e o v : List ℕ} {r : Reading} → ReadsByRules s (replicate 6656 0) (replicate 3072 0) (replicate 2048 0) (replicate 18432 0) d e o v r → AnswersTo s r.answer
answers_to (short_tables n i u) = absurd (n rooms)
answers_to {s} (by_rules k a t i u) = ap (λ (x : Reading). x.answer) i ∙ ap (λ (x : Meant). (reading_of x).answer) (sym (t.no_other (reading s) (answers s)))

refused_by : (a : Meant) (n p : ℕ) → (reading_of a).answer ≡ Refused n p → a ≡ refused n p
unfolding reading_of
refused_by (accepted t) n p e = absurd (let z : ◌≡◌ {A = Bool} false true = cc in false≢true z)
refused_by (refused k q) n p e = let i : k ≡ n = cc in let j : q ≡ p = cc in cc

accepted_by : (a : Meant) → (reading_of a).answer ≡ Accepted → (s g : List ℕ) (ds : List Drop) (l k : List ℕ) → by_answer a s g ds l k ≡ written (mended s ds) (lines g (dropped s ds)) l k
unfolding reading_of by_answer
accepted_by (accepted t) e s g ds l k = refl
accepted_by (refused n p) e s g ds l k = absurd (let z : ◌≡◌ {A = Bool} false true = cc in false≢true z)

-- `refusal_back` -----------------------------------------------------------------------------------------------------------------------------

module _ (s m : List ℕ) (n p : ℕ) {b : Bool} (e : b ≡ is_at_start n) where
  pub back_start : b ≡ true → p ≡ place_by s m n p
  unfolding place_by
  back_start i = sym (ap (λ (x : Bool). pick x p (get_or (kept_by s m 0) p (length s))) (sym e ∙ i))

  pub back_other : b ≡ false → {q : ℕ} → q ≡ get_or (kept_by s m 0) p (length s) → q ≡ place_by s m n p
  unfolding place_by
  back_other i j = j ∙ sym (ap (λ (x : Bool). pick x p (get_or (kept_by s m 0) p (length s))) (sym e ∙ i))

-- `put_out` ----------------------------------------------------------------------------------------------------------------------------------

module _ (w x l k : List ℕ) where
  abbrev by_tests : Bool → Bool → Outcome
  by_tests a b =
      choose (either a b) (λ _. left (not_mended_at 20 0) l k)
      (λ _. record { result = done_at (length w) (length x); text = w ++ drop (length w) l; lines = x ++ drop (length x) k })

  left_both : (o : Outcome) → o ≡ left (not_mended_at 20 0) l k → Leaves o l k (not_mended_at 20 0)
  unfolding left
  left_both o e = record { result = ap (λ (y : Outcome). y.result) (sym e); text = ap (λ (y : Outcome). y.text) (sym e); lines = ap (λ (y : Outcome). y.lines) (sym e) }

  pub text_too_short : length l < length w → Leaves (written w x l k) l k (not_mended_at 20 0)
  unfolding written choose
  text_too_short h = left_both (written w x l k) (ap (λ (a : Bool). by_tests a (ltb (length k) (length x))) (lt-ltb (length l) (length w) h))

  module _ (h : length w ≤ length l) (n : ℕ) {y y' : List ℕ} (u : Wrote y 0 x y' n) where
    pub lines_too_short : length k < n → Leaves (written w x l k) l k (not_mended_at 20 0)
    unfolding written choose
    lines_too_short i =
        let e = u.next in
        let j : length k < length x = omega arith in
        left_both (written w x l k)
        (ap (λ (a : Bool). by_tests a (ltb (length k) (length x))) (le-ltb (length l) (length w) h) ∙ ap (λ (b : Bool). by_tests false b) (lt-ltb (length k) (length x) j))

    pub both_put : n ≤ length k → length k < cap → {l' k' : List ℕ} {a r : ℕ} → Wrote l 0 w l' a → Wrote k 0 x k' r → Leaves (written w x l k) l' k' (done_at (length w) r)
    unfolding written choose
    both_put i b {l'} {k'} {a} {r} p q =
        let e = u.next in
        let f = q.next in
        let j : length x ≤ length k = omega arith in
        let z : r ≡ length x = omega arith in
        let o = ap (λ (t : Bool). by_tests t (ltb (length k) (length x))) (le-ltb (length l) (length w) h) ∙ ap (λ (t : Bool). by_tests false t) (le-ltb (length k) (length x) j) in
        record {
          result = ap (done_at (length w)) z ∙ ap (λ (t : Outcome). t.result) (sym o);
          text = p.bytes ∙ sets-eq w l 0 (omega arith) ∙ rw (zero-add (length w)) (ap (λ (t : Outcome). t.text) (sym o));
          lines = q.bytes ∙ sets-eq x k 0 (omega arith) ∙ rw (zero-add (length x)) (ap (λ (t : Outcome). t.lines) (sym o));
        }

-- `mend` -------------------------------------------------------------------------------------------------------------------------------------

-- A refusal of a stage before 13.
module _ (s g l k : List ℕ) (n p : ℕ) (e : reading s ≡ refused n p) (not : (f : File) → parse s ≡ parsed f → stage_fault f ≡ none → ⊥) where
  same_refusal : {a b c d : ℕ} → ◌≡◌ {A = Meant} (refused a b) (refused c d) → left (refused_at a b) l k ≡ left (refused_at c d) l k
  same_refusal {a} {b} {c} {d} i = let x : a ≡ c = cc in let y : b ≡ d = cc in cc

  by_stages : (f : File) → parse s ≡ parsed f → (a b : Option Refusal) → first (definition_faults f) ≡ a → first (object_faults f) ≡ b → (next : Unit {0} → Meant) (o : Unit {0} → Outcome)
      → unless a (λ _. unless b next) ≡ refused n p → or_refused a l k (λ _. or_refused b l k o) ≡ left (refused_at n p) l k
  unfolding unless or_refused stage_fault or_else
  by_stages f i (some x) b u v next o r = same_refusal r
  by_stages f i none (some x) u v next o r = same_refusal r
  by_stages f i none none u v next o r = absurd (not f i (ap (λ (y : Option Refusal). or_else y (first (object_faults f))) u ∙ v))

  by_parse : (x : Parsed) → parse s ≡ x → mend_parsed x s g l k ≡ left (refused_at n p) l k
  unfolding mend_parsed reading answer_of_parsed answer
  by_parse (not_parsed a b) i = same_refusal (sym (ap answer_of_parsed i) ∙ e)
  by_parse (parsed f) i = by_stages f i (first (definition_faults f)) (first (object_faults f)) refl refl _ _ (sym (ap answer_of_parsed i) ∙ e)

  refused_text : mend_text s g l k ≡ left (refused_at n p) l k
  unfolding mend_text
  refused_text = by_parse (parse s) refl

leaves_left : {o : Outcome} {r : Mended} (l k : List ℕ) → o ≡ left r l k → Leaves o l k r
unfolding left
leaves_left l k e = record { result = ap (λ (y : Outcome). y.result) (sym e); text = ap (λ (y : Outcome). y.text) (sym e); lines = ap (λ (y : Outcome). y.lines) (sym e) }

pub mends_refused : {s m m' : List ℕ} {x : Fault} (g l k : List ℕ) → MarksDrops s m m' (Err x) → MendsText s g l k l k (refused_at x.number x.place)
mends_refused {s} {x = x} g l k (stops e h) = leaves_left l k (refused_text s g l k x.number x.place e h)

-- A text that passes.
record Ready (s m w : List ℕ) : Type 0 where
  drops : List Drop
  text : (g l k : List ℕ) → mend_text s g l k ≡ mend_by s g drops l k
  short : length s ≤ 65535
  marked : m ≡ scatter (replicate 65536 0) drops
  bytes : w ≡ mended s drops

pub none_faulty : (f : File) (s g l k : List ℕ) → first (definition_faults f) ≡ none → first (object_faults f) ≡ none → mend_parsed (parsed f) s g l k ≡ mend_by s g (all_drops f) l k
unfolding mend_parsed or_refused
none_faulty f s g l k a b =
    ap (λ (y : Option Refusal). or_refused y l k (λ _. or_refused (first (object_faults f)) l k (λ _. mend_by s g (all_drops f) l k))) a
    ∙ ap (λ (y : Option Refusal). or_refused y l k (λ _. mend_by s g (all_drops f) l k)) b

room_holds : (v w r : List ℕ) (n : ℕ) → length v ≡ 65535 → r ≡ sets v 0 w → n ≡ length w → n ≤ 65535 → part_of r 0 n ≡ w
room_holds v w r n h e i j =
    let z = ap length e ∙ length-sets v 0 w ∙ h in
    part_inside r 0 n (omega (arith, z, j)) ∙ ap (λ (x : ℕ). take x (drop 0 r)) i ∙ ap (λ (x : List ℕ). take (length w) (drop 0 x)) e
    ∙ part_sets_same v 0 w (omega (arith, h, i, j))

ready : {s m w r : List ℕ} {t : ⊤} {n : ℕ} → MarksDrops s (replicate 65536 0) m (Ok t) → PutsMended s m (replicate 65535 0) r n → w ≡ part_of r 0 n → Ready s m w
unfolding mend_text
ready {s} {m} {w} {r} {t} {n} (marks z x a b c d) u j =
    let k = u.few in
    let y = room_holds (replicate 65535 0) (mended_by s m 0) r n (length-replicate {A = ℕ} 65535 0) u.bytes u.many (omega (arith, k, z)) in
    record {
      drops = all_drops x;
      text = λ g l q. ap (λ (t : Parsed). mend_parsed t s g l q) a ∙ none_faulty x s g l q b c;
      short = z;
      marked = d;
      bytes = j ∙ y ∙ mended_is s m (all_drops x) z d;
    }

module _ {s m w r : List ℕ} {a : ⊤} {n : ℕ} (u : MarksDrops s (replicate 65536 0) m (Ok a)) (v : PutsMended s m (replicate 65535 0) r n) (j : w ≡ part_of r 0 n)
    {b : Answer} (t : AnswersTo w b) where
  y : Ready s m w
  y = ready u v j

  told : b ≡ (reading_of (reading (mended s y.drops))).answer
  told = t ∙ ap (λ (x : List ℕ). (reading_of (reading x)).answer) y.bytes

  pub mends_not : (g l k : List ℕ) (c p : ℕ) → b ≡ Refused c p → {q : ℕ} → q ≡ place_by s m c p → MendsText s g l k l k (not_mended_at c q)
  unfolding mend_by by_answer place_by place_back back
  mends_not g l k c p e {q} h =
      let z = refused_by (reading (mended s y.drops)) c p (sym told ∙ e) in
      leaves_left l k
      (y.text g l k
      ∙ ap (λ (x : Meant). by_answer x s g y.drops l k) z
      ∙ ap (λ (x : List ℕ). left (not_mended_at c (pick (is_at_start c) p (get_or x p (length s)))) l k) (sym (kept_is s m y.drops y.short y.marked))
      ∙ ap (λ (x : ℕ). left (not_mended_at c x) l k) (sym h))

  pub mends_done : (g l k : List ℕ) → b ≡ Accepted → {l' k' : List ℕ} {q : Mended} → PutsOut s g m w l k l' k' q → MendsText s g l k l' k' q
  unfolding mend_by
  mends_done g l k e {l'} {k'} {q} h =
      let z =
      y.text g l k
      ∙ accepted_by (reading (mended s y.drops)) (sym told ∙ e) s g y.drops l k
      ∙ ap (λ (x : List ℕ). written x (lines g (dropped s y.drops)) l k) (sym y.bytes)
      ∙ ap (λ (x : List ℕ). written w x l k) (sym (lines_are s m y.drops y.short y.marked g)) in
      subst (λ (x : Outcome). Leaves x l' k' q) (sym z) h
