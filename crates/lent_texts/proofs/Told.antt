-- The answers of the functions, and what a call over lent texts takes from them. Assumes nothing.
use Prim.Native.Nat.{ℕ, ◌≤◌, ◌<◌}
use mathlib.Core.List.{List}
use mathlib.Core.Path.{◌≡◌, refl, sym, ◌∙◌, ap, subst, fun_ext}
use native.Mathlib.Omega.{arith}
use lib.ListN.{length, get_or, take}
use lib.Dec.{eqb}
use borrow.Author.Tests.{eq-eqb, ne_eqb}
use Rattle.token.specs.Find.{pick}
use Rattle.meaning.specs.Answers.{Tables, Answer, accepted, refused}
use Rattle.meaning.specs.Reading.{reading}
use Rattle.meaning.specs.Rules.{TheAnswer as TheTextsAnswer}
use Rattle.meaning.proofs.Whole.{answers as text-answers}
use Rattle.sources.specs.Expanding.{expanded, expansion_of}
use Rattle.sources.specs.Promises.{Expands}
use Rattle.sources.specs.declared.Expansion.{Expansion}
use Rattle.sources_reading.specs.Answering.{Answers, too_long as texts-too-long, renumbered}
use Rattle.sources_reading.proofs.Answered.{answers, one_answer}
use Rattle.sources_reading.proofs.Renumbered.{is_renumbered}
use Rattle.placing.specs.Placed.{place_in, placed_tables, is_at_start, placed_answer}
use Rattle.lent_texts.specs.Answered.{place_of, TheAnswer}
use Rattle.lent_texts.specs.Expanded.{refusal_at, refusal_in, Rooms, Filled, Holds, ExpandsTexts, short_rooms, too_long, expands, Lent}
use Rattle.lent_texts.specs.declared.Expanded.{Expanded}
use Rattle.rows.specs.Refusing.{fault_at, refusing}
use Rattle.rows.specs.declared.Fault.{Fault}
use Rattle.std.specs.Prelude.{Result, Ok, Err, IsErrAnd}
use Rattle.std.proofs.lemmas.Result.{err_from_is_err_and}
use Rattle.lent_texts.proofs.Kept.{Kept, kept}

-- ---- a refusal

pub number_three : (n f : ℕ) → n ≡ 3 → f ≡ pick (eqb n 3) f n
number_three n f e = rw (eq-eqb n 3 e)

pub number_other : (n f : ℕ) → (n ≡ 3 → ⊥) → n ≡ pick (eqb n 3) f n
number_other n f e = rw (ne_eqb n 3 e)

pub refused_is : (g : List ℕ) (e : Expanded) (k p n q : ℕ) → n ≡ pick (eqb k 3) e.fault k → q ≡ pick (is_at_start n) p (place_in g e.length e.main p) →
    record { number = n; place = q } ≡ refusal_in g e k p
unfolding refusal_at refusal_in
refused_is g e k p n q i j =
    ap (λ (y : ℕ). record { number = n; place = y }) j ∙ ap (λ (y : ℕ). refusal_at g e.length e.main y p) i

-- ---- `expand`

pub short_expands : {b l x g : List ℕ} → (Rooms x g → ⊥) → ExpandsTexts b l x g x g (refusing 1 0)
short_expands n = short_rooms n refl refl

module _ (b l x g x' g' : List ℕ) (e : Expansion) (u : Expands 65535 b l x g x' g' e) (hx : 65535 ≤ length x) (hg : 65535 ≤ length g) where
  rooms : Rooms x g
  rooms = record { bytes = hx; origins = hg }

  filled_is : Filled b l x g x' g'
  filled_is = record { bytes = u.bytes; origins = u.origins }

  pub long_expands : e.number ≡ 30 → ExpandsTexts b l x g x' g' (refusing 30 0)
  long_expands n = too_long rooms (sym (ap (λ (y : Expansion). y.number) u.result) ∙ n) filled_is

  module _ (not : e.number ≡ 30 → ⊥) where
    k : Kept b l x' g' e
    k = kept b l x g x' g' e u hx hg not

    pub two_told : 1 < length l
    two_told = k.two

    pub small_number : e.number ≤ 29
    small_number = k.small

    pub text_expands : ExpandsTexts b l x g x' g' (Ok (record { fault = e.number; length = e.length; main = get_or l 1 0 }))
    text_expands =
        expands rooms (record {
          within = λ z. not (ap (λ (y : Expansion). y.number) u.result ∙ z);
          fault = k.number;
          inside = k.inside;
          bytes = k.bytes;
          place = k.place;
        }) filled_is

-- ---- what a call takes from it

-- the lent texts are refused at once
pub data AtOnce (b l x g x' g' : List ℕ) (f : Fault) : Type 0 where
  by_1 : (Rooms x g → ⊥) → f ≡ fault_at 1 0 → x' ≡ x → g' ≡ g → AtOnce b l x g x' g' f
  by_30 : Rooms x g → f ≡ fault_at 30 0 → (expansion_of b l).number ≡ 30 → TheAnswer b l (refused 30 0) → Filled b l x g x' g' → AtOnce b l x g x' g' f

pub thirty_answer : (b l : List ℕ) → (expansion_of b l).number ≡ 30 → TheAnswer b l (refused 30 0)
unfolding placed_answer is_at_start
thirty_answer b l n =
    let h : Answers b l (refused 30 0) = texts-too-long n in
    record { in_expanded = refused 30 0; given = h; no_other = λ y k. sym (one_answer k) ∙ one_answer h; placed = refl }

pub at_once : {b l x g x' g' : List ℕ} {r : Lent} (f : Fault) → ExpandsTexts b l x g x' g' r → r ≡ Err f → AtOnce b l x g x' g' f
at_once f (short_rooms h i j) q = by_1 h (let z : f ≡ fault_at 1 0 = cc in z) i j
at_once {b} {l} f (too_long h i j) q = by_30 h (let z : f ≡ fault_at 30 0 = cc in z) i (thirty_answer b l i) j
at_once f (expands h i j) q = absurd (let z : ◌≡◌ {A = ℕ} 0 1 = cc in omega arith)

-- what `?` hands on is the refusal itself
pub passed_on : {A : Type 0} {r : Result A Fault} {f : Fault} → IsErrAnd r (λ y. y ≡ f) → r ≡ Err f
passed_on {r} h = let p = err_from_is_err_and r h in p.1 ∙ ap Err p.2

-- there is the expanded text
pub record There (b l x g x' g' : List ℕ) (e : Expanded) : Type 0 where
  pub rooms : Rooms x g
  pub holds : Holds b l x' g' e
  pub filled : Filled b l x g x' g'

pub there : {b l x g x' g' : List ℕ} {r : Lent} (e : Expanded) → ExpandsTexts b l x g x' g' r → r ≡ Ok e → There b l x g x' g' e
there e (short_rooms h i j) q = absurd (let z : ◌≡◌ {A = ℕ} 0 1 = cc in omega arith)
there e (too_long h i j) q = absurd (let z : ◌≡◌ {A = ℕ} 0 1 = cc in omega arith)
there {b} {l} {x' = x'} {g' = g'} e (expands {e = f} h i j) q =
    let z : f ≡ e = cc in
    record { rooms = h; holds = subst (Holds b l x' g') z i; filled = j }

pub inside : {b l x g x' g' : List ℕ} {r : Lent} {e : Expanded} → ExpandsTexts b l x g x' g' r → r ≡ Ok e → e.length ≤ length x'
inside {e = e} u q = (there e u q).holds.inside

-- the answer to the lent texts, by that to the expanded text
the_answer : {b l x g : List ℕ} {e : Expanded} (a : Answer) → Holds b l x g e → TheTextsAnswer (expanded b l).bytes a →
    TheAnswer b l (placed_answer (place_of b l) (renumbered (expanded b l).number a))
the_answer {b} {l} a k t =
    let s = (expanded b l).bytes in
    let q : reading s ≡ a = t.no_other (reading s) (text-answers s) in
    let h : Answers b l (renumbered (expanded b l).number a) =
    subst (Answers b l) (is_renumbered b l k.within ∙ ap (renumbered (expanded b l).number) q) (answers b l) in
    record { in_expanded = renumbered (expanded b l).number a; given = h; no_other = λ y j. sym (one_answer j) ∙ one_answer h; placed = refl }

pub answered_accepted : {b l x g : List ℕ} {e : Expanded} (t : Tables) → Holds b l x g e → TheTextsAnswer (expanded b l).bytes (accepted t) →
    TheAnswer b l (accepted (placed_tables (place_of b l) t))
unfolding renumbered placed_answer
answered_accepted t k h = the_answer (accepted t) k h

pub refusal_of : {b l x g : List ℕ} {e : Expanded} (n p : ℕ) → Holds b l x g e →
    placed_answer (place_of b l) (renumbered (expanded b l).number (refused n p)) ≡ refused (refusal_in g e n p).number (refusal_in g e n p).place
unfolding renumbered placed_answer refusal_at refusal_in
refusal_of {b} {l} {g = g} {e = e} n p k =
    sym (ap (λ (y : ℕ). refused (pick (eqb n 3) y n) (pick (is_at_start (pick (eqb n 3) y n)) p (place_in g e.length e.main p))) k.fault
    ∙ ap (λ (y : ℕ). refused (pick (eqb n 3) (expanded b l).number n) (pick (is_at_start (pick (eqb n 3) (expanded b l).number n)) p y)) (k.place p))

pub answered_refused : {b l x g : List ℕ} {e : Expanded} (n p : ℕ) → Holds b l x g e → TheTextsAnswer (expanded b l).bytes (refused n p) → (r : Fault) →
    r ≡ refusal_in g e n p → TheAnswer b l (refused r.number r.place)
answered_refused {b} {l} {g = g} {e = e} n p k h r q =
    subst (TheAnswer b l) (refusal_of n p k ∙ ap (λ (y : Fault). refused y.number y.place) (sym q)) (the_answer (refused n p) k h)

-- there is one answer
pub one_told : {b l : List ℕ} {a c : Answer} → TheAnswer b l a → TheAnswer b l c → a ≡ c
one_told {b} {l} t u = t.placed ∙ ap (placed_answer (place_of b l)) (u.no_other t.in_expanded t.given) ∙ sym u.placed
