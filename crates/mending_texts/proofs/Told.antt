-- The answers of the functions. Assumes nothing.
use Prim.Native.Nat.{ℕ, ◌≤◌, ◌<◌}
use mathlib.Core.List.{List, [], ◌∷◌, ◌++◌}
use mathlib.Core.Path.{◌≡◌, refl, sym, ◌∙◌, ap, subst}
use mathlib.Core.Bool.{Bool}
use native.Mathlib.Omega.{arith}
use lib.ListN.{length, take, drop, get_or}
use lib.Seq.{length-take-le}
use lib.Dec.{ltb}
use borrow.Author.Tests.{lt-ltb}
use Rattle.token.specs.Find.{pick}
use Rattle.grammar.specs.Grammar.{Derivation}
use Rattle.meaning.specs.Syntax.{File}
use Rattle.meaning.specs.Actions.{syntax}
use Rattle.sources.specs.Expanding.{expanded, main_text}
use Rattle.sources_reading.specs.Answering.{text, found}
use Rattle.placing.specs.Placed.{place_in, is_at_start}
use Rattle.lent_texts.specs.Answered.{place_of, TheAnswer}
use Rattle.lent_texts.specs.Expanded.{refusal_in, Holds, ExpandsTexts, Lent}
use Rattle.lent_texts.specs.declared.Expanded.{Expanded}
use Rattle.rows.specs.declared.Fault.{Fault}
use Rattle.std.specs.Prelude.{Ok, Err}
use Rattle.mending.specs.declared.Mended.{Mended as Lengths}
use Rattle.mending.specs.declared.Unmended.{Unmended}
use Rattle.mending.specs.declared.Unmended.TheVariants.{Refused, NotMended}
use Rattle.lent_texts.proofs.Told.{AtOnce, by_1, by_30, at_once, There, there, answered_refused}
use Rattle.dropping.specs.Drops.{Drop, all_drops}
use Rattle.mending.specs.Pieces.{dropped, mended, lines}
use Rattle.mending.specs.Results.{place_back}
use Rattle.mending.specs.Rules.{Passes, Mending, MendsByRules}
use Rattle.mending.specs.Rules as rules
use Rattle.mending.specs.Answered.{Answer, refused_at, not_mended_at, done_at}
use Rattle.mending.proofs.Placed.{lines_same}
use Rattle.mending_texts.specs.Telling.{placed_mended, MendsTexts, told_in, MendsExpanded}
use Rattle.mending_texts.specs.Telling as specs
use Rattle.mending_texts.specs.Answered.{Answer as Mended}
use Rattle.rows.specs.Refusing.{refusing}

-- ---- the inner function

module _ {s g : List ℕ} {e : Expanded} {o k o' k' : List ℕ} {y : Answer} (h : MendsByRules s g o k o' k' y) where
  pub refused_expanded : {x : Unmended} {f r : Fault} → y ≡ Err x → x ≡ Refused f → r ≡ refusal_in g e f.number f.place → MendsExpanded s g e o k o' k' (Err r)
  unfolding told_in
  refused_expanded i u j = record { in_expanded = y; rules = h; told = ap Err j ∙ ap (told_in g e) (sym (i ∙ ap Err u)) }

  pub not_mended_expanded : {x : Unmended} {f : Fault} {p : ℕ} → y ≡ Err x → x ≡ NotMended f → p ≡ pick (is_at_start f.number) f.place (place_in g e.length e.main f.place)
      → MendsExpanded s g e o k o' k' (refusing f.number p)
  unfolding told_in
  not_mended_expanded {f = f} i u j = record { in_expanded = y; rules = h; told = ap (λ (z : ℕ). refusing {A = Lengths} f.number z) j ∙ ap (told_in g e) (sym (i ∙ ap Err u)) }

  pub done_expanded : {d : Lengths} → y ≡ Ok d → MendsExpanded s g e o k o' k' (Ok d)
  unfolding told_in
  done_expanded i = record { in_expanded = y; rules = h; told = ap (told_in g e) (sym i) }

-- ---- the public call

once : {b l x g o k x' g' : List ℕ} (n : Fault) → AtOnce b l x g x' g' n → MendsTexts b l x g o k x' g' o k (Err n)
once n (by_1 h i j k) = specs.short_rooms h (ap Err i) j k refl refl
once n (by_30 h i e k f) = specs.too_long h f e k (ap Err i) refl refl

pub stopped_mends : {b l x g o k x' g' : List ℕ} {r : Lent} {n : Fault} {a : Mended} → ExpandsTexts b l x g x' g' r → r ≡ Err n → a ≡ Err n → MendsTexts b l x g o k x' g' o k a
stopped_mends {b} {l} {x} {g} {o} {k} {x'} {g'} {n = n} u q z = subst (MendsTexts b l x g o k x' g' o k) (sym z) (once n (at_once n u q))

module _ {b l x g : List ℕ} {e : Expanded} (t : Holds b l x g e) where
  long : length (text b l) ≡ e.length
  long = ap length (sym t.bytes) ∙ length-take-le e.length x t.inside

  -- The origins are those of the expanded text.
  same_origin : (p : ℕ) → p < length (text b l) → get_or g p 0 ≡ get_or (expanded b l).origins p 0
  unfolding place_of place_in
  same_origin p h =
      let i = long in
      let j : p < e.length = omega arith in
      sym (ap (λ (v : Bool). pick v (get_or g p 0) e.main) (lt-ltb p e.length j))
      ∙ t.place p
      ∙ ap (λ (v : Bool). pick v (get_or (expanded b l).origins p 0) (length (main_text b l))) (lt-ltb p (length (text b l)) h)

  same_lines : (ds : List Drop) → lines g (dropped (text b l) ds) ≡ lines (expanded b l).origins (dropped (text b l) ds)
  same_lines ds = lines_same (text b l) ds g (expanded b l).origins same_origin

  -- So the answer is by them,
  by_origins : {o k o' k' : List ℕ} (ds : List Drop) {y : Answer} → Mending (text b l) g ds o k o' k' y → Mending (text b l) (expanded b l).origins ds o k o' k' y
  by_origins ds (rules.not_mended n p h i j) = rules.not_mended n p h i j
  by_origins {o} {k} ds (rules.too_short u h (rules.text_short w) i j) = rules.too_short u h (rules.text_short w) i j
  by_origins {o} {k} ds (rules.too_short u h (rules.lines_short w) i j) = rules.too_short u h (rules.lines_short (subst (λ (z : List ℕ). length k < length z) (same_lines ds) w)) i j
  by_origins {o} {k} {o'} {k'} ds (rules.done u h v w i j) =
      subst (λ (z : List ℕ). (length z ≤ length k) → k' ≡ z ++ drop (length z) k → Mending (text b l) (expanded b l).origins ds o k o' k' (done_at (length (mended (text b l) ds)) (length z)))
      (sym (same_lines ds)) (λ w₁ j₁. rules.done u h v w₁ i j₁) w j

  -- and its place is that in the lent texts.
  mending_placed : {s h : List ℕ} {ds : List Drop} {o k o' k' : List ℕ} (y : Answer) → Mending s h ds o k o' k' y → told_in g e y ≡ placed_mended (place_of b l) y
  unfolding told_in placed_mended
  mending_placed {s} {ds = ds} _ (rules.not_mended n p h i j) = ap (λ (z : ℕ). refusing {A = Lengths} n (pick (is_at_start n) (place_back s ds n p) z)) (t.place (place_back s ds n p))
  mending_placed _ (rules.too_short u h w i j) = ap (λ (z : ℕ). refusing {A = Lengths} 20 (pick (is_at_start 20) 0 z)) (t.place 0)
  mending_placed _ (rules.done u h v w i j) = refl

mends_by : {b l x g o k x' g' o' k' : List ℕ} {e : Expanded} (y : Answer) (r : Mended) → There b l x g x' g' e → MendsByRules (text b l) g' o k o' k' y → r ≡ told_in g' e y
    → MendsTexts b l x g o k x' g' o' k' r
unfolding told_in
mends_by {b} {l} {g' = g'} {e = e} y r t (rules.refuses c n q h i j v) z =
    let u = refusal_in g' e n q in
    specs.refuses t.rooms t.filled t.holds.within c u.number u.place (answered_refused n q t.holds h u refl) (z ∙ ap (told_in g' e) i) j v
mends_by {b} {l} {g' = g'} {e = e} y r t (rules.mends p h) z =
    specs.mends t.rooms t.filled t.holds.within p y (λ d. by_origins t.holds (all_drops (syntax (text b l) d.tree)) (h d)) (z ∙ mending_placed t.holds y (h p.derivation))

pub text_mends : {b l x g o k x' g' o' k' : List ℕ} {r : Lent} {e : Expanded} {q : Mended} → ExpandsTexts b l x g x' g' r → r ≡ Ok e
    → MendsExpanded (take e.length x') g' e o k o' k' q → MendsTexts b l x g o k x' g' o' k' q
text_mends {o = o} {k = k} {g' = g'} {o' = o'} {k' = k'} {e = e} {q = q} u i w =
    let t = there e u i in
    mends_by w.in_expanded q t (subst (λ (z : List ℕ). MendsByRules z g' o k o' k' w.in_expanded) t.holds.bytes w.rules) w.told
