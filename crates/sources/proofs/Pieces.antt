-- The laws of pieces of the expanded text. Assumes nothing.
use Prim.Native.Nat.{ℕ, zero, suc, ◌+◌, ◌-◌, ◌≤◌, ◌<◌}
use mathlib.Core.List.{List, [], ◌∷◌, ◌++◌}
use mathlib.Core.Bool.{Bool, true, false}
use mathlib.Core.Path.{◌≡◌, refl, sym, ◌∙◌, ap, ap₂, subst}
use native.Mathlib.Omega.{arith}
use lib.ListN.{length, set, length-append}
use lib.Seq.{sets, length-sets}
use lib.Dec.{eqb}
use borrow.Author.Tests.{eq-eqb, ne_eqb, eqb-true, eqb-false}
use Rattle.rows.proofs.Stores.{sets_append, sets_out}
use Rattle.token.specs.Find.{pick}
use Rattle.token.specs.Tokens.{bytes_between}
use Rattle.token.proofs.Find.{by_test}
use Rattle.sources.specs.Texts.{told_well, event_at}
use Rattle.sources.specs.Expanding.{Piece, up_from, origin, onto, onto_part, nothing, stopped, onto_end, with_rest, included_by, included, after_event, walk_n, walk, expand_n, inner, is_too_long, fill_by, fill_of}
use Rattle.sources.specs.Promises.{Puts, Fills, Goes, EndsLine, Steps}
use Rattle.sources.specs.declared.Include.{Include}
use Rattle.sources.specs.declared.Event.{Event}
use Rattle.sources.specs.declared.Event.TheVariants.{Stop as Stops, Include as Includes}
use Rattle.sources.specs.declared.Fill.{Fill}
use Rattle.std.specs.declared.ops.ControlFlow.{ControlFlow}
use Rattle.std.specs.declared.ops.ControlFlow.TheVariants.{Continue, Break}
use Rattle.sources.proofs.Singles.{fill_long, fill_short, split}
use Rattle.sources.proofs.Stops.{length_between}
use Rattle.sources.proofs.Events.{IncludeFits, EventOk, event_ok}
use Rattle.sources.proofs.Notings.{LowEvent, low_event}

pub length_up : (a n : ℕ) → length (up_from a n) ≡ n
unfolding up_from
length_up a zero = refl
length_up a (suc n) = ap suc (length_up (suc a) n)

-- ---- pieces as they are expanded: as many origins as bytes; without a fault nothing stays unexpanded; no number above 29

pub record Good (x : Piece) : Type 0 where
  pub even : length x.origins ≡ length x.bytes
  pub whole : x.number ≡ 0 → x.rest ≡ 0
  pub small : x.number ≤ 29

good_onto : (f g : List ℕ) (x : Piece) → length g ≡ length f → Good x → Good (onto f g x)
unfolding onto
good_onto f g x e o =
    let n = length-append f x.bytes in
    let m = length-append g x.origins in
    let k = o.even in
    record { even = omega arith; whole = o.whole; small = o.small }

good_rest : (n : ℕ) (x : Piece) → (x.number ≡ 0 → ⊥) → Good x → Good (with_rest n x)
unfolding with_rest
good_rest n x e o = record { even = o.even; whole = λ z. absurd (e z); small = o.small }

good_included : (c n : ℕ) (x : Piece) (w : ℕ → Piece) (q : ℕ) → Good x → Good (w q) → (t : Bool) → eqb x.number 0 ≡ t → Good (included_by t c n x w q)
unfolding onto_end
good_included c n x w q o u true e = good_onto x.bytes x.origins _ o.even (good_onto (10 ∷ []) (c ∷ []) (w q) refl u)
good_included c n x w q o u false e = good_rest (suc n) x (eqb-false x.number 0 e) o

good_nothing : Good nothing
unfolding nothing
good_nothing = record { even = refl; whole = λ e. refl; small = omega arith }

good_event : (b : List ℕ) (k : ℕ) (s : List ℕ) (p : ℕ) (g : Include → Piece) (h : ℕ → Piece) → ((i : Include) → Good (g i)) →
    ((q : ℕ) → q ≤ length s → Good (h q)) → (x : Event) → EventOk b s p x → LowEvent x → Good (after_event k s p g h x)
unfolding stopped onto_part included
good_event b k s p g h f u (Stops n q) o e' =
    let a = length_between s p (length s) (omega arith) in
    record { even = length_up (origin k p) (length s - p) ∙ sym a; whole = λ e. refl; small = e' }
good_event b k s p g h f u (Includes i) o e' =
    let a = length_between s p i.start (omega arith) in
    good_onto (bytes_between s p i.start) (up_from (origin k p) (i.start - p)) _ (length_up (origin k p) (i.start - p) ∙ sym a)
    (good_included (origin k i.hash) (length s - i.after) (g i) h i.after (f i) (u i.after o.last) (eqb (g i).number 0) refl)

good_walk : (n : ℕ) (b l : List ℕ) (k : ℕ) (s o : List ℕ) (g : Include → Piece) (p : ℕ) → told_well b l ≡ true → ((i : Include) → Good (g i)) → p ≤ length s →
    Good (walk_n n b l k s o g p)
unfolding walk_n
good_walk zero b l k s o g p t f h = good_nothing
good_walk (suc n) b l k s o g p t f h =
    good_event b k s p g (walk_n n b l k s o g) f (λ q e. good_walk n b l k s o g q t f e) (event_at b l s o p) (event_ok b l s o p t h) (low_event b l s o p)

pub good_expand : (d : ℕ) (b l : List ℕ) (k : ℕ) (s o : List ℕ) → told_well b l ≡ true → Good (expand_n d b l k s o)
unfolding expand_n walk
good_expand zero b l k s o t = good_nothing
good_expand (suc d) b l k s o t =
    good_walk (suc (length s - 0)) b l k s o _ 0 t (λ i. good_expand d b l i.number _ _ t) (omega arith)

pub good_inner : (d : ℕ) (b l o : List ℕ) (i : Include) → told_well b l ≡ true → Good (inner d b l o i)
unfolding inner
good_inner d b l o i t = good_expand d b l i.number _ _ t

-- ---- one step of a text

event_same : (b : List ℕ) (k : ℕ) (s : List ℕ) (p : ℕ) (g : Include → Piece) (f h : ℕ → Piece) (x : Event) → EventOk b s p x →
    ((q : ℕ) → p < q → q ≤ length s → f q ≡ h q) → after_event k s p g f x ≡ after_event k s p g h x
unfolding included
event_same b k s p g f h (Stops n q) o e = refl
event_same b k s p g f h (Includes i) o e =
    let z : f i.after ≡ h i.after = e i.after (omega arith) o.last in
    by_fault (eqb (g i).number 0) z
  where
    by_fault : (t : Bool) → f i.after ≡ h i.after →
        onto_part k s p i.start (included_by t (origin k i.hash) (length s - i.after) (g i) f i.after)
        ≡ onto_part k s p i.start (included_by t (origin k i.hash) (length s - i.after) (g i) h i.after)
    by_fault true z = ap (λ (y : Piece). onto_part k s p i.start (onto (g i).bytes (g i).origins (onto_end (origin k i.hash) y))) z
    by_fault false z = refl

walks_same : (n m : ℕ) (b l : List ℕ) (k : ℕ) (s o : List ℕ) (g : Include → Piece) (p : ℕ) → told_well b l ≡ true → p ≤ length s →
    length s < p + n → length s < p + m → walk_n n b l k s o g p ≡ walk_n m b l k s o g p
unfolding walk_n
walks_same zero m b l k s o g p t h u v = absurd (omega arith)
walks_same (suc n) zero b l k s o g p t h u v = absurd (omega arith)
walks_same (suc n) (suc m) b l k s o g p t h u v =
    event_same b k s p g (walk_n n b l k s o g) (walk_n m b l k s o g) (event_at b l s o p) (event_ok b l s o p t h)
    (λ q e f. walks_same n m b l k s o g q t f (omega arith) (omega arith))

pub walk_law : (b l : List ℕ) (k : ℕ) (s o : List ℕ) (g : Include → Piece) (p : ℕ) → told_well b l ≡ true → p ≤ length s →
    walk b l k s o g p ≡ after_event k s p g (walk b l k s o g) (event_at b l s o p)
unfolding walk walk_n
walk_law b l k s o g p t h =
    event_same b k s p g (walk_n (length s - p) b l k s o g) (walk b l k s o g) (event_at b l s o p) (event_ok b l s o p t h)
    (λ q e f. walks_same (length s - p) (suc (length s - q)) b l k s o g q t f (omega arith) (omega arith))

-- ---- an included text

pub included_whole : (c n : ℕ) (x : Piece) (w : ℕ → Piece) (q : ℕ) → x.number ≡ 0 → included c n x w q ≡ onto x.bytes x.origins (onto_end c (w q))
unfolding included
included_whole c n x w q e = ap (λ (t : Bool). included_by t c n x w q) (eq-eqb x.number 0 e)

pub included_faulty : (c n : ℕ) (x : Piece) (w : ℕ → Piece) (q : ℕ) → (x.number ≡ 0 → ⊥) → included c n x w q ≡ with_rest (suc n) x
unfolding included
included_faulty c n x w q e = ap (λ (t : Bool). included_by t c n x w q) (ne_eqb x.number 0 e)

pub expand_law : (d : ℕ) (b l : List ℕ) (k : ℕ) (s o : List ℕ) → (d ≡ 0 → ⊥) → expand_n d b l k s o ≡ walk b l k s o (inner (d - 1) b l o) 0
unfolding expand_n inner
expand_law zero b l k s o h = absurd (h refl)
expand_law (suc d) b l k s o h =
    let e : suc d - 1 ≡ d = omega arith in
    rw e

-- ---- the steps of the code

module _ (b l : List ℕ) (k : ℕ) (s o : List ℕ) (d p : ℕ) where
  pub stop_piece : (n q : ℕ) → told_well b l ≡ true → p ≤ length s → event_at b l s o p ≡ Stops n q → stopped k s p n q ≡ walk b l k s o (inner d b l o) p
  stop_piece n q t h e =
      sym (walk_law b l k s o (inner d b l o) p t h ∙ ap (after_event k s p (inner d b l o) (walk b l k s o (inner d b l o))) e)

  pub line_piece : (i : Include) → told_well b l ≡ true → p ≤ length s → event_at b l s o p ≡ Includes i →
      onto_part k s p i.start (included (origin k i.hash) (length s - i.after) (inner d b l o i) (walk b l k s o (inner d b l o)) i.after) ≡ walk b l k s o (inner d b l o) p
  line_piece i t h e =
      sym (walk_law b l k s o (inner d b l o) p t h ∙ ap (after_event k s p (inner d b l o) (walk b l k s o (inner d b l o))) e)

  pub include_fits : (i : Include) → told_well b l ≡ true → p ≤ length s → event_at b l s o p ≡ Includes i → IncludeFits b s p i
  include_fits i t h e = subst (EventOk b s p) e (event_ok b l s o p t h)

  pub stop_fits : (n q : ℕ) → told_well b l ≡ true → p ≤ length s → event_at b l s o p ≡ Stops n q → (p ≤ q) × (q ≤ length s)
  stop_fits n q t h e = subst (EventOk b s p) e (event_ok b l s o p t h)
