-- Eight texts one inside the other are enough: a text is not opened while it is open. Assumes nothing.
use Prim.Native.Nat.{ℕ, zero, suc, ◌+◌, ◌-◌, ◌≤◌, ◌<◌}
use mathlib.Core.List.{List, [], ◌∷◌}
use mathlib.Core.Bool.{Bool, true, false}
use mathlib.Core.Path.{◌≡◌, refl, ◌∙◌, ap}
use native.Mathlib.Omega.{arith}
use lib.ListN.{length, get_or, set, length-set}
use lib.Dec.{eqb}
use borrow.Author.Tests.{ne_eqb, eqb-false}
use Rattle.token.specs.Find.{pick}
use Rattle.token.specs.Tokens.{bytes_between}
use Rattle.token.proofs.Find.{by_test}
use Rattle.sources.specs.Lines.{stop_at}
use Rattle.sources.specs.Texts.{told_well, find_name, include_by, include_of, event_by, event_at}
use Rattle.sources.specs.Expanding.{Piece, origin, onto, onto_part, onto_end, included_by, included, after_event, walk_n, walk, expand_n, main_text, main_open, expanded}
use Rattle.sources.specs.declared.Line.{Line}
use Rattle.sources.specs.declared.Stop.{Stop}
use Rattle.sources.specs.declared.Stop.TheVariants.{At, Line as AtLine}
use Rattle.std.specs.Prelude.{Option, Some, None}
use Rattle.sources.specs.declared.Include.{Include}
use Rattle.sources.specs.declared.Event.{Event}
use Rattle.sources.specs.declared.Event.TheVariants.{Stop as Stops, Include as Includes}
use Rattle.sources.proofs.Events.{EventOk, event_ok}

-- how many texts are not open
abbrev pub closed : List ℕ → ℕ
closed [] = 0
closed (x ∷ o) = pick (eqb x 1) 0 1 + closed o

-- one more is open
fewer : (o : List ℕ) (n : ℕ) → n < length o → (get_or o n 0 ≡ 1 → ⊥) → closed o ≡ suc (closed (set o n 1))
fewer [] n h e = absurd (omega arith)
fewer (x ∷ o) zero h e = let y = ne_eqb x 1 e in rw y (omega arith)
fewer (x ∷ o) (suc n) h e =
    let i = fewer o n (omega arith) e in
    omega arith

-- a text to include is not open
abbrev Free : List ℕ → Event → Type 0
Free o (Stops n q) = Unit {0}
Free o (Includes i) = get_or o i.number 0 ≡ 1 → ⊥

hit_free : (o : List ℕ) (i : Line) (h : Option (ℕ × ℕ × ℕ)) → Free o (include_by o i h)
hit_free o i (Some (n, f, t)) =
    by_test (Free o) (eqb (get_or o n 0) 1) (Stops 27 i.hash) _ (λ _. tt) (λ e. eqb-false (get_or o n 0) 1 e)
hit_free o i None = tt

stop_free : (b l s o : List ℕ) (x : Stop) → Free o (event_by b l s o x)
unfolding include_of
stop_free b l s o (At n q) = tt
stop_free b l s o (AtLine i) = hit_free o i (find_name b l (bytes_between s i.from i.to))

event_free : (b l s o : List ℕ) (p : ℕ) → Free o (event_at b l s o p)
unfolding event_at
event_free b l s o p = stop_free b l s o (stop_at s p)

-- the same included texts, and the same after them
event_same : (b : List ℕ) (k : ℕ) (s o : List ℕ) (p : ℕ) (f g : Include → Piece) (v w : ℕ → Piece) (x : Event) → EventOk b s p x → Free o x →
    ((i : Include) → i.number < 8 → (get_or o i.number 0 ≡ 1 → ⊥) → f i ≡ g i) → ((q : ℕ) → q ≤ length s → v q ≡ w q) →
    after_event k s p f v x ≡ after_event k s p g w x
unfolding included
event_same b k s o p f g v w (Stops n q) h e y z = refl
event_same b k s o p f g v w (Includes i) h e y z =
    ap (λ (u : Piece). onto_part k s p i.start (included_by (eqb u.number 0) (origin k i.hash) (length s - i.after) u v i.after)) (y i h.number e)
    ∙ by_fault (eqb (g i).number 0) (z i.after h.last)
  where
    by_fault : (t : Bool) → v i.after ≡ w i.after →
        onto_part k s p i.start (included_by t (origin k i.hash) (length s - i.after) (g i) v i.after)
        ≡ onto_part k s p i.start (included_by t (origin k i.hash) (length s - i.after) (g i) w i.after)
    by_fault true u = ap (λ (y : Piece). onto_part k s p i.start (onto (g i).bytes (g i).origins (onto_end (origin k i.hash) y))) u
    by_fault false u = refl

walk_same : (n : ℕ) (b l : List ℕ) (k : ℕ) (s o : List ℕ) (f g : Include → Piece) (p : ℕ) → told_well b l ≡ true → p ≤ length s →
    ((i : Include) → i.number < 8 → (get_or o i.number 0 ≡ 1 → ⊥) → f i ≡ g i) → walk_n n b l k s o f p ≡ walk_n n b l k s o g p
unfolding walk_n
walk_same zero b l k s o f g p t h y = refl
walk_same (suc n) b l k s o f g p t h y =
    event_same b k s o p f g (walk_n n b l k s o f) (walk_n n b l k s o g) (event_at b l s o p) (event_ok b l s o p t h) (event_free b l s o p) y
    (λ q e. walk_same n b l k s o f g q t e y)

-- more depth than there are texts that are not open changes nothing
deep : (d e : ℕ) (b l : List ℕ) (k : ℕ) (s o : List ℕ) → told_well b l ≡ true → length o ≡ 8 → closed o < d → closed o < e → expand_n d b l k s o ≡ expand_n e b l k s o
unfolding expand_n walk
deep zero e b l k s o t h u v = absurd (omega arith)
deep (suc d) zero b l k s o t h u v = absurd (omega arith)
deep (suc d) (suc e) b l k s o t h u v =
    walk_same (suc (length s - 0)) b l k s o
    (λ i. expand_n d b l i.number (bytes_between b i.from i.to) (set o i.number 1))
    (λ i. expand_n e b l i.number (bytes_between b i.from i.to) (set o i.number 1)) 0 t (omega arith)
    (λ i m n.
    let c = fewer o i.number (omega arith) n in
    deep d e b l i.number (bytes_between b i.from i.to) (set o i.number 1) t (length-set o i.number 1 ∙ h) (omega arith) (omega arith))

-- The main text's expansion does not depend on how many texts may be opened one inside the other, if it is eight or more.
pub deep_enough : (d : ℕ) (b l : List ℕ) → told_well b l ≡ true → 8 ≤ d → expand_n d b l 0 (main_text b l) main_open ≡ expanded b l
unfolding expanded
deep_enough d b l t h = deep d 8 b l 0 (main_text b l) main_open t refl (omega arith) (omega arith)
