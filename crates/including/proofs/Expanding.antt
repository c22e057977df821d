-- Lent texts expand to `expanded`, and to nothing else. Assumes nothing.
use mathlib.Core.Path.{◌≡◌, refl, sym, ◌∙◌, ap, ap₂, subst}
use mathlib.Core.List.{List, [], ◌∷◌}
use mathlib.Core.Bool.{Bool, true, false}
use Prim.Native.Nat.{ℕ, zero, suc, ◌+◌, ◌-◌, ◌≤◌, ◌<◌}
use native.Mathlib.Omega.{arith}
use lib.ListN.{length, get_or, set, length-set}
use lib.Dec.{eqb}
use borrow.Author.Tests.{ne_eqb, eqb-true, eqb-false}
use Rattle.token.specs.Find.{pick}
use Rattle.token.specs.Tokens.{bytes_between}
use Rattle.token.proofs.Find.{by_test}
use Rattle.sources.specs.Lines.{stop_at}
use Rattle.sources.specs.Texts.{told_well, find_name, include_by, include_of, event_by, event_at}
use Rattle.sources.specs.Expanding.{Piece, origin, onto, onto_part, stopped, onto_end, with_rest, included_by, included, after_event, walk, expand_n, inner, main_open, main_text, expanded}
use Rattle.sources.specs.declared.Line.{Line}
use Rattle.sources.specs.declared.Stop.{Stop}
use Rattle.sources.specs.declared.Stop.TheVariants.{At, Line as AtLine}
use Rattle.std.specs.Prelude.{Option, Some, None}
use Rattle.sources.specs.declared.Include.{Include}
use Rattle.sources.specs.declared.Event.{Event}
use Rattle.sources.specs.declared.Event.TheVariants.{Stop as Stops, Include as Includes}
use Rattle.sources.proofs.Events.{EventOk, event_ok}
use Rattle.sources.proofs.Pieces.{walk_law, expand_law}
use Rattle.including.specs.Expansions.{Expands, as_it_stands, with_text, with_fault, Expansions}

-- ---- a text to include is not open, and there are eight

-- how many texts are not open
abbrev closed : List ℕ → ℕ
closed [] = 0
closed (x ∷ o) = pick (eqb x 1) 0 1 + closed o

-- one more is open
fewer : (o : List ℕ) (n : ℕ) → n < length o → (get_or o n 0 ≡ 1 → ⊥) → closed o ≡ suc (closed (set o n 1))
fewer [] n h e = absurd (omega arith)
fewer (x ∷ o) zero h e = let y = ne_eqb x 1 e in rw y (omega arith)
fewer (x ∷ o) (suc n) h e =
    let i = fewer o n (omega arith) e in
    omega arith

abbrev Free : List ℕ → Event → Type 0
Free o (Stops n q) = Unit {0}
Free o (Includes i) = get_or o i.number 0 ≡ 1 → ⊥

hit_free : (o : List ℕ) (i : Line) (h : Option (ℕ × ℕ × ℕ)) → Free o (include_by o i h)
hit_free o i (Some (n, f, t)) =
    by_test (Free o) (eqb (get_or o n 0) 1) (Stops 27 i.hash) _ (λ _. tt) (λ e. eqb-false (get_or o n 0) 1 e)
hit_free o i None = tt

stop_free : (b l s o : List ℕ) (x : Stop) → Free o (event_by b l s o x)
unfolding include_of
stop_free b l s o (At n q) = tt
stop_free b l s o (AtLine i) = hit_free o i (find_name b l (bytes_between s i.from i.to))

event_free : (b l s o : List ℕ) (p : ℕ) → Free o (event_at b l s o p)
unfolding event_at
event_free b l s o p = stop_free b l s o (stop_at s p)

-- ---- what is computed is an expansion

module _ (b l o : List ℕ) (k : ℕ) (s : List ℕ) (g : Include → Piece) where
  -- the texts that are included are expanded
  abbrev Inner : Type 0
  Inner = (i : Include) → i.number < 8 → (get_or o i.number 0 ≡ 1 → ⊥) → Expands b l (set o i.number 1) i.number (bytes_between b i.from i.to) 0 (g i)

  at_include : (p : ℕ) (i : Include) (h : ℕ → Piece) → event_at b l s o p ≡ Includes i →
      Expands b l (set o i.number 1) i.number (bytes_between b i.from i.to) 0 (g i) → Expands b l o k s i.after (h i.after) →
      (t : Bool) → eqb (g i).number 0 ≡ t →
      Expands b l o k s p (onto_part k s p i.start (included_by t (origin k i.hash) (length s - i.after) (g i) h i.after))
  at_include p i h e x y true z = with_text o k s p i (g i) (h i.after) e x (eqb-true (g i).number 0 z) y
  at_include p i h e x y false z = with_fault o k s p i (g i) e x (eqb-false (g i).number 0 z)

  at_event : Inner → (p : ℕ) (h : ℕ → Piece) → ((q : ℕ) → p < q → q ≤ length s → Expands b l o k s q (h q)) → (e : Event) → event_at b l s o p ≡ e →
      EventOk b s p e → Free o e → Expands b l o k s p (after_event k s p g h e)
  unfolding included
  at_event f p h r (Stops n q) e ok free = as_it_stands o k s p n q e
  at_event f p h r (Includes i) e ok free =
      let a = ok.first in
      let c = ok.hash in
      let d = ok.after in
      at_include p i h e (f i ok.number free) (r i.after (omega arith) ok.last) (eqb (g i).number 0) refl

  at_place : told_well b l ≡ true → Inner → (n p : ℕ) → length s < p + n → p ≤ length s → Expands b l o k s p (walk b l k s o g p)
  at_place t f zero p h j = absurd (omega arith)
  at_place t f (suc n) p h j =
      subst (Expands b l o k s p) (sym (walk_law b l k s o g p t j))
      (at_event f p (walk b l k s o g) (λ q u v. at_place t f n q (omega arith) v) (event_at b l s o p) refl (event_ok b l s o p t j) (event_free b l s o p))

to_depth : (d : ℕ) (b l : List ℕ) → told_well b l ≡ true → (o : List ℕ) (k : ℕ) (s : List ℕ) → length o ≡ 8 → closed o < d → Expands b l o k s 0 (expand_n d b l k s o)
unfolding inner
to_depth zero b l t o k s h c = absurd (omega arith)
to_depth (suc d) b l t o k s h c =
    let e : suc d - 1 ≡ d = omega arith in
    subst (Expands b l o k s 0) (sym (expand_law (suc d) b l k s o (λ z. absurd (omega arith)) ∙ ap (λ (m : ℕ). walk b l k s o (inner m b l o) 0) e))
    (at_place b l o k s (inner d b l o) t
    (λ i n free.
    let f = fewer o i.number (omega arith) free in
    to_depth d b l t (set o i.number 1) i.number (bytes_between b i.from i.to) (length-set o i.number 1 ∙ h) (omega arith))
    (suc (length s)) 0 (omega arith) (omega arith))

-- ---- there is one

no_numbers : {A : Type 0} → ◌≡◌ {A = ℕ} 0 1 → A
no_numbers e = absurd (omega arith)

same_number : {n q m r : ℕ} → Stops n q ≡ Stops m r → n ≡ m
same_number e = cc

same_place : {n q m r : ℕ} → Stops n q ≡ Stops m r → q ≡ r
same_place e = cc

same_line : {i j : Include} → Includes i ≡ Includes j → i ≡ j
same_line e = cc

no_line : {A : Type 0} {n q : ℕ} {i : Include} → Stops n q ≡ Includes i → A
no_line e = no_numbers cc

one : {b l o : List ℕ} {k : ℕ} {s : List ℕ} {p : ℕ} {x y : Piece} → Expands b l o k s p x → Expands b l o k s p y → x ≡ y
one (as_it_stands _ k s p n q e) (as_it_stands _ _ _ _ m r f) = ap₂ (stopped k s p) (same_number (sym e ∙ f)) (same_place (sym e ∙ f))
one (as_it_stands _ _ _ _ n q e) (with_text _ _ _ _ i x y f u z v) = no_line (sym e ∙ f)
one (as_it_stands _ _ _ _ n q e) (with_fault _ _ _ _ i x f u z) = no_line (sym e ∙ f)
one (with_text _ _ _ _ i x y f u z v) (as_it_stands _ _ _ _ n q e) = no_line (sym e ∙ f)
one (with_fault _ _ _ _ i x f u z) (as_it_stands _ _ _ _ n q e) = no_line (sym e ∙ f)
one {b} {l} {o} (with_text _ k s p i x y f u z v) (with_text _ _ _ _ j x' y' f' u' z' v') =
    let w : j ≡ i = same_line (sym f' ∙ f) in
    let c : x ≡ x' = one u (subst (λ (a : Include). Expands b l (set o a.number 1) a.number (bytes_between b a.from a.to) 0 x') w u') in
    let d : y ≡ y' = one v (subst (λ (a : Include). Expands b l o k s a.after y') w v') in
    ap (λ (a : Piece). onto_part k s p i.start (onto a.bytes a.origins (onto_end (origin k i.hash) y))) c
    ∙ ap (λ (a : Piece). onto_part k s p i.start (onto x'.bytes x'.origins (onto_end (origin k i.hash) a))) d
    ∙ ap (λ (a : Include). onto_part k s p a.start (onto x'.bytes x'.origins (onto_end (origin k a.hash) y'))) (sym w)
one {b} {l} {o} (with_text _ _ _ _ i x y f u z v) (with_fault _ _ _ _ j x' f' u' z') =
    let w : j ≡ i = same_line (sym f' ∙ f) in
    let c : x ≡ x' = one u (subst (λ (a : Include). Expands b l (set o a.number 1) a.number (bytes_between b a.from a.to) 0 x') w u') in
    absurd (z' (ap (λ (a : Piece). a.number) (sym c) ∙ z))
one {b} {l} {o} (with_fault _ _ _ _ i x f u z) (with_text _ _ _ _ j x' y' f' u' z' v') =
    let w : j ≡ i = same_line (sym f' ∙ f) in
    let c : x ≡ x' = one u (subst (λ (a : Include). Expands b l (set o a.number 1) a.number (bytes_between b a.from a.to) 0 x') w u') in
    absurd (z (ap (λ (a : Piece). a.number) c ∙ z'))
one {b} {l} {o} (with_fault _ k s p i x f u z) (with_fault _ _ _ _ j x' f' u' z') =
    let w : j ≡ i = same_line (sym f' ∙ f) in
    let c : x ≡ x' = one u (subst (λ (a : Include). Expands b l (set o a.number 1) a.number (bytes_between b a.from a.to) 0 x') w u') in
    ap (λ (a : Piece). onto_part k s p i.start (with_rest (suc (length s - i.after)) a)) c
    ∙ ap (λ (a : Include). onto_part k s p a.start (with_rest (suc (length s - a.after)) x')) (sym w)

-- THE THEOREM.
pub expansions : Expansions
unfolding expanded
expansions b l t =
    let e : Expands b l main_open 0 (main_text b l) 0 (expanded b l) = to_depth 8 b l t main_open 0 (main_text b l) refl (omega arith) in
    record { expands = e; only = λ x u. one u e }
