-- The laws of notes: what comes next in a text by its note, and how the notes of the texts are made. Assumes nothing.
use Prim.Native.Nat.{ℕ, zero, suc, ◌+◌, ◌-◌, ◌*◌, ◌/◌, ◌%◌, ◌≤◌, ◌<◌}
use mathlib.Core.List.{List, [], ◌∷◌}
use mathlib.Core.Bool.{Bool, true, false}
use mathlib.Core.Path.{◌≡◌, refl, sym, ◌∙◌, ap, subst}
use native.Mathlib.Omega.{arith}
use lib.ListN.{length, get_or, set, take}
use lib.Seq.{get_or-set_same, get_or-set_other}
use lib.Dec.{leb, eqb}
use borrow.Author.Tests.{lt-leb, le-leb, eq-eqb, ne_eqb}
use Rattle.token.specs.Find.{pick, both, byte}
use Rattle.token.specs.Words.{same}
use Rattle.token.specs.Bytes.{find_byte}
use Rattle.token.specs.Tokens.{bytes_between, step_at}
use Rattle.token.specs.declared.Step.{Step}
use Rattle.token.specs.declared.Step.TheVariants.{Found, Refused, End}
use Rattle.token.proofs.Find.{by_test}
use Rattle.sources.specs.Lines.{line_start, whole_to, named, line_by, line_of, hash_at, after_token, stop_n, stop_at}
use Rattle.sources.specs.Texts.{told_well, find_from, find_name, include_by, include_of, event_by, event_at}
use Rattle.sources.specs.Numbering.{span_from, span_of}
use Rattle.sources.specs.Notes.{cell_for, packed, note_of, none_open, open_by, event_back, Noted, ends, goes, AllNoted}
use Rattle.sources.specs.Promises.{AsksFrom, NotesText}
use Rattle.std.specs.Prelude.{Option, Some, None}
use Rattle.sources.specs.declared.Line.{Line}
use Rattle.sources.specs.declared.Stop.{Stop}
use Rattle.sources.specs.declared.Stop.TheVariants.{At, Line as AtLine}
use Rattle.sources.specs.declared.Include.{Include}
use Rattle.sources.specs.declared.Event.{Event}
use Rattle.sources.specs.declared.Event.TheVariants.{Stop as Stops, Include as Includes}
use Rattle.sources.proofs.Singles.{split}
use Rattle.sources.proofs.Stops.{length_between}
use Rattle.sources.proofs.Events.{IncludeFits, EventOk, event_ok}
use Rattle.sources.proofs.Numberings.{span_ok, same_from, same_to}

-- ---- four numbers in one

module _ (k a h e : ℕ) (i : a ≤ 65535) (j : h ≤ 65535) (m : e ≤ 65535) where
  pack_number : packed k a h e / 281474976710656 ≡ k
  unfolding packed
  pack_number = omega arith

  pack_start : packed k a h e / 4294967296 % 65536 ≡ a
  unfolding packed
  pack_start = omega arith

  pack_hash : packed k a h e / 65536 % 65536 ≡ h
  unfolding packed
  pack_hash = omega arith

  pack_after : packed k a h e % 65536 ≡ e
  unfolding packed
  pack_after = omega arith

-- ---- the number of a fault is small

abbrev Low : Stop → Type 0
Low (At n q) = n ≤ 29
Low (AtLine i) = Unit {0}

low_name : (s : List ℕ) (h a e : ℕ) (x : Option (ℕ × ℕ)) → Low (line_by s h a e x)
low_name s h a e (Some (f, t)) = tt
low_name s h a e None = omega arith

low_hash : (s : List ℕ) (p q : ℕ) → Low (hash_at s p q)
unfolding hash_at line_of
low_hash s p q =
    by_test Low (eqb (byte s q) 35) (line_of s p q) (At 3 q)
    (λ _.
    by_test Low (both (leb p (line_start s q)) (whole_to (take (line_start s q) s) p)) _ (At 29 q)
    (λ _. low_name s q (line_start s q) (find_byte 10 s q) (named (bytes_between s (line_start s q) (find_byte 10 s q)) (q - line_start s q))) (λ _. omega arith))
    (λ _. omega arith)

low_after : (s : List ℕ) (p : ℕ) (k : ℕ → Stop) (r : Step) → ((q : ℕ) → Low (k q)) → Low (after_token r s p k)
low_after s p k (Found t c) f = f c.at
low_after s p k (Refused q) f = low_hash s p q
low_after s p k (End n) f = omega arith

low_n : (n : ℕ) (s : List ℕ) (p : ℕ) → Low (stop_n n s p)
unfolding stop_n
low_n zero s p = omega arith
low_n (suc n) s p = low_after s p (λ q. stop_n n s q) (step_at s p) (λ q. low_n n s q)

abbrev pub LowEvent : Event → Type 0
LowEvent (Stops n q) = n ≤ 29
LowEvent (Includes i) = Unit {0}

low_include : (o : List ℕ) (i : Line) (h : Option (ℕ × ℕ × ℕ)) → LowEvent (include_by o i h)
low_include o i (Some (n, f, t)) = by_test LowEvent (eqb (get_or o n 0) 1) (Stops 27 i.hash) _ (λ _. omega arith) (λ _. tt)
low_include o i None = omega arith

low_stop : (b l s o : List ℕ) (x : Stop) → Low x → LowEvent (event_by b l s o x)
unfolding include_of
low_stop b l s o (At n q) h = h
low_stop b l s o (AtLine i) h = low_include o i (find_name b l (bytes_between s i.from i.to))

pub low_event : (b l s o : List ℕ) (p : ℕ) → LowEvent (event_at b l s o p)
unfolding event_at stop_at
low_event b l s o p = low_stop b l s o (stop_at s p) (low_n (suc (length s - p)) s p)

-- ---- a text that is found by its name is that of its number

abbrev ByNumber : ℕ → List ℕ → ℕ → Option (ℕ × ℕ × ℕ) → Type 0
ByNumber a l i (Some (n, f, t)) = (i ≤ n) × ((m : ℕ) → span_from m a l (n - i) ≡ Some (m, f, t))
ByNumber a l i None = Unit {0}

later_number : (a x t i : ℕ) (l : List ℕ) (h : Option (ℕ × ℕ × ℕ)) → ByNumber (a + x + t) l (suc i) h → ByNumber a (x ∷ t ∷ l) i h
unfolding span_from
later_number a x t i l (Some (n, f, e)) o =
    let k = o.0 in
    let z : n - i ≡ suc (n - suc i) = omega arith in
    (omega arith, λ m. ap (span_from m a (x ∷ t ∷ l)) z ∙ o.1 m)
later_number a x t i l None o = tt

first_number : (a x t i : ℕ) (l : List ℕ) → ByNumber a (x ∷ t ∷ l) i (Some (i, a + x, a + x + t))
unfolding span_from
first_number a x t i l = let z : i - i ≡ 0 = omega arith in (omega arith, λ m. ap (span_from m a (x ∷ t ∷ l)) z)

find_number : (b : List ℕ) (i a : ℕ) (l w : List ℕ) → ByNumber a l i (find_from b i a l w)
unfolding find_from
find_number b i a [] w = tt
find_number b i a (x ∷ []) w = tt
find_number b i a (x ∷ t ∷ l) w =
    by_test (ByNumber a (x ∷ t ∷ l) i) (same (bytes_between b a (a + x)) w) (Some (i, a + x, a + x + t)) (find_from b (suc i) (a + x + t) l w)
    (λ _. first_number a x t i l)
    (λ _. later_number a x t i l (find_from b (suc i) (a + x + t) l w) (find_number b (suc i) (a + x + t) l w))

abbrev EventNumber : List ℕ → Event → Type 0
EventNumber l (Stops n q) = Unit {0}
EventNumber l (Includes i) = span_of l i.number ≡ Some (i.number, i.from, i.to)

hit_number : (l o : List ℕ) (i : Line) (h : Option (ℕ × ℕ × ℕ)) → ByNumber 0 l 0 h → EventNumber l (include_by o i h)
unfolding span_of
hit_number l o i (Some (n, f, t)) k =
    by_test (EventNumber l) (eqb (get_or o n 0) 1) (Stops 27 i.hash) _ (λ _. tt)
    (λ _. let z : n - 0 ≡ n = omega arith in ap (span_from n 0 l) (sym z) ∙ k.1 n)
hit_number l o i None k = tt

stop_number : (b l s o : List ℕ) (x : Stop) → EventNumber l (event_by b l s o x)
unfolding include_of find_name
stop_number b l s o (At n q) = tt
stop_number b l s o (AtLine i) = hit_number l o i (find_name b l (bytes_between s i.from i.to)) (find_number b 0 0 l (bytes_between s i.from i.to))

pub event_number : (b l s o : List ℕ) (p : ℕ) → EventNumber l (event_at b l s o p)
unfolding event_at
event_number b l s o p = stop_number b l s o (stop_at s p)

-- ---- what comes next while texts are open, by what comes next while none is

abbrev reopened : List ℕ → Event → Event
reopened o (Stops n q) = Stops n q
reopened o (Includes i) = pick (eqb (get_or o i.number 0) 1) (Stops 27 i.hash) (Includes i)

none_open_lem : (n : ℕ) → get_or none_open n 0 ≡ 0
none_open_lem zero = refl
none_open_lem (suc zero) = refl
none_open_lem (suc (suc zero)) = refl
none_open_lem (suc (suc (suc zero))) = refl
none_open_lem (suc (suc (suc (suc zero)))) = refl
none_open_lem (suc (suc (suc (suc (suc zero))))) = refl
none_open_lem (suc (suc (suc (suc (suc (suc zero)))))) = refl
none_open_lem (suc (suc (suc (suc (suc (suc (suc zero))))))) = refl
none_open_lem (suc (suc (suc (suc (suc (suc (suc (suc n)))))))) = refl

hit_reopened : (o : List ℕ) (i : Line) (h : Option (ℕ × ℕ × ℕ)) → include_by o i h ≡ reopened o (include_by none_open i h)
hit_reopened o i (Some (n, f, t)) =
    sym (ap (λ (m : ℕ). reopened o (pick (eqb m 1) (Stops 27 i.hash)
    (Includes (record { number = n; from = f; to = t; hash = i.hash; start = i.start; after = i.after })))) (none_open_lem n))
hit_reopened o i None = refl

stop_reopened : (b l s o : List ℕ) (x : Stop) → event_by b l s o x ≡ reopened o (event_by b l s none_open x)
unfolding include_of
stop_reopened b l s o (At n q) = refl
stop_reopened b l s o (AtLine i) = hit_reopened o i (find_name b l (bytes_between s i.from i.to))

event_reopened : (b l s o : List ℕ) (p : ℕ) → event_at b l s o p ≡ reopened o (event_at b l s none_open p)
unfolding event_at
event_reopened b l s o p = stop_reopened b l s o (stop_at s p)

-- ---- what comes next, by its note

back_stop : (l o : List ℕ) (n q : ℕ) → n ≤ 65535 → q ≤ 65535 → event_back l o (note_of (Stops n q)) ≡ Stops n q
unfolding event_back note_of
back_stop l o n q h k =
    let z : 0 ≤ 65535 = omega arith in
    rw (pack_number 8 0 n q z h k, pack_hash 8 0 n q z h k, pack_after 8 0 n q z h k)

back_line : (l o : List ℕ) (i : Include) → i.number < 8 → i.start ≤ 65535 → i.hash ≤ 65535 → i.after ≤ 65535 →
    span_of l i.number ≡ Some (i.number, i.from, i.to) → event_back l o (note_of (Includes i)) ≡ reopened o (Includes i)
unfolding event_back note_of
back_line l o i h a k e f =
    let k' = i.number in
    rw (pack_number i.number i.start i.hash i.after a k e, lt-leb 8 i.number h, f, pack_hash i.number i.start i.hash i.after a k e, pack_start i.number i.start i.hash i.after a k e, pack_after i.number i.start i.hash i.after a k e)

module _ (b l t : List ℕ) (k : ℕ) (s o : List ℕ) where
  pub noted_event : (p : ℕ) → told_well b l ≡ true → length s ≤ 65535 → p ≤ length s → Noted b l t k s p →
      event_back l o (get_or t (cell_for k p) 0) ≡ event_at b l s o p
  noted_event p w h j (ends _ n q e g) =
      let u : n ≤ 29 = subst LowEvent e (low_event b l s none_open p) in
      let v : (p ≤ q) × (q ≤ length s) = subst (EventOk b s p) e (event_ok b l s none_open p w j) in
      let v' = v.1 in
      ap (event_back l o) g ∙ back_stop l o n q (omega arith) (omega arith) ∙ sym (event_reopened b l s o p ∙ ap (reopened o) e)
  noted_event p w h j (goes _ i e g r) =
      let v : IncludeFits b s p i = subst (EventOk b s p) e (event_ok b l s none_open p w j) in
      let f = v.hash in
      let a = v.after in
      let z = v.last in
      ap (event_back l o) g
      ∙ back_line l o i v.number (omega arith) (omega arith) (omega arith) (subst (EventNumber l) e (event_number b l s none_open p))
      ∙ sym (event_reopened b l s o p ∙ ap (reopened o) e)

  not_line : (p n q : ℕ) (i : Include) → event_at b l s none_open p ≡ Stops n q → event_at b l s o p ≡ Includes i → ⊥
  not_line p n q i e f =
      let w : Stops n q ≡ Includes i = sym (event_reopened b l s o p ∙ ap (reopened o) e) ∙ f in
      let z : ◌≡◌ {A = ℕ} 0 1 = cc in
      omega arith

  same_line : (p : ℕ) (j i : Include) → event_at b l s none_open p ≡ Includes j → event_at b l s o p ≡ Includes i → j ≡ i
  same_line p j i e f = by (eqb (get_or o j.number 0) 1) (sym (event_reopened b l s o p ∙ ap (reopened o) e) ∙ f)
    where
      by : (x : Bool) → pick x (Stops 27 j.hash) (Includes j) ≡ Includes i → j ≡ i
      by true g = absurd (let z : ◌≡◌ {A = ℕ} 0 1 = cc in omega arith)
      by false g = cc

  pub noted_next : (p : ℕ) (i : Include) → event_at b l s o p ≡ Includes i → Noted b l t k s p → Noted b l t k s i.after
  noted_next p i f (ends _ n q e g) = absurd (not_line p n q i e f)
  noted_next p i f (goes _ j e g r) = subst (λ (x : Include). Noted b l t k s x.after) (same_line p j i e f) r

pub event_is : (b l t : List ℕ) (k : ℕ) (s o : List ℕ) (p : ℕ) (r x : Event) → told_well b l ≡ true → AsksFrom b l t s k p →
    r ≡ event_back l o (get_or t (cell_for k p) 0) → r ≡ x → event_at b l s o p ≡ x
event_is b l t k s o p r x w a e f = sym (noted_event b l t k s o p w a.short a.inside a.noted) ∙ sym e ∙ f

include_span : (b l s o : List ℕ) (p : ℕ) (i : Include) → event_at b l s o p ≡ Includes i → span_of l i.number ≡ Some (i.number, i.from, i.to)
include_span b l s o p i e = subst (EventNumber l) e (event_number b l s o p)

pub span_length : (b l : List ℕ) (k n f e : ℕ) → told_well b l ≡ true → span_of l k ≡ Some (n, f, e) → length (bytes_between b f e) ≤ 65535
span_length b l k n f e w h =
    let o = span_ok b l k n f e w h in
    let z = length_between b f e o.1 in
    let y = o.2 in
    omega arith

-- an included text is noted from its start on
pub inner_asks : (b l t s o : List ℕ) (p : ℕ) (i : Include) → told_well b l ≡ true → AllNoted b l t 8 → i.number < 8 → event_at b l s o p ≡ Includes i →
    AsksFrom b l t (bytes_between b i.from i.to) i.number 0
inner_asks b l t s o p i w a h e =
    let z = include_span b l s o p i e in
    record { short = span_length b l i.number i.number i.from i.to w z; inside = omega arith; noted = a.each i.number i.from i.to h z }

module _ (b l s : List ℕ) (p : ℕ) (w : told_well b l ≡ true) (h : length s ≤ 65535) (j : p ≤ length s) where
  pub stop_small : (n q : ℕ) → event_at b l s none_open p ≡ Stops n q → (n ≤ 65535) × (q ≤ 65535)
  stop_small n q e =
      let u : n ≤ 29 = subst LowEvent e (low_event b l s none_open p) in
      let v : (p ≤ q) × (q ≤ length s) = subst (EventOk b s p) e (event_ok b l s none_open p w j) in
      let v' = v.1 in
      (omega arith, omega arith)

  pub line_fits : (i : Include) → event_at b l s none_open p ≡ Includes i → IncludeFits b s p i
  line_fits i e = subst (EventOk b s p) e (event_ok b l s none_open p w j)

  pub line_small : (i : Include) → event_at b l s none_open p ≡ Includes i → (i.number ≤ 8) × ((i.start ≤ 65535) × ((i.hash ≤ 65535) × (i.after ≤ 65535)))
  line_small i e =
      let v = line_fits i e in
      let n = v.number in
      let f = v.hash in
      let a = v.after in
      let z = v.last in
      (omega arith, (omega arith, (omega arith, omega arith)))

-- ---- how a text is noted

-- from its start up to p
pub data UpTo (b l t : List ℕ) (k : ℕ) (s : List ℕ) : ℕ → Type 0 where
  start : (p : ℕ) → p ≡ 0 → UpTo b l t k s p
  next : (p q : ℕ) (i : Include) → event_at b l s none_open p ≡ Includes i → get_or t (cell_for k p) 0 ≡ note_of (Includes i) → q ≡ i.after → p + 10 ≤ q →
      UpTo b l t k s p → UpTo b l t k s q

-- nothing below m is changed
pub record Below (m : ℕ) (t t' : List ℕ) : Type 0 where
  pub same : (j : ℕ) → j < m → get_or t' j 0 ≡ get_or t j 0

pub below_none : (m : ℕ) (t : List ℕ) → Below m t t
below_none m t = record { same = λ j h. refl }

cell_less : (k p q : ℕ) → p + 10 ≤ q → cell_for k p < cell_for k q
unfolding cell_for
cell_less k p q h = omega arith

cell_low : (k p : ℕ) → k * 6554 ≤ cell_for k p
unfolding cell_for
cell_low k p = omega arith

pub cell_high : (k p : ℕ) → p ≤ 65535 → cell_for k p < (k + 1) * 6554
unfolding cell_for
cell_high k p h = omega arith

pub cell_inside : (k p : ℕ) → k < 8 → p ≤ 65535 → cell_for k p < 52432
unfolding cell_for
cell_inside k p h i = omega arith

up_to_set : (b l t : List ℕ) (k : ℕ) (s : List ℕ) (j v p : ℕ) → cell_for k p ≤ j → UpTo b l t k s p → UpTo b l (set t j v) k s p
up_to_set b l t k s j v p h (start _ e) = start p e
up_to_set b l t k s j v q h (next p _ i e g z m u) =
    let c = cell_less k p q m in
    next p q i e (get_or-set_other t j (cell_for k p) v 0 (λ y. omega arith) ∙ g) z m (up_to_set b l t k s j v p (omega arith) u)

up_to_noted : (b l t : List ℕ) (k : ℕ) (s : List ℕ) (p : ℕ) → UpTo b l t k s p → Noted b l t k s p → Noted b l t k s 0
up_to_noted b l t k s p (start _ e) n = subst (Noted b l t k s) e n
up_to_noted b l t k s q (next p _ i e g z m u) n = up_to_noted b l t k s p u (goes p i e g (subst (Noted b l t k s) z n))

below_set : (m j v : ℕ) (t t' : List ℕ) → m ≤ j → Below m t t' → Below m t (set t' j v)
below_set m j v t t' h u = record { same = λ i k. get_or-set_other t' j i v 0 (λ y. omega arith) ∙ u.same i k }

module _ (b l s : List ℕ) (k : ℕ) (t₀ t : List ℕ) (p c v : ℕ) (room : c < length t) (at : c ≡ cell_for k p) (u : UpTo b l t k s p) (w : Below (k * 6554) t₀ t) where
  kept : Below (k * 6554) t₀ (set t c v)
  kept = let h = cell_low k p in below_set (k * 6554) c v t₀ t (omega arith) w

  here : get_or (set t c v) (cell_for k p) 0 ≡ v
  here = ap (λ (j : ℕ). get_or (set t c v) j 0) (sym at) ∙ get_or-set_same t c v 0 room

  front : UpTo b l (set t c v) k s p
  front = up_to_set b l t k s c v p (omega arith) u

  pub note_ends : (n q : ℕ) → event_at b l s none_open p ≡ Stops n q → v ≡ packed 8 0 n q → NotesText b l s k t₀ (set t c v)
  unfolding note_of
  note_ends n q e f = record { noted = up_to_noted b l (set t c v) k s p front (ends p n q e (here ∙ f)); kept = λ j h. kept.same j h }

  pub note_goes : (i : Include) → event_at b l s none_open p ≡ Includes i → v ≡ packed i.number i.start i.hash i.after → p + 10 ≤ i.after →
      UpTo b l (set t c v) k s i.after
  unfolding note_of
  note_goes i e f h = next p i.after i e (here ∙ f) refl h front

  pub note_kept : Below (k * 6554) t₀ (set t c v)
  note_kept = kept

-- ---- how all texts are noted

noted_kept : (b l t t' : List ℕ) (k : ℕ) (s : List ℕ) (m p : ℕ) → told_well b l ≡ true → length s ≤ 65535 → p ≤ length s → (k + 1) * 6554 ≤ m →
    ((j : ℕ) → j < m → get_or t' j 0 ≡ get_or t j 0) → Noted b l t k s p → Noted b l t' k s p
noted_kept b l t t' k s m p w h j e f (ends _ n q x y) =
    let c = cell_high k p (omega arith) in
    ends p n q x (f (cell_for k p) (omega arith) ∙ y)
noted_kept b l t t' k s m p w h j e f (goes _ i x y r) =
    let c = cell_high k p (omega arith) in
    let v : IncludeFits b s p i = subst (EventOk b s p) x (event_ok b l s none_open p w j) in
    goes p i x (f (cell_for k p) (omega arith) ∙ y) (noted_kept b l t t' k s m i.after w h v.last e f r)

pub all_none : (b l t : List ℕ) → AllNoted b l t 0
all_none b l t = record { each = λ k f e h. absurd (omega arith) }

module _ (b l t : List ℕ) (k : ℕ) (w : told_well b l ≡ true) (a : AllNoted b l t k) where
  pub all_absent : span_of l k ≡ None → AllNoted b l t (k + 1)
  all_absent h =
      record { each = λ i f e g z. split i k (λ y. a.each i f e y z) (λ y. absurd (not-absent i f e y g z)) }
    where
      not-absent : (i f e : ℕ) → k ≤ i → i < k + 1 → span_of l i ≡ Some (i, f, e) → ⊥
      not-absent i f e y g z =
          let x : i ≡ k = omega arith in
          let v : ◌≡◌ {A = Option (ℕ × ℕ × ℕ)} (Some (i, f, e)) None = sym z ∙ ap (span_of l) x ∙ h in
          let u : ◌≡◌ {A = ℕ} 0 1 = cc in
          omega arith

  pub all_next : (n f e : ℕ) (t' : List ℕ) → span_of l k ≡ Some (n, f, e) → NotesText b l (bytes_between b f e) k t t' → AllNoted b l t' (k + 1)
  all_next n f e t' h u =
      record { each = λ i x y g z. split i k (λ v. old i x y v z) (λ v. new i x y v g z) }
    where
      old : (i x y : ℕ) → i < k → span_of l i ≡ Some (i, x, y) → Noted b l t' i (bytes_between b x y) 0
      old i x y v z =
          let m : (i + 1) * 6554 ≤ k * 6554 = omega arith in
          noted_kept b l t t' i (bytes_between b x y) (k * 6554) 0 w (span_length b l i i x y w z) (omega arith) m u.kept (a.each i x y v z)

      both_ends : (x y : ℕ) → ◌≡◌ {A = Option (ℕ × ℕ × ℕ)} (Some (n, f, e)) (Some (k, x, y)) → (f ≡ x) × (e ≡ y)
      both_ends x y v = (same_from v, same_to v)

      new : (i x y : ℕ) → k ≤ i → i < k + 1 → span_of l i ≡ Some (i, x, y) → Noted b l t' i (bytes_between b x y) 0
      new i x y v g z =
          let p : i ≡ k = omega arith in
          let q : span_of l k ≡ Some (k, x, y) = subst (λ (j : ℕ). span_of l j ≡ Some (j, x, y)) p z in
          let r = both_ends x y (sym h ∙ q) in
          subst (λ (j : ℕ). Noted b l t' j (bytes_between b x y) 0) (sym p)
          (subst (λ (j : ℕ). Noted b l t' k (bytes_between b j y) 0) r.0
          (subst (λ (j : ℕ). Noted b l t' k (bytes_between b f j) 0) r.1 u.noted))

-- ---- the cases of a note

module _ (l o : List ℕ) (c : ℕ) where
  pub back_end : 8 ≤ c / 281474976710656 → Stops (c / 65536 % 65536) (c % 65536) ≡ event_back l o c
  unfolding event_back
  back_end h = rw (le-leb 8 (c / 281474976710656) h)

  module _ (h : c / 281474976710656 < 8) where
    by_span : (x : Option (ℕ × ℕ × ℕ)) → span_of l (c / 281474976710656) ≡ x → open_by o c x ≡ event_back l o c
    unfolding event_back
    by_span x e = rw (lt-leb 8 (c / 281474976710656) h, e)

    pub back_absent : span_of l (c / 281474976710656) ≡ None → Stops 28 (c / 65536 % 65536) ≡ event_back l o c
    back_absent e = by_span None e

    pub back_open : (n f t m : ℕ) → span_of l (c / 281474976710656) ≡ Some (n, f, t) → m ≡ get_or o n 0 → m ≡ 1 → Stops 27 (c / 65536 % 65536) ≡ event_back l o c
    back_open n f t m e g k =
        sym (ap (λ (x : Bool). pick x (Stops 27 (c / 65536 % 65536)) (Includes (record { number = n; from = f; to = t; hash = c / 65536 % 65536; start = c / 4294967296 % 65536; after = c % 65536 }))) (eq-eqb (get_or o n 0) 1 (sym g ∙ k))) ∙ by_span (Some (n, f, t)) e

    pub back_include : (n f t m : ℕ) → span_of l (c / 281474976710656) ≡ Some (n, f, t) → m ≡ get_or o n 0 → (m ≡ 1 → ⊥) →
        Includes (record { number = n; from = f; to = t; hash = c / 65536 % 65536; start = c / 4294967296 % 65536; after = c % 65536 }) ≡ event_back l o c
    back_include n f t m e g k =
        sym (ap (λ (x : Bool). pick x (Stops 27 (c / 65536 % 65536)) (Includes (record { number = n; from = f; to = t; hash = c / 65536 % 65536; start = c / 4294967296 % 65536; after = c % 65536 }))) (ne_eqb (get_or o n 0) 1 (λ y. k (g ∙ y)))) ∙ by_span (Some (n, f, t)) e

pub at_note : (l o t : List ℕ) (c k p : ℕ) (r : Event) → c ≡ cell_for k p → r ≡ event_back l o (get_or t c 0) → r ≡ event_back l o (get_or t (cell_for k p) 0)
at_note l o t c k p r e f = f ∙ ap (λ (j : ℕ). event_back l o (get_or t j 0)) e

pub all_eight : (b l t : List ℕ) (n : ℕ) → n ≡ 8 → AllNoted b l t n → AllNoted b l t 8
all_eight b l t n e a = subst (AllNoted b l t) e a
