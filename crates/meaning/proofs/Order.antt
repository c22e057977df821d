-- Faults in the order of their places: of such a list the first is the answer. Assumes nothing.
use mathlib.Core.Path.{◌≡◌, refl, ◌∙◌, ap}
use mathlib.Core.List.{List, [], ◌∷◌, ◌++◌}
use mathlib.Core.Bool.{Bool, true, false}
use mathlib.Core.Option.{Option, none, some}
use Prim.Native.Nat.{ℕ, suc, ◌≤◌, ◌<◌}
use native.Mathlib.Omega.{arith}
use lib.Dec.{ltb}
use borrow.Author.Tests.{lt-ltb, le-leb, eq-eqb}
use Rattle.token.specs.Find.{pick}
use Rattle.token.proofs.Bytes.{either_true}
use Rattle.grammar.specs.Grammar.{Token}
use Rattle.meaning.specs.Faults.{Fault, faults_if, ahead, sooner, first}
use Rattle.meaning.specs.Syntax.{Word}

-- Tokens in order: each begins behind the place where the one before it begins, and the first not before p.
abbrev pub Ordered : ℕ → List Token → Type 0
Ordered p [] = Unit {0}
Ordered p (t ∷ l) = (p ≤ t.place) × Ordered (suc t.place) l

-- Words in order.
abbrev pub InOrder : ℕ → List Word → Type 0
InOrder p [] = Unit {0}
InOrder p (t ∷ l) = (p ≤ t.place) × InOrder (suc t.place) l

-- The list l without some of its words.
pub data Sub : List Word → List Word → Type 0 where
  sub_nil : Sub [] []
  keep : {t : Word} {l m : List Word} → Sub l m → Sub (t ∷ l) (t ∷ m)
  drop : {t : Word} {l m : List Word} → Sub l m → Sub l (t ∷ m)

pub sub_none : (m : List Word) → Sub [] m
sub_none [] = sub_nil
sub_none (t ∷ m) = drop (sub_none m)

pub sub_append : {l m l' m' : List Word} → Sub l m → Sub l' m' → Sub (l ++ l') (m ++ m')
sub_append sub_nil q = q
sub_append (keep p) q = keep (sub_append p q)
sub_append (drop p) q = drop (sub_append p q)

pub sub_behind : (k : List Word) {l m : List Word} → Sub l m → Sub l (k ++ m)
sub_behind [] p = p
sub_behind (t ∷ k) p = drop (sub_behind k p)

pub sub_front : {l m : List Word} → Sub l m → (k : List Word) → Sub l (m ++ k)
sub_front sub_nil k = sub_none k
sub_front (keep p) k = keep (sub_front p k)
sub_front (drop p) k = drop (sub_front p k)

pub sub_all : (l : List Word) → Sub l l
sub_all [] = sub_nil
sub_all (t ∷ l) = keep (sub_all l)

pub ordered_from : (l : List Word) {p q : ℕ} → p ≤ q → InOrder q l → InOrder p l
ordered_from [] h o = tt
ordered_from (t ∷ l) h o = let i = o.0 in (omega arith, o.1)

pub ordered_sub : {l m : List Word} → Sub l m → (p : ℕ) → InOrder p m → InOrder p l
ordered_sub sub_nil p o = tt
ordered_sub (keep {t} s) p o = (o.0, ordered_sub s (suc t.place) o.1)
ordered_sub (drop {t} {l} s) p o = let i = o.0 in let h : p ≤ suc t.place = omega arith in ordered_from l h (ordered_sub s (suc t.place) o.1)

-- The faults are at the words, in their order, those at one word by rising numbers, and those at the first word are not below k.
pub data At : ℕ → List Word → List Fault → Type 0 where
  nowhere : At 0 [] []
  on : {k : ℕ} {t : Word} {l : List Word} {fs : List Fault} → At 0 l fs → At k (t ∷ l) fs
  at : {k n : ℕ} {t : Word} {l : List Word} {fs : List Fault} → k ≤ n → At n (t ∷ l) fs → At k (t ∷ l) (record { place = t.place; number = n } ∷ fs)

pub at_append : {k : ℕ} {l m : List Word} {fs gs : List Fault} → At k l fs → At 0 m gs → At k (l ++ m) (fs ++ gs)
at_append nowhere q = q
at_append (on p) q = on (at_append p q)
at_append (at h p) q = at h (at_append p q)

pub at_none : (l : List Word) → At 0 l []
at_none [] = nowhere
at_none (t ∷ l) = on (at_none l)

at_lower : {k n : ℕ} {t : Word} {l : List Word} {fs : List Fault} → k ≤ n → At n (t ∷ l) fs → At k (t ∷ l) fs
at_lower {k} h (on p) = on p
at_lower {k} h (at {n = m} i p) = at {k = k} {n = m} (omega arith) p

pub at_if : (b : Bool) {k : ℕ} (n : ℕ) {t : Word} {l : List Word} {fs : List Fault} → k ≤ n → At n (t ∷ l) fs → At k (t ∷ l) (faults_if b t n ++ fs)
unfolding faults_if
at_if true n h p = at h p
at_if false n h p = at_lower h p

-- One fault at most, at the first word.
pub at_only : (b : Bool) {k : ℕ} (n : ℕ) (t : Word) (l : List Word) → k ≤ n → At k (t ∷ l) (faults_if b t n)
unfolding faults_if
at_only true n t l h = at h (on (at_none l))
at_only false n t l h = on (at_none l)

pub at_more : {k : ℕ} {l : List Word} {fs : List Fault} → At k l fs → (m : List Word) → At k (l ++ m) fs
at_more nowhere m = at_none m
at_more (on p) m = on (at_more p m)
at_more (at h p) m = at h (at_more p m)

-- Each fault is ahead of the next.
abbrev pub Rises : List Fault → Type 0
Rises [] = Unit {0}
Rises (f ∷ []) = Unit {0}
Rises (f ∷ g ∷ fs) = (ahead f g ≡ true) × Rises (g ∷ fs)

unfoldable pub foremost : List Fault → Option Fault
foremost [] = none
foremost (f ∷ fs) = some f

-- Of a list in order the first fault answers.
pub rises_first : (fs : List Fault) → Rises fs → first fs ≡ foremost fs
unfolding first sooner foremost
rises_first [] r = refl
rises_first (f ∷ []) r = refl
rises_first (f ∷ g ∷ fs) r = ap (sooner (some f)) (rises_first (g ∷ fs) r.1) ∙ ap (λ b. some (pick b f g)) r.0

pub ahead_left : (f g : Fault) → f.place < g.place → ahead f g ≡ true
unfolding ahead
ahead_left f g h = rw (lt-ltb f.place g.place h)

pub ahead_same : (f g : Fault) → f.place ≡ g.place → f.number ≤ g.number → ahead f g ≡ true
unfolding ahead
ahead_same f g e h = rw (eq-eqb f.place g.place e, le-leb f.number g.number h) (either_true (ltb f.place g.place))

-- The fault f is before the words l, or at the first of them with a number not above k.
data Behind (f : Fault) : ℕ → List Word → Type 0 where
  earlier : {k : ℕ} {l : List Word} (p : ℕ) → f.place < p → InOrder p l → Behind f k l
  same : {k : ℕ} {t : Word} {l : List Word} → f.place ≡ t.place → f.number ≤ k → InOrder (suc t.place) l → Behind f k (t ∷ l)

rises_behind : (f : Fault) {k : ℕ} {l : List Word} {fs : List Fault} → At k l fs → Behind f k l → Rises (f ∷ fs)
rises_behind f nowhere b = tt
rises_behind f (on {t} p) (earlier q h o) = let i = o.0 in rises_behind f p (earlier (suc t.place) (omega arith) o.1)
rises_behind f (on {t} p) (same e h o) = rises_behind f p (earlier (suc t.place) (omega arith) o)
rises_behind f (at {n} {t} i p) (earlier q h o) =
    let j = o.0 in
    let g : Fault = record { place = t.place; number = n } in
    (ahead_left f g (omega arith), rises_behind g p (same refl (omega arith) o.1))
rises_behind f (at {n} {t} i p) (same e h o) =
    let g : Fault = record { place = t.place; number = n } in
    (ahead_same f g e (omega arith), rises_behind g p (same refl (omega arith) o))

pub at_rises : (p : ℕ) {k : ℕ} {l : List Word} {fs : List Fault} → At k l fs → InOrder p l → Rises fs
at_rises p nowhere o = tt
at_rises p (on {t} q) o = at_rises (suc t.place) q o.1
at_rises p (at {n} {t} i q) o = rises_behind (record { place = t.place; number = n }) q (same refl (omega arith) o.1)
