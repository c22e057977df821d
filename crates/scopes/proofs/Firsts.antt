-- Which fault of a list answers, by what the list has: two lists of which each has a fault not behind any of the other's answer alike.
-- Assumes nothing.
use mathlib.Core.Path.{◌≡◌, refl, sym, ◌∙◌, ap, subst}
use mathlib.Core.List.{List, [], ◌∷◌, ◌++◌, append_assoc, append-nil}
use mathlib.Core.Bool.{Bool, true, false, false≢true}
use mathlib.Core.Option.{Option, none, some}
use mathlib.Core.Logic.{◌⊎◌, inl, inr, ⊎_elim}
use Prim.Native.Nat.{ℕ, ◌<◌}
use native.Mathlib.Omega.{arith}
use lib.ListN.{length}
use borrow.Author.Tests.{lt-ltb, le-ltb}
use Rattle.meaning.proofs.Numbered.{Numbered, no_fault, a_fault}
use Rattle.std.specs.Prelude.{Some, None, is_none}
use Rattle.token.specs.Find.{pick}
use Rattle.rows.specs.declared.Fault.{Fault as Code}
use Rattle.rows.specs.Order as order
use Rattle.rows.proofs.Orders as orders
use Rattle.meaning.specs.Syntax.{Word}
use Rattle.meaning.specs.Faults.{Fault, faults_if, ahead, sooner, first}
use Rattle.meaning.proofs.Sooner.{Le, left_of, not_above, Lt, left, below, ahead_le, not_ahead, first_append, le_trans, le_same}
use Rattle.scopes.specs.Promises.{fault_of}
use Rattle.scopes.specs.Listing.{each}

-- Membership -------------------------------------------------------------------------------------------------------------------------------

pub data Has (g : Fault) : List Fault → Type 0 where
  here : {h : Fault} {l : List Fault} → h ≡ g → Has g (h ∷ l)
  there : {h : Fault} {l : List Fault} → Has g l → Has g (h ∷ l)

has_some : {g : Fault} {l : List Fault} → Has g l → length l ≡ 0 → ⊥
has_some (here e) z = omega arith
has_some (there m) z = omega arith

pub has_none : {g : Fault} → Has g [] → ⊥
has_none m = has_some m refl

pub has_left : {g : Fault} (a b : List Fault) → Has g a → Has g (a ++ b)
has_left (f ∷ a) b (here e) = here e
has_left (f ∷ a) b (there m) = there (has_left a b m)
has_left {g = g} [] b x' = elim x' [ ]

pub has_right : {g : Fault} (a b : List Fault) → Has g b → Has g (a ++ b)
has_right [] b m = m
has_right (f ∷ a) b m = there (has_right a b m)

pub has_split : {g : Fault} (a b : List Fault) → Has g (a ++ b) → Has g a ⊎ Has g b
has_split [] b m = inr m
has_split (f ∷ a) b (here e) = inl (here e)
has_split {g} (f ∷ a) b (there m) = ⊎_elim (λ n. inl (there n)) (λ n. inr n) (has_split a b m)

pub in_if : {g : Fault} (b : Bool) (t : Word) (n : ℕ) → Has g (faults_if b t n) → (b ≡ true) × (record { place = t.place; number = n } ≡ g)
unfolding faults_if
in_if true t n (here e) = (refl, e)
in_if true t n (there m) = absurd (has_none m)
in_if false t n m = absurd (has_none m)

pub if_in : (b : Bool) (t : Word) (n : ℕ) → b ≡ true → Has (record { place = t.place; number = n }) (faults_if b t n)
unfolding faults_if
if_in true t n e = here refl
if_in false t n e = absurd (false≢true e)

-- The first of all ---------------------------------------------------------------------------------------------------------------------------

pub le_refl : (a : Fault) → Le a a
le_refl a = not_above refl (omega arith)

lt_le : {a b : Fault} → Lt a b → Le a b
lt_le (left h) = left_of h
lt_le (below e h) = not_above e (omega arith)

data Least (l : List Fault) : Option Fault → Type 0 where
  no_least : length l ≡ 0 → Least l none
  least : {a : Fault} → Has a l → ((g : Fault) → Has g l → Le a g) → Least l (some a)

head_least : (f : Fault) (fs : List Fault) → ((g : Fault) → Has g fs → Le f g) → (g : Fault) → Has g (f ∷ fs) → Le f g
head_least f fs k g (here e) = subst (Le f) e (le_refl f)
head_least f fs k g (there m) = k g m

tail_least : (a f : Fault) (fs : List Fault) → Le a f → ((g : Fault) → Has g fs → Le a g) → (g : Fault) → Has g (f ∷ fs) → Le a g
tail_least a f fs h k g (here e) = subst (Le a) e h
tail_least a f fs h k g (there m) = k g m

least_pick : (f a : Fault) (fs : List Fault) (b : Bool) → ahead f a ≡ b → Has a fs → ((g : Fault) → Has g fs → Le a g) → Least (f ∷ fs) (some (pick b f a))
least_pick f a fs true e h k = least (here refl) (head_least f fs (λ g m. le_trans (ahead_le f a e) (k g m)))
least_pick f a fs false e h k = least (there h) (tail_least a f fs (lt_le (not_ahead f a e)) k)

first_more : (f : Fault) (fs : List Fault) (o : Option Fault) → Least fs o → Least (f ∷ fs) (sooner (some f) o)
unfolding sooner
first_more f fs none (no_least e) = least (here refl) (head_least f fs (λ g m. absurd (has_some m e)))
first_more f fs (some a) (least h k) = least_pick f a fs (ahead f a) refl h k

first_least : (l : List Fault) → Least l (first l)
unfolding first
first_least [] = no_least refl
first_least (f ∷ fs) = first_more f fs (first fs) (first_least fs)

-- Some fault of m is not behind g.
pub record Covered (g : Fault) (m : List Fault) : Type 0 where
  pub cover : Fault
  pub has : Has cover m
  pub le : Le cover g

pub covered : {g : Fault} {m : List Fault} → Has g m → Covered g m
covered {g} h = record { cover = g; has = h; le = le_refl g }

pub covered_by : {g : Fault} {m : List Fault} (h : Fault) → Has h m → Le h g → Covered g m
covered_by h i l = record { cover = h; has = i; le = l }

same_least : (l m : List Fault) → ((g : Fault) → Has g m → Covered g l) → ((g : Fault) → Has g l → Covered g m) → (o r : Option Fault) → Least l o → Least m r → o ≡ r
same_least l m p q none none x y = refl
same_least l m p q none (some b) (no_least e) (least h k) = absurd (has_some (p b h).has e)
same_least l m p q (some a) none (least h k) (no_least e) = absurd (has_some (q a h).has e)
same_least l m p q (some a) (some b) (least h k) (least i j) =
    let c = p b i in
    let d = q a h in
    ap some (le_same a b (le_trans (k c.cover c.has) c.le) (le_trans (j d.cover d.has) d.le))

pub first_same : (l m : List Fault) → ((g : Fault) → Has g m → Covered g l) → ((g : Fault) → Has g l → Covered g m) → first l ≡ first m
first_same l m p q = same_least l m p q (first l) (first m) (first_least l) (first_least m)

-- Faults as structs --------------------------------------------------------------------------------------------------------------------------

-- No fault has the number 0.
abbrev pub Real : List Fault → Type 0
Real l = (g : Fault) → Has g l → 0 < g.number

pub real_none : Real []
real_none g m = absurd (has_none m)

pub real_append : (a b : List Fault) → Real a → Real b → Real (a ++ b)
real_append a b p q g m = ⊎_elim (λ n. p g n) (λ n. q g n) (has_split a b m)

pub real_if : (b : Bool) (t : Word) (n : ℕ) → 0 < n → Real (faults_if b t n)
real_if b t n h g m = let e = (in_if b t n m).1 in let k : n ≡ g.number = ap (λ (x : Fault). x.number) e in omega (arith, k)

-- Those of the stages have none.
pub real : {l : List Fault} → Numbered l → Real l
real no_fault g m = absurd (has_none m)
real (a_fault h p) g (here e) = let k = ap (λ (x : Fault). x.number) e in omega (arith, h, k)
real (a_fault h p) g (there m) = real p g m

abbrev Positive : Option Fault → Type 0
Positive none = Unit {0}
Positive (some a) = 0 < a.number

by_least : (l : List Fault) (o : Option Fault) → Least l o → Real l → Positive o
by_least l none x r = tt
by_least l (some a) (least h k) r = r a h

unfoldable code : Fault → Code
code a = record { number = a.number; place = a.place }

-- Which of two structs answers is which of the two faults does.
before_le : (a b : Fault) → 0 < a.number → 0 < b.number → Le a b → order.before (code b) (code a) ≡ false
unfolding code
before_le a b x y (left_of h) = orders.before_apart (code b) (code a) (λ e. omega arith) (λ e. omega arith) (λ e. omega arith) ∙ le-ltb b.place a.place (omega arith)
before_le a b x y (not_above e h) = orders.before_here (code b) (code a) (λ e. omega arith) (λ e. omega arith) (sym e) ∙ le-ltb b.number a.number h

before_lt : (a b : Fault) → 0 < a.number → 0 < b.number → Lt b a → order.before (code b) (code a) ≡ true
unfolding code
before_lt a b x y (left h) = orders.before_apart (code b) (code a) (λ e. omega arith) (λ e. omega arith) (λ e. omega arith) ∙ lt-ltb b.place a.place h
before_lt a b x y (below e h) = orders.before_here (code b) (code a) (λ e. omega arith) (λ e. omega arith) e ∙ lt-ltb b.number a.number h

pick_code : (a b : Fault) → 0 < a.number → 0 < b.number → (t : Bool) → ahead a b ≡ t → fault_of (some (pick t a b)) ≡ order.sooner (Some (code a)) (Some (code b))
unfolding fault_of code
pick_code a b x y true e = sym (orders.sooner_first (code a) (code b) (before_le a b x y (ahead_le a b e)))
pick_code a b x y false e = sym (orders.sooner_second (code a) (code b) (before_lt a b x y (not_ahead a b e)))

join_options : (o r : Option Fault) → Positive o → Positive r → fault_of (sooner o r) ≡ order.sooner (fault_of o) (fault_of r)
unfolding sooner fault_of code
join_options none r p q = sym (orders.none_sooner (fault_of r))
join_options (some a) none p q = sym (orders.sooner_none (Some (code a)))
join_options (some a) (some b) p q = pick_code a b p q (ahead a b) refl

-- The struct of two lists is the sooner of their structs.
pub fault_append : (a b : List Fault) → Real a → Real b → fault_of (first (a ++ b)) ≡ order.sooner (fault_of (first a)) (fault_of (first b))
fault_append a b p q = ap fault_of (first_append a b) ∙ join_options (first a) (first b) (by_least a (first a) (first_least a) p) (by_least b (first b) (first_least b) q)

pub fault_one : (b : Bool) (t : Word) (n : ℕ) → fault_of (first (faults_if b t n)) ≡ order.fault_if b n t.place
unfolding faults_if first sooner fault_of order.fault_if
fault_one true t n = refl
fault_one false t n = refl

pub fault_at : (b : Bool) (t : Word) (n p : ℕ) → t.place ≡ p → order.fault_if b n p ≡ fault_of (first (faults_if b t n))
fault_at b t n p e = ap (order.fault_if b n) (sym e) ∙ sym (fault_one b t n)

-- No struct, no fault.
pub none_there : (o : Option Fault) → fault_of o ≡ None → o ≡ none
unfolding fault_of
none_there none e = refl
none_there (some x) e = absurd (false≢true (ap is_none e))

-- Rows ---------------------------------------------------------------------------------------------------------------------------------------

module _ {A : Type 0} (F : List A → A → List Fault) where
  pub each_append : (p a b : List A) → each F p (a ++ b) ≡ each F p a ++ each F (p ++ a) b
  unfolding each
  each_append p [] b = ap (λ (q : List A). each F q b) (sym (append-nil p))
  each_append p (x ∷ a) b =
      ap (λ (l : List Fault). F p x ++ l) (each_append (p ++ (x ∷ [])) a b ∙ ap (λ (q : List A). each F (p ++ (x ∷ [])) a ++ each F q b) (append_assoc p (x ∷ []) a))
      ∙ sym (append_assoc (F p x) (each F (p ++ (x ∷ [])) a) (each F (p ++ (x ∷ a)) b))

  pub each_snoc : (a : List A) (x : A) → each F [] (a ++ (x ∷ [])) ≡ each F [] a ++ F a x
  unfolding each
  each_snoc a x = each_append [] a (x ∷ []) ∙ ap (λ (l : List Fault). each F [] a ++ l) (append-nil (F a x))

  pub real_each : ((p : List A) (x : A) → Real (F p x)) → (p l : List A) → Real (each F p l)
  unfolding each
  real_each r p [] = real_none
  real_each r p (x ∷ l) = real_append (F p x) (each F (p ++ (x ∷ [])) l) (r p x) (real_each r (p ++ (x ∷ [])) l)

  -- The row that a fault is found at.
  pub record From (l : List A) (g : Fault) : Type 0 where
    pub front : List A
    pub row : A
    pub rest : List A
    pub whole : l ≡ front ++ (row ∷ rest)
    pub has : Has g (F front row)

  from_each : {g : Fault} (l p q : List A) → p ++ q ≡ l → Has g (each F p q) → From l g
  unfolding each
  from_each l p [] e m = absurd (has_none m)
  from_each l p (x ∷ q) e m =
      ⊎_elim (λ n. record { front = p; row = x; rest = q; whole = sym e; has = n }) (λ n. from_each l (p ++ (x ∷ [])) q (append_assoc p (x ∷ []) q ∙ e) n)
      (has_split (F p x) (each F (p ++ (x ∷ [])) q) m)

  pub found_at : {g : Fault} (l : List A) → Has g (each F [] l) → From l g
  found_at l m = from_each l [] l refl m

  pub at_row : {g : Fault} (a : List A) (x : A) (b : List A) → Has g (F a x) → Has g (each F [] (a ++ (x ∷ b)))
  unfolding each
  at_row {g} a x b m =
      subst (Has g) (sym (each_append [] a (x ∷ b))) (has_right (each F [] a) (each F a (x ∷ b)) (has_left (F a x) (each F (a ++ (x ∷ [])) b) m))
