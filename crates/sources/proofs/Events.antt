-- The laws of what comes next in a text. Assumes nothing.
use Prim.Native.Nat.{ℕ, suc, ◌+◌, ◌-◌, ◌*◌, ◌≤◌, ◌<◌}
use mathlib.Core.List.{List, [], ◌∷◌}
use mathlib.Core.Bool.{true}
use mathlib.Core.Path.{◌≡◌, subst}
use native.Mathlib.Omega.{arith}
use lib.ListN.{length, get_or}
use lib.Dec.{leb, eqb}
use borrow.Author.Tests.{leb-true, ne_eqb}
use Rattle.token.specs.Words.{same}
use Rattle.token.specs.Tokens.{bytes_between}
use Rattle.token.proofs.Find.{by_test}
use Rattle.sources.specs.Lines.{stop_at}
use Rattle.sources.specs.Texts.{fitting, told_well, find_from, find_name, include_by, include_of, event_by, event_at}
use Rattle.sources.specs.declared.Line.{Line}
use Rattle.sources.specs.declared.Stop.{Stop}
use Rattle.sources.specs.declared.Stop.TheVariants.{At, Line as AtLine}
use Rattle.std.specs.Prelude.{Option, Some, None}
use Rattle.sources.specs.declared.Include.{Include}
use Rattle.sources.specs.declared.Event.{Event}
use Rattle.sources.specs.declared.Event.TheVariants.{Stop as Stops, Include as Includes}
use Rattle.sources.proofs.Tellings.{four, told}
use Rattle.sources.proofs.Stops.{LineFits, StopOk, stop_ok}

module _ (b l s o : List ℕ) (i : Line) where
  pub include_open : (n f t m : ℕ) → find_name b l (bytes_between s i.from i.to) ≡ Some (n, f, t) → m ≡ get_or o n 0 → m ≡ 1 → Stops 27 i.hash ≡ include_of b l s o i
  unfolding include_of
  include_open n f t m e g h = rw (e, ← g, h)

  pub include_is : (n f t m : ℕ) → find_name b l (bytes_between s i.from i.to) ≡ Some (n, f, t) → m ≡ get_or o n 0 → (m ≡ 1 → ⊥) →
      Includes (record { number = n; from = f; to = t; hash = i.hash; start = i.start; after = i.after }) ≡ include_of b l s o i
  unfolding include_of
  include_is n f t m e g h = rw (e, ← g, ne_eqb m 1 h)

  pub include_absent : find_name b l (bytes_between s i.from i.to) ≡ None → Stops 28 i.hash ≡ include_of b l s o i
  unfolding include_of
  include_absent e = rw e

module _ (b l s o : List ℕ) (p : ℕ) where
  pub event_stop : (n q : ℕ) → stop_at s p ≡ At n q → Stops n q ≡ event_at b l s o p
  unfolding event_at
  event_stop n q e = rw e

  pub event_line : (i : Line) → stop_at s p ≡ AtLine i → include_of b l s o i ≡ event_at b l s o p
  unfolding event_at
  event_line i e = rw e

-- ---- what is found lies inside

pub record IncludeFits (b s : List ℕ) (p : ℕ) (i : Include) : Type 0 where
  pub first : p ≤ i.start
  pub hash : i.start ≤ i.hash
  pub after : i.hash + 10 ≤ i.after
  pub last : i.after ≤ length s
  pub low : i.from ≤ i.to
  pub high : i.to ≤ length b
  pub number : i.number < 8

abbrev pub EventOk : List ℕ → List ℕ → ℕ → Event → Type 0
EventOk b s p (Stops n q) = (p ≤ q) × (q ≤ length s)
EventOk b s p (Includes i) = IncludeFits b s p i

abbrev HitOk : List ℕ → ℕ → Option (ℕ × ℕ × ℕ) → Type 0
HitOk b m (Some (n, f, t)) = (f ≤ t) × (t ≤ length b) × (2 * n + 2 ≤ m)
HitOk b m None = Unit {0}

hit_ok : (b : List ℕ) (k a : ℕ) (l w : List ℕ) → a ≤ length b → fitting b a l ≡ true → HitOk b (2 * k + length l) (find_from b k a l w)
unfolding find_from fitting
hit_ok b k a [] w h e = tt
hit_ok b k a (n ∷ []) w h e = tt
hit_ok b k a (n ∷ t ∷ l) w h e =
    let f = four (leb n (length b - a)) (leb t (length b - (a + n))) (leb t 65535) (fitting b (a + n + t) l) e in
    let x = leb-true n (length b - a) f.first in
    let y = leb-true t (length b - (a + n)) f.second in
    let z : 2 * suc k + length l ≡ 2 * k + suc (suc (length l)) = omega arith in
    by_test (HitOk b (2 * k + suc (suc (length l)))) (same (bytes_between b a (a + n)) w) (Some (k, a + n, a + n + t)) (find_from b (suc k) (a + n + t) l w)
    (λ _. (omega arith, omega arith, omega arith))
    (λ _. subst (λ (m : ℕ). HitOk b m (find_from b (suc k) (a + n + t) l w)) z (hit_ok b (suc k) (a + n + t) l w (omega arith) f.fourth))

find_ok : (b l w : List ℕ) → told_well b l ≡ true → HitOk b 16 (find_name b l w)
unfolding find_name
find_ok b l w e =
    let t = told b l e in
    widen b (2 * 0 + length l) 16 (find_from b 0 0 l w) (let x = t.few in omega arith) (hit_ok b 0 0 l w (omega arith) t.fit)
  where
    widen : (b : List ℕ) (m n : ℕ) (h : Option (ℕ × ℕ × ℕ)) → m ≤ n → HitOk b m h → HitOk b n h
    widen b m n (Some (k, f, t)) h o = (o.0, o.1, omega arith)
    widen b m n None h o = tt

include_ok : (b l s o : List ℕ) (p : ℕ) (i : Line) → LineFits s p i → (h : Option (ℕ × ℕ × ℕ)) → HitOk b 16 h → EventOk b s p (include_by o i h)
include_ok b l s o p i f (Some (n, x, y)) k =
    by_test (EventOk b s p) (eqb (get_or o n 0) 1) (Stops 27 i.hash) _
    (λ _. (omega arith, omega arith))
    (λ _. record { first = f.first; hash = f.hash; after = f.after; last = f.last; low = k.0; high = k.1; number = omega arith })
include_ok b l s o p i f None k = (omega arith, omega arith)

stop_event : (b l s o : List ℕ) (p : ℕ) → told_well b l ≡ true → (x : Stop) → StopOk s p x → EventOk b s p (event_by b l s o x)
unfolding include_of
stop_event b l s o p e (At n q) f = f
stop_event b l s o p e (AtLine i) f = include_ok b l s o p i f (find_name b l (bytes_between s i.from i.to)) (find_ok b l (bytes_between s i.from i.to) e)

pub event_ok : (b l s o : List ℕ) (p : ℕ) → told_well b l ≡ true → p ≤ length s → EventOk b s p (event_at b l s o p)
unfolding event_at
event_ok b l s o p e h = stop_event b l s o p e (stop_at s p) (stop_ok s p h)
