-- No two values of an object have the same path. Assumes nothing.
use mathlib.Core.Path.{◌≡◌, refl, sym, ◌∙◌, ap, ap₂}
use mathlib.Core.List.{List, [], ◌∷◌, ◌++◌}
use mathlib.Core.Bool.{Bool, true, false, false≢true}
use mathlib.Core.Option.{none}
use Prim.Native.Nat.{ℕ, suc, ◌+◌, ◌≤◌}
use native.Mathlib.Omega.{arith}
use Rattle.token.specs.Find.{bit, both}
use Rattle.token.specs.Words.{same}
use Rattle.token.proofs.Codes.{same_self}
use Rattle.meaning.specs.Syntax.{Word}
use Rattle.meaning.specs.Words.{alike}
use Rattle.meaning.specs.Places.{each}
use Rattle.meaning.specs.Resolving.{Taken, Resolved, end, resolved, how_many_values}
use Rattle.comparing.specs.Lists.{the_first}
use Rattle.comparing.specs.Contents.{Step, Path, same_step, same_path, Placed, how_often, step_to, below, placed}
use Rattle.comparing.proofs.Alikes.{both_true, step_keyed}
use Rattle.comparing.proofs.Matching.{Apart, none_append, first_none, none_first, not_true}

-- The first step of a path is to an entry that is behind those `before`.
pub data Begins (before : List Word) : Path → Type 0 where
  begins : (c : Step) (q : Path) → how_often c.name before ≤ c.position → Begins before (c ∷ q)

-- So it is for all of these.
pub data AllBegin (before : List Word) : List Placed → Type 0 where
  none_begin : AllBegin before []
  more_begin : {v : Placed} {vs : List Placed} → Begins before v.path → AllBegin before vs → AllBegin before (v ∷ vs)

append_begin : {before : List Word} {vs ws : List Placed} → AllBegin before vs → AllBegin before ws → AllBegin before (vs ++ ws)
append_begin none_begin b = b
append_begin (more_begin x a) b = more_begin x (append_begin a b)

each_begin : (before : List Word) (s : Step) (vs : List Placed) → how_often s.name before ≤ s.position → AllBegin before (each (below s) vs)
unfolding each below
each_begin before s [] h = none_begin
each_begin before s (v ∷ vs) h = more_begin (begins s v.path h) (each_begin before s vs h)

fewer : (a b c : ℕ) → a + b ≤ c → b ≤ c
fewer a b c h = omega arith

widen_begin : (t : Word) (before : List Word) (p : Path) → Begins (t ∷ before) p → Begins before p
unfolding how_often
widen_begin t before p (begins c q h) = begins c q (fewer (bit (alike c.name t)) (how_often c.name before) c.position h)

widen : (t : Word) (before : List Word) (vs : List Placed) → AllBegin (t ∷ before) vs → AllBegin before vs
widen t before vs none_begin = none_begin
widen t before vs (more_begin b a) = more_begin (widen_begin t before _ b) (widen t before _ a)

self : (n : ℕ) → n ≤ n
self n = omega arith

pub all_begin : (r : Resolved) (n : ℕ) (before : List Word) → AllBegin before (placed r n before)
unfolding placed step_to
all_begin end n before = none_begin
all_begin (resolved t us rest) n before =
    more_begin (begins (step_to t before) [] (self (how_often t.definition.name before)))
    (append_begin (each_begin before (step_to t before) (placed us (suc n) []) (self (how_often t.definition.name before)))
    (widen t.definition.name before (placed rest (suc n + how_many_values us) (t.definition.name ∷ before)) (all_begin rest (suc n + how_many_values us) (t.definition.name ∷ before))))

-- The step to t is no first step behind it.
too_many : (b h k n : ℕ) → b ≡ 1 → h ≡ k → k ≡ n → b + h ≤ n → ⊥
too_many b h k n p q r l = omega arith

pub often_same : (t u : Word) (l : List Word) → t.bytes ≡ u.bytes → how_often t l ≡ how_often u l
unfolding how_often alike
often_same t u [] e = refl
often_same t u (w ∷ l) e = ap₂ ◌+◌ (ap (λ (bs : List ℕ). bit (same bs w.bytes)) e) (often_same t u l e)

step_behind : (t : Taken) (before : List Word) (c : Step) → how_often c.name (t.definition.name ∷ before) ≤ c.position → same_step (step_to t before) c ≡ false
unfolding step_to how_often alike bit
step_behind t before c h = not_true (same_step (step_to t before) c) (λ e.
    let k = step_keyed.to_keys (step_to t before) c e in
    let names : t.definition.name.bytes ≡ c.name.bytes = ap (λ (z : List ℕ × (ℕ × ℕ)). z.0) k in
    let there : how_often t.definition.name before ≡ c.position = ap (λ (z : List ℕ × (ℕ × ℕ)). z.1.1) k in
    let one : bit (same c.name.bytes t.definition.name.bytes) ≡ 1 = ap bit (ap (same c.name.bytes) names ∙ same_self c.name.bytes) in
    let often : how_often c.name before ≡ how_often t.definition.name before = often_same c.name t.definition.name before (sym names) in
    too_many (bit (same c.name.bytes t.definition.name.bytes)) (how_often c.name before) (how_often t.definition.name before) c.position one often there h)

path_behind : (t : Taken) (before : List Word) (p q : Path) → Begins (t.definition.name ∷ before) q → same_path (step_to t before ∷ p) q ≡ false
unfolding same_path
path_behind t before p q (begins c r h) = ap (λ (b : Bool). both b (same_path p r)) (step_behind t before c h)

none_behind : (t : Taken) (before : List Word) (p : Path) (vs : List Placed) → AllBegin (t.definition.name ∷ before) vs → the_first (λ w. same_path (step_to t before ∷ p) w.path) vs ≡ none
unfolding the_first
none_behind t before p vs none_begin = refl
none_behind t before p (v ∷ vs) (more_begin b a) =
    first_none (same_path (step_to t before ∷ p) v.path) v (the_first (λ w. same_path (step_to t before ∷ p) w.path) vs) (path_behind t before p v.path b) (none_behind t before p vs a)

-- A value under a step is none of those that differ from it below.
below_other : (s : Step) (p : Path) (vs : List Placed) → the_first (λ w. same_path p w.path) vs ≡ none → the_first (λ w. same_path (s ∷ p) w.path) (each (below s) vs) ≡ none
unfolding the_first each below same_path
below_other s p [] e = refl
below_other s p (v ∷ vs) e =
    let n = none_first (same_path p v.path) v (the_first (λ w. same_path p w.path) vs) e in
    first_none (both (same_step s s) (same_path p v.path)) (below s v) (the_first (λ w. same_path (s ∷ p) w.path) (each (below s) vs))
    (not_true (both (same_step s s) (same_path p v.path)) (λ q. false≢true (sym n.0 ∙ (both_true (same_step s s) (same_path p v.path) q).1))) (below_other s p vs n.1)

-- The step itself is no path below it.
step_alone : (s : Step) (before : List Word) (vs : List Placed) → AllBegin before vs → the_first (λ w. same_path (s ∷ []) w.path) (each (below s) vs) ≡ none
unfolding the_first each below same_path
step_alone s before vs none_begin = refl
step_alone s before (v ∷ vs) (more_begin b a) =
    first_none (both (same_step s s) (same_path [] v.path)) (below s v) (the_first (λ w. same_path (s ∷ []) w.path) (each (below s) vs))
    (not_true (both (same_step s s) (same_path [] v.path)) (λ q. not_empty v.path b (both_true (same_step s s) (same_path [] v.path) q).1)) (step_alone s before vs a)
  where
    not_empty : (p : Path) → Begins before p → same_path [] p ≡ true → ⊥
    not_empty p (begins c q h) e = absurd (false≢true e)

-- Values below a step, and then others behind it.
apart_below : (t : Taken) (before : List Word) (vs ws : List Placed) → Apart (λ v w. same_path v.path w.path) vs → AllBegin (t.definition.name ∷ before) ws
    → Apart (λ v w. same_path v.path w.path) ws → Apart (λ v w. same_path v.path w.path) (each (below (step_to t before)) vs ++ ws)
unfolding each below
apart_below t before [] ws a b c = c
apart_below t before (v ∷ vs) ws a b c = (
  none_append (λ w. same_path (step_to t before ∷ v.path) w.path) (each (below (step_to t before)) vs) ws (below_other (step_to t before) v.path vs a.0) (none_behind t before v.path ws b),
  apart_below t before vs ws a.1 b c,
)

pub paths_apart : (r : Resolved) (n : ℕ) (before : List Word) → Apart (λ v w. same_path v.path w.path) (placed r n before)
unfolding placed
paths_apart end n before = tt
paths_apart (resolved t us rest) n before =
    let inner = placed us (suc n) [] in
    let behind = placed rest (suc n + how_many_values us) (t.definition.name ∷ before) in
    let later = all_begin rest (suc n + how_many_values us) (t.definition.name ∷ before) in (
      none_append (λ w. same_path (step_to t before ∷ []) w.path) (each (below (step_to t before)) inner) behind (step_alone (step_to t before) [] inner (all_begin us (suc n) [])) (none_behind t before [] behind later),
      apart_below t before inner behind (paths_apart us (suc n) []) later (paths_apart rest (suc n + how_many_values us) (t.definition.name ∷ before)),
    )
