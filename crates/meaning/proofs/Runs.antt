-- Words in order between two places, cut as the definitions are. Assumes nothing.
use mathlib.Core.Path.{◌≡◌}
use mathlib.Core.List.{List, [], ◌∷◌, ◌++◌}
use Prim.Native.Nat.{ℕ, suc, ◌≤◌, ◌<◌}
use native.Mathlib.Omega.{arith}
use Rattle.meaning.specs.Syntax.{Word, Definition, Definitions, define, Values}
use Rattle.meaning.proofs.Order.{InOrder}
use Rattle.meaning.proofs.Sites.{bound_words, option_words, definition_words, value_words}

abbrev pub Run : ℕ → List Word → ℕ → Type 0
Run lo [] hi = lo ≤ hi
Run lo (t ∷ l) hi = (lo ≤ t.place) × Run (suc t.place) l hi

pub run_le : (l : List Word) {lo hi : ℕ} → Run lo l hi → lo ≤ hi
run_le [] r = r
run_le (t ∷ l) r = let a = r.0 in let b = run_le l r.1 in omega arith

pub record Cut (lo : ℕ) (a b : List Word) (hi : ℕ) : Type 0 where
  pub mid : ℕ
  pub front : Run lo a mid
  pub back : Run mid b hi

pub cut : (a b : List Word) (lo hi : ℕ) → Run lo (a ++ b) hi → Cut lo a b hi
cut [] b lo hi r = record { mid = lo; front = omega arith; back = r }
cut (t ∷ a) b lo hi r = let c = cut a b (suc t.place) hi r.1 in record { mid = c.mid; front = (r.0, c.front); back = c.back }

-- The place x is none of those from lo up to hi.
abbrev pub Out : ℕ → ℕ → ℕ → Type 0
Out x lo hi = (y : ℕ) → lo ≤ y → y < hi → y ≡ x → ⊥

-- A definition's words, cut: bounds up to a, values up to b, name and default up to c, and the rest.
pub record Cuts (lo : ℕ) (d : Definition) (vs : Values) (ds : Definitions) (hi : ℕ) : Type 0 where
  pub a : ℕ
  pub b : ℕ
  pub c : ℕ
  pub low : lo ≤ a
  pub bounds : Run (suc d.word.place) (bound_words d.bounds) a
  pub values : Run a (value_words vs) b
  pub named : Run b (d.name ∷ option_words d.default) c
  pub next : b ≤ c
  pub rest : Run c (definition_words ds) hi

pub cuts : (d : Definition) (vs : Values) (ds : Definitions) (lo hi : ℕ) → Run lo (definition_words (define d vs ds)) hi → Cuts lo d vs ds hi
unfolding definition_words
cuts d vs ds lo hi r =
    let w = d.name ∷ option_words d.default in
    let h = r.0 in
    let k = cut (bound_words d.bounds ++ (value_words vs ++ w)) (definition_words ds) (suc d.word.place) hi r.1 in
    let m = cut (bound_words d.bounds) (value_words vs ++ w) (suc d.word.place) k.mid k.front in
    let o = run_le (bound_words d.bounds) m.front in
    let n = cut (value_words vs) w m.mid k.mid m.back in
    record { a = m.mid; b = n.mid; c = k.mid; low = omega arith; bounds = m.front; values = n.front; named = n.back; next = run_le w n.back; rest = k.back }

-- Words in order lie before some place.
pub record Ends (lo : ℕ) (l : List Word) : Type 0 where
  pub hi : ℕ
  pub run : Run lo l hi

pub ends : (l : List Word) (lo : ℕ) → InOrder lo l → Ends lo l
ends [] lo o = record { hi = lo; run = omega arith }
ends (t ∷ l) lo o = let e = ends l (suc t.place) o.1 in record { hi = e.hi; run = (o.0, e.run) }
