-- The range of an integer attribute as it stands in the text: from its `[` on, number by number. Assumes nothing.
use Rattle.std.specs.Prelude.{◌≡◌, List, [], ◌∷◌, ℕ, ◌<◌}
use Rattle.meaning.specs.Syntax.{Word, Bounds, no_bounds, from_to, one_of}
use Rattle.token.specs.Tokens.{step_at}
use Rattle.meaning.specs.Actions.{float_of_step}
use Rattle.scopes.specs.Items.{num, item_at}

-- The number w is what is found at p, and q is the place after it.
pub record NumberAt (s : List ℕ) (p : ℕ) (w : Word) (q : ℕ) : Type 0 where
  pub number : num (item_at s p).number ≡ w.number
  pub place : (item_at s p).at ≡ w.place
  pub long : w.place < q
  pub next : (item_at s p).next ≡ q

-- The sign b is what is found at p, and q is the place after it.
pub record SignAt (s : List ℕ) (p b q : ℕ) : Type 0 where
  pub sign : (item_at s p).sign ≡ b
  pub next : (item_at s p).next ≡ q

-- From p on: numbers, before each of them a comma, and then no comma.
pub data Listed (s : List ℕ) : ℕ → List Word → Type 0 where
  listed_none : {p : ℕ} → ((item_at s p).sign ≡ 44 → ⊥) → Listed s p []
  listed_more : {p q r : ℕ} {w : Word} {ws : List Word} → SignAt s p 44 q → NumberAt s q w r → Listed s r ws → Listed s p (w ∷ ws)

-- The bounds of the range whose `[` stands at p; 0 for no range.
pub data RangeAt (s : List ℕ) : ℕ → Bounds → Type 0 where
  range_none : {p : ℕ} → p ≡ 0 → RangeAt s p no_bounds
  range_two : {p q r t u : ℕ} {a b : Word} → (p ≡ 0 → ⊥) → SignAt s p 91 q → NumberAt s q a r → SignAt s r 46 t → NumberAt s t b u → RangeAt s p (from_to a b)
  range_list : {p q r : ℕ} {a : Word} {ws : List Word} → (p ≡ 0 → ⊥) → SignAt s p 91 q → NumberAt s q a r → ((item_at s r).sign ≡ 46 → ⊥) → Listed s r ws
      → RangeAt s p (one_of (a ∷ ws))

-- The float w is what is found at p, and q is the place after it.
pub record FloatAt (s : List ℕ) (p : ℕ) (w : Word) (q : ℕ) : Type 0 where
  pub float : float_of_step (step_at s p) ≡ w.float
  pub place : (item_at s p).at ≡ w.place
  pub next : (item_at s p).next ≡ q

-- The bounds of the range of floats whose `[` stands at p; 0 for no range.
pub data FloatsAt (s : List ℕ) : ℕ → Bounds → Type 0 where
  floats_none : {p : ℕ} → p ≡ 0 → FloatsAt s p no_bounds
  floats_two : {p q r t u : ℕ} {a b : Word} → (p ≡ 0 → ⊥) → SignAt s p 91 q → FloatAt s q a r → SignAt s r 46 t → FloatAt s t b u → FloatsAt s p (from_to a b)
