-- The expanded text in lent memory. Assumes nothing.
use Rattle.std.specs.Prelude.{◌≡◌, List, ℕ, ◌≤◌, length, take, eqb, Result, Ok}
use Rattle.token.specs.Find.{pick}
use Rattle.sources.specs.Texts.{told_well}
use Rattle.sources.specs.Expanding.{expanded, expansion_of}
use Rattle.sources.specs.Promises.{filled}
use Rattle.placing.specs.Placed.{place_in, is_at_start}
use Rattle.lent_texts.specs.Answered.{place_of}
use Rattle.lent_texts.specs.declared.Expanded.{Expanded}
use Rattle.rows.specs.Refusing.{refusing}
use Rattle.rows.specs.declared.Fault.{Fault}

-- A refusal of an expanded text with these origins: 3 takes the number of the fault, and the place is that in the lent texts.
unfoldable pub refusal_at : List ℕ → ℕ → ℕ → ℕ → ℕ → Fault
refusal_at g n m k p = record { number = k; place = pick (is_at_start k) p (place_in g n m p) }

unfoldable pub refusal_in : List ℕ → Expanded → ℕ → ℕ → Fault
refusal_in g e k p = refusal_at g e.length e.main (pick (eqb k 3) e.fault k) p

-- Room for 65,535 bytes of the expanded text, and for their origins.
pub record Rooms (x g : List ℕ) : Type 0 where
  pub bytes : 65535 ≤ length x
  pub origins : 65535 ≤ length g

-- What they hold afterwards, x' and g': what is lent past them stays.
pub record Filled (b l x g x' g' : List ℕ) : Type 0 where
  pub bytes : x' ≡ filled (told_well b l) 65535 x (expanded b l).bytes
  pub origins : g' ≡ filled (told_well b l) 65535 g (expanded b l).origins

-- x begins with the expanded text e of b with lengths l, and g with its origins; nothing lent gives 30.
pub record Holds (b l x g : List ℕ) (e : Expanded) : Type 0 where
  pub within : (expansion_of b l).number ≡ 30 → ⊥
  pub fault : e.fault ≡ (expanded b l).number
  pub inside : e.length ≤ length x
  pub bytes : take e.length x ≡ (expanded b l).bytes
  pub place : (p : ℕ) → place_in g e.length e.main p ≡ place_of b l p

-- What they are expanded to: the expanded text, or the refusal at once.
abbrev pub Lent : Type 0
Lent = Result Expanded Fault

-- For the texts of the buffer b with lengths l; x and g are lent for the expanded text and its origins, x' and g' is what they hold afterwards.
pub data ExpandsTexts (b l x g x' g' : List ℕ) : Lent → Type 0 where
  -- 1, "lent tables too short". "Refusal 1 changes nothing."
  short_rooms : (Rooms x g → ⊥) → x' ≡ x → g' ≡ g → ExpandsTexts b l x g x' g' (refusing 1 0)
  -- 30
  too_long : Rooms x g → (expansion_of b l).number ≡ 30 → Filled b l x g x' g' → ExpandsTexts b l x g x' g' (refusing 30 0)
  -- Else the expanded text.
  expands : {e : Expanded} → Rooms x g → Holds b l x' g' e → Filled b l x g x' g' → ExpandsTexts b l x g x' g' (Ok e)
