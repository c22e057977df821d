-- What is shown of a line: at most 72 of its bytes, those around a place, and three dots where some are cut.
-- Assumes nothing.
use Rattle.std.specs.Prelude.{ℕ, ◌+◌, ◌-◌, ◌≤◌, ◌<◌, min, max, ◌≡◌, List, ◌≢◌, length, ltb}
use Rattle.token.specs.Find.{pick, byte}
use Rattle.explaining.specs.declared.View.{View}
use Rattle.explaining.specs.Places.{line_start, line_end, shown_end}

-- of a line from a to e, with a place p: 36 bytes before the place, more where fewer than 36 follow it
unfoldable pub window_from : ℕ → ℕ → ℕ → ℕ
window_from a e p = max a (min (p - 36) (e - 72))

-- and at most 72 bytes from there
unfoldable pub window_to : ℕ → ℕ → ℕ → ℕ
window_to a e p = min e (window_from a e p + 72)

-- how many dots stand where bytes from a to b are cut
unfoldable pub dots_for : ℕ → ℕ → ℕ
dots_for a b = pick (ltb a b) 3 0

-- the view of a place in a line from a to e
unfoldable pub view_in : ℕ → ℕ → ℕ → View
view_in a e p =
    record
    { at = p; from = window_from a e p; to = window_to a e p; front = dots_for a (window_from a e p); behind = dots_for (window_to a e p) e }

-- the view of a place of a text
unfoldable pub view_of : List ℕ → ℕ → View
view_of s p = view_in (line_start s p) (shown_end s (line_end s p)) p

-- a view lies in a text
pub record Fits (s : List ℕ) (v : View) : Type 0 where
  pub ordered : v.from ≤ v.to
  pub inside : v.to ≤ length s
  pub before : v.from ≤ v.at
  pub placed : v.at ≤ length s
  pub near : v.at ≤ v.from + 73
  pub most : v.to ≤ v.from + 72
  pub front : v.front ≤ 3
  pub behind : v.behind ≤ 3

-- from b to c is a window on the line from a to e, around the place p
pub record IsWindow (a e p b c : ℕ) : Type 0 where
  pub starts : a ≤ b
  pub ends : c ≤ e
  pub before : b ≤ p
  pub behind : p ≤ c
  pub most : c ≤ b + 72
  -- where the line is longer, 72 bytes are shown; else all of it
  pub full : a + 72 ≤ e → c ≡ b + 72
  pub whole : e ≤ a + 72 → (a ≡ b) × (c ≡ e)
  -- where bytes are cut, 36 are shown between there and the place
  pub near_before : a < b → b + 36 ≤ p
  pub near_behind : c < e → p + 36 ≤ c

-- THE STATEMENT, which proofs/Marks has (`view_is_window`): the view of a place that is not at an LF is a window on its line around it.
abbrev pub ViewsAreWindows : Type 0
ViewsAreWindows =
    (s : List ℕ) (p : ℕ) → p ≤ length s → byte s p ≢ 10 → IsWindow (line_start s p) (shown_end s (line_end s p)) p (view_of s p).from (view_of s p).to
