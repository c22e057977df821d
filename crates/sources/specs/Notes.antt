-- What is noted of the lent texts, so that no inclusion reads its text again: for each place at which the expansion of a text goes on, its start and
-- the place after each include line, what comes next there. An include line has at least 10 bytes, so no two of these places are less than
-- 10 bytes apart, and 6,554 cells are enough for the 65,535 bytes of a text.
-- Assumes nothing.
use Rattle.std.specs.Prelude.{ℕ, ◌+◌, ◌*◌, ◌/◌, ◌%◌, ◌<◌, ◌≡◌, List, [], ◌∷◌, get_or, leb, eqb, Option, Some, None}
use Rattle.token.specs.Find.{pick}
use Rattle.token.specs.Tokens.{bytes_between}
use Rattle.sources.specs.Texts.{event_at}
use Rattle.sources.specs.Numbering.{span_of}
use Rattle.sources.specs.declared.Include.{Include}
use Rattle.sources.specs.declared.Event.{Event}
use Rattle.sources.specs.declared.Event.TheVariants.{Stop as Stops, Include as Includes}

-- the cell for place p of text k
unfoldable pub cell_for : ℕ → ℕ → ℕ
cell_for k p = k * 6554 + p / 10

-- four numbers in one, each of the last three below 65,536
unfoldable pub packed : ℕ → ℕ → ℕ → ℕ → ℕ
packed k a h e = ((k * 65536 + a) * 65536 + h) * 65536 + e

-- what comes next, in one number: an include line with its text's number, or 8 with the end or the fault
unfoldable pub note_of : Event → ℕ
note_of (Stops n q) = packed 8 0 n q
note_of (Includes i) = packed i.number i.start i.hash i.after

-- no text is open
abbrev pub none_open : List ℕ
none_open = 0 ∷ 0 ∷ 0 ∷ 0 ∷ 0 ∷ 0 ∷ 0 ∷ 0 ∷ []

-- what comes next by the note c of an include line, and the text of its number; o has 1 for each open text
abbrev pub open_by : List ℕ → ℕ → Option (ℕ × ℕ × ℕ) → Event
open_by o c (Some (n, f, t)) =
    pick (eqb (get_or o n 0) 1) (Stops 27 (c / 65536 % 65536))
    (Includes (record { number = n; from = f; to = t; hash = c / 65536 % 65536; start = c / 4294967296 % 65536; after = c % 65536 }))
open_by o c None = Stops 28 (c / 65536 % 65536)

-- what comes next by the note c
unfoldable pub event_back : List ℕ → List ℕ → ℕ → Event
event_back l o c =
    pick (leb 8 (c / 281474976710656)) (Stops (c / 65536 % 65536) (c % 65536)) (open_by o c (span_of l (c / 281474976710656)))

-- in the table t the text k, which is s, is noted from p on, through its end or its first fault
pub data Noted (b l t : List ℕ) (k : ℕ) (s : List ℕ) : ℕ → Type 0 where
  ends : (p n q : ℕ) → event_at b l s none_open p ≡ Stops n q → get_or t (cell_for k p) 0 ≡ note_of (Stops n q) → Noted b l t k s p
  goes : (p : ℕ) (i : Include) → event_at b l s none_open p ≡ Includes i → get_or t (cell_for k p) 0 ≡ note_of (Includes i) → Noted b l t k s i.after →
      Noted b l t k s p

-- each text whose number is below m is noted
pub record AllNoted (b l t : List ℕ) (m : ℕ) : Type 0 where
  pub each : (k f e : ℕ) → k < m → span_of l k ≡ Some (k, f, e) → Noted b l t k (bytes_between b f e) 0
