-- The lent texts: "The library gets them in one lent buffer with their names, main text first; of equal names the first counts." In the buffer b
-- stand a name, its text, the next name, its text and so on; l has their lengths in that order, as they are told.
-- Assumes nothing.
use Rattle.std.specs.Prelude.{ℕ, suc, ◌+◌, ◌-◌, List, [], ◌∷◌, Bool, true, false, length, get_or, leb, eqb, Option, Some, None}
use Rattle.token.specs.Find.{pick, both}
use Rattle.token.specs.Words.{same}
use Rattle.token.specs.Tokens.{bytes_between}
use Rattle.sources.specs.Lines.{stop_at}
use Rattle.sources.specs.declared.Line.{Line}
use Rattle.sources.specs.declared.Stop.{Stop}
use Rattle.sources.specs.declared.Stop.TheVariants.{At, Line as AtLine}
use Rattle.sources.specs.declared.Event.{Event}
use Rattle.sources.specs.declared.Event.TheVariants.{Stop as Stops, Include as Includes}

-- from a place of the buffer on, names and texts of these lengths lie inside, and no text has over 65,535 bytes
unfoldable pub fitting : List ℕ → ℕ → List ℕ → Bool
fitting b a [] = true
fitting b a (n ∷ []) = false
fitting b a (n ∷ t ∷ l) = both (leb n (length b - a)) (both (leb t (length b - (a + n))) (both (leb t 65535) (fitting b (a + n + t) l)))

-- the opposite of "no text or more than 8 lent, told lengths that overrun the buffer, or over 65,535 bytes, in one text"
unfoldable pub told_well : List ℕ → List ℕ → Bool
told_well b l = both (leb 1 (length l)) (both (leb (length l) 16) (fitting b 0 l))

-- the first text of the name w, where text i has its name at a: its number, and its bytes from a place to another
unfoldable pub find_from : List ℕ → ℕ → ℕ → List ℕ → List ℕ → Option (ℕ × ℕ × ℕ)
find_from b i a [] w = None
find_from b i a (n ∷ []) w = None
find_from b i a (n ∷ t ∷ l) w =
    let r = find_from b (suc i) (a + n + t) l w in
    pick (same (bytes_between b a (a + n)) w) (Some (i, a + n, a + n + t)) r

unfoldable pub find_name : List ℕ → List ℕ → List ℕ → Option (ℕ × ℕ × ℕ)
find_name b l w = find_from b 0 0 l w

-- the text that was found for an include line; o has 1 for each text that is still open.
-- "Refusal 27: a text included while it is still open. 28: name not among the texts."
abbrev pub include_by : List ℕ → Line → Option (ℕ × ℕ × ℕ) → Event
include_by o i (Some (n, f, t)) =
    pick (eqb (get_or o n 0) 1) (Stops 27 i.hash)
    (Includes (record { number = n; from = f; to = t; hash = i.hash; start = i.start; after = i.after }))
include_by o i None = Stops 28 i.hash

unfoldable pub include_of : List ℕ → List ℕ → List ℕ → List ℕ → Line → Event
include_of b l s o i = include_by o i (find_name b l (bytes_between s i.from i.to))

abbrev pub event_by : List ℕ → List ℕ → List ℕ → List ℕ → Stop → Event
event_by b l s o (At n q) = Stops n q
event_by b l s o (AtLine i) = include_of b l s o i

-- what comes next in the text s from p on: its end, or the first fault of 3 and 27 to 29, or a text to include
unfoldable pub event_at : List ℕ → List ℕ → List ℕ → List ℕ → ℕ → Event
event_at b l s o p = event_by b l s o (stop_at s p)
