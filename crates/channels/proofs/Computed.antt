-- Channels of texts, by the reading that computes. Assumes nothing.
use mathlib.Core.Path.{◌≡◌}
use mathlib.Core.List.{List}
use mathlib.Core.Option.{Option, none}
use Prim.Native.Nat.{ℕ}
use Rattle.grammar.specs.Grammar.{Kind}
use Rattle.meaning.specs.Answers.{Tables, accepted}
use Rattle.meaning.specs.Reading.{Parsed, parsed, not_parsed, parse, reading}
use Rattle.channels.specs.Channels.{View, channel}

unfoldable pub channel_in : Parsed → Kind → List ℕ → Option View
channel_in (parsed f) k n = channel f k n
channel_in (not_parsed i p) k n = none

-- The channel of the kind k and the name n of the text s.
unfoldable pub channel_of : List ℕ → Kind → List ℕ → Option View
channel_of s k n = channel_in (parse s) k n

-- The text u is accepted, and each channel of it is that of s.
pub record ReadsUnchanged (s u : List ℕ) : Type 0 where
  pub tables : Tables
  pub accepts : reading u ≡ accepted tables
  pub same : (k : Kind) (n : List ℕ) → channel_of u k n ≡ channel_of s k n
