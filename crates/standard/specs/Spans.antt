-- A range of the implementation compared with the numbers 1 and 2, the only ones to which the standard restricts an attribute. No part of the public
-- contract. Assumes nothing.
use Rattle.std.specs.Prelude.{◌≡◌, List, [], ◌∷◌, Bool, true, false, ℕ}
use Rattle.token.specs.Find.{both, either}
use Rattle.meaning.specs.Syntax.{Num, Word, Bounds, no_bounds, from_to, one_of}
use Rattle.meaning.specs.Words.{num_at_most, equal}
use Rattle.scopes.specs.Ranges.{Listed, RangeAt}

abbrev pub one : Num
one = record { negative = false; amount = 1 }

abbrev pub two : Num
two = record { negative = false; amount = 2 }

unfoldable pub one_or_two : Num → Bool
one_or_two n = either (equal n one) (equal n two)

unfoldable pub all_one_or_two : List Word → Bool
all_one_or_two [] = true
all_one_or_two (t ∷ ts) = let r = all_one_or_two ts in both (one_or_two t.number) r

-- The numbers in the bounds are 1 and 2, or one of them.
unfoldable pub within_one_two : Bounds → Bool
within_one_two no_bounds = false
within_one_two (from_to a b) = both (one_or_two a.number) (num_at_most b.number two)
within_one_two (one_of ts) = all_one_or_two ts

-- Of the numbers that are listed from p on.
abbrev pub AllListed : List ℕ → ℕ → Bool → Type 0
AllListed s p r = (ws : List Word) → Listed s p ws → r ≡ all_one_or_two ws

-- Of the range whose `[` stands at p.
abbrev pub WithinOneTwo : List ℕ → ℕ → Bool → Type 0
WithinOneTwo s p r = (b : Bounds) → RangeAt s p b → r ≡ within_one_two b
