-- What a step finds at a place, as far as numbers and ranges ask: a number or a sign, its place and the place after it. Assumes nothing.
use Rattle.std.specs.Prelude.{List, false, ℕ, ◌*◌, ◌^◌, eqb}
use Rattle.token.specs.Find.{pick}
use Rattle.token.specs.Tokens.{step_at}
use Rattle.token.specs.declared.Step.{Step}
use Rattle.token.specs.declared.Step.TheVariants.{Found, Refused, End}
use Rattle.token.specs.declared.Sort.{Sort}
use Rattle.token.specs.declared.Sort.TheVariants.{Word, Number, String, Punctuator, Float}
use Rattle.grammar.specs.Grammar.{Integer, UINT32, INT32, UINT64, INT64}
use Rattle.meaning.specs.Syntax.{Num}
use Rattle.scopes.specs.declared.Num.{Num as Number-of}
use Rattle.scopes.specs.declared.Float.{Float as Float-of}
use Rattle.scopes.specs.declared.Item.{Item}

-- The number that a struct holds.
abbrev pub num : Number-of → Num
num n = record { negative = n.negative; amount = n.amount }

abbrev pub zero_of : Number-of
zero_of = record { negative = false; amount = 0 }

-- The float that a struct holds, as a number of parts of which 10 to the 82 are one.
abbrev pub real : Float-of → Num
real f = record { negative = f.negative; amount = f.digits * 10 ^ f.scale }

unfoldable pub item_of : Sort → ℕ → ℕ → Item
item_of (Word c) a n = record { number = zero_of; sign = 0; at = a; next = n }
item_of (Number b m) a n = record { number = record { negative = b; amount = m }; sign = 0; at = a; next = n }
item_of String a n = record { number = zero_of; sign = 0; at = a; next = n }
item_of (Punctuator b) a n = record { number = zero_of; sign = b; at = a; next = n }
item_of (Float b m k) a n = record { number = zero_of; sign = 0; at = a; next = n }

unfoldable pub item_of_step : Step → Item
item_of_step (Found t c) = item_of t.sort t.at c.at
item_of_step (Refused p) = record { number = zero_of; sign = 0; at = p; next = p }
item_of_step (End n) = record { number = zero_of; sign = 0; at = n; next = n }

unfoldable pub item_at : List ℕ → ℕ → Item
item_at s p = item_of_step (step_at s p)

-- The integer type whose word has the code, which is 35 for UINT32, 36 for INT32, 37 for UINT64, 38 for INT64.
unfoldable pub integer_coded : ℕ → Integer
integer_coded c = pick (eqb c 35) UINT32 (pick (eqb c 36) INT32 (pick (eqb c 37) UINT64 INT64))
