-- Where a statement ends (document 02, Q-11: "from its name through its semicolon"). Assumes nothing.
use Rattle.std.specs.Prelude.{List, Bool, ℕ, zero, suc, ◌+◌, ◌-◌, length, eqb}
use Rattle.token.specs.Find.{pick, both}
use Rattle.token.specs.Tokens.{step_at}
use Rattle.token.specs.declared.Sort.{Sort}
use Rattle.token.specs.declared.Sort.TheVariants.{Word, Number, String, Punctuator, Float}
use Rattle.token.specs.declared.Step.{Step}
use Rattle.token.specs.declared.Step.TheVariants.{Found, Refused, End}
use Rattle.meaning.specs.Words.{choose}

-- The byte of a punctuator; 0 for another token.
unfoldable pub punctuator_of : Sort → ℕ
punctuator_of (Word k) = 0
punctuator_of (Number n m) = 0
punctuator_of String = 0
punctuator_of (Punctuator b) = b
punctuator_of (Float n m k) = 0

-- How many braces are open after a punctuator, where d were: `{` is 123, `}` is 125.
unfoldable pub open_after : ℕ → ℕ → ℕ
open_after d b = pick (eqb b 123) (d + 1) (pick (eqb b 125) (d - 1) d)

-- The semicolon, 59, where no brace is open.
unfoldable pub is_last : ℕ → ℕ → Bool
is_last d b = both (eqb b 59) (eqb d 0)

-- After a step, in a text of n bytes, with d braces open: the place after the semicolon, or on by k.
unfoldable pub end_by : Step → ℕ → ℕ → (ℕ → ℕ → ℕ) → ℕ
end_by (Found t c) d n k = let b = punctuator_of t.sort in choose (is_last d b) (λ _. c.at) (λ _. k (open_after d b) c.at)
end_by (Refused q) d n k = n
end_by (End m) d n k = n

-- In at most n steps from p on.
unfoldable pub end_in : ℕ → List ℕ → ℕ → ℕ → ℕ
end_in zero s d p = length s
end_in (suc n) s d p = end_by (step_at s p) d (length s) (λ e q. end_in n s e q)

-- With d braces open, from p on: there are no more tokens than bytes.
unfoldable pub end_from : List ℕ → ℕ → ℕ → ℕ
end_from s d p = end_in (length s - p) s d p

-- The place after the semicolon of the statement whose name stands at p: that of the first semicolon from there on that stands in no braces opened
-- since; the text's end where there is none.
unfoldable pub end_of : List ℕ → ℕ → ℕ
end_of s p = end_from s 0 p
