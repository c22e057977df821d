-- What `value` answers, and what the lent output holds afterwards (document 02, Q-13). Assumes nothing.
use Rattle.std.specs.Prelude.{◌≡◌, List, ◌++◌, ℕ, length, drop, ltb}
use Rattle.std.proofs.Math.Option.{Option, none, some}
use Rattle.meaning.specs.Syntax.{File}
use Rattle.meaning.specs.Words.{choose}
use Rattle.meaning.specs.Normal.{written}
use Rattle.meaning.specs.Resolving.{Taken}
use Rattle.meaning.specs.Answers.{Answer, accepted, refused, answer}
use Rattle.meaning.specs.Reading.{Parsed, parsed, not_parsed, parse}
use Rattle.attribute_values.specs.Values.{value_of}
use Rattle.attribute_values.specs.Answered.{Valued, no_value, of_length}
use Rattle.rows.specs.Refusing.{refusing}

-- The answer, and the lent output after it.
pub record Outcome : Type 0 where
  pub result : Valued
  pub output : List ℕ

unfoldable pub untouched : Valued → List ℕ → Outcome
untouched r l = record { result = r; output = l }

-- "copied as normal text writes it, without what is under it".
unfoldable pub text_of : Taken → List ℕ
text_of t = written t.value t.word

-- "A buffer too short gets refusal 20; that and not found touch nothing." Bytes past the copied ones stay.
unfoldable pub copied : List ℕ → List ℕ → Outcome
copied w l = choose (ltb (length l) (length w)) (λ _. untouched (refusing 20 0) l) (λ _. record { result = of_length (length w); output = w ++ drop (length w) l })

-- "copied .. into a lent buffer, or not found".
unfoldable pub told : Option Taken → List ℕ → Outcome
told none l = untouched no_value l
told (some t) l = copied (text_of t) l

unfoldable pub value_answered : Answer → File → (kind name path l : List ℕ) → Outcome
value_answered (accepted t) f kind name path l = told (value_of f kind name path) l
value_answered (refused n p) f kind name path l = untouched (refusing n p) l

-- "A refused text gives its refusal."
unfoldable pub value_parsed : Parsed → (kind name path l : List ℕ) → Outcome
value_parsed (parsed f) kind name path l = value_answered (answer f) f kind name path l
value_parsed (not_parsed n p) kind name path l = untouched (refusing n p) l

-- The answer to the text s with the lent output l.
unfoldable pub value_text : (s kind name path l : List ℕ) → Outcome
value_text s kind name path l = value_parsed (parse s) kind name path l

-- A call gives r, and the lent output is l' afterwards.
pub record Leaves (o : Outcome) (l' : List ℕ) (r : Valued) : Type 0 where
  pub result : r ≡ o.result
  pub output : l' ≡ o.output

-- THE CONTRACT of `value` as equations, for the text s and the lent output l, which is l' afterwards.
abbrev pub ValuesText : (s kind name path l l' : List ℕ) → Valued → Type 0
ValuesText s kind name path l l' r = Leaves (value_text s kind name path l) l' r
