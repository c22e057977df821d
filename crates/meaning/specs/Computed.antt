-- The definitions that compute give what the rules say: `reading` the answer to a text, `normal_text` its normal text. proofs/Whole has it
-- (`the_answer`, `every_normal_text`). Assumes nothing.
use Rattle.std.specs.Prelude.{List, ℕ}
use Rattle.meaning.specs.Answers.{Tables, accepted}
use Rattle.meaning.specs.Reading.{Answers, reading, normal_text}
use Rattle.meaning.specs.Rules.{TheAnswer, TheNormalText}

-- "A reading accepts or gives one numbered refusal and a byte place, both fixed by the rules": the rules answer every text, by one answer alone.
abbrev pub OneAnswer : Type 0
OneAnswer = (s : List ℕ) → TheAnswer s (reading s)

-- Every text that they accept has one normal text.
abbrev pub OneNormalText : Type 0
OneNormalText = (s : List ℕ) (t : Tables) → Answers s (accepted t) → TheNormalText s (normal_text s)
