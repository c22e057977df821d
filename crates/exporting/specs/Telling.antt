-- How the code tells an answer to the text itself, whose first fault of 3 and 27 to 29 has the number n. No part of the public contract.
-- Assumes nothing.
use Rattle.std.specs.Prelude.{◌≡◌, List, ◌++◌, ℕ, ◌≤◌, ◌<◌, min, length, drop, eqb, Ok, Err, Some, None}
use Rattle.token.specs.Find.{pick}
use Rattle.meaning.specs.Answers.{Tables, accepted, refused}
use Rattle.meaning.specs.Rules.{TheAnswer, TheNormalText}
use Rattle.placing.specs.Placed.{is_at_start}
use Rattle.heading.specs.Headings.{Heads}
use Rattle.heading.specs.Answered.{Answer, heading_at}
use Rattle.rows.specs.Refusing.{refusing}
use Rattle.attribute_values.specs.Answered.{Valued}
use Rattle.exporting.specs.Rules.{refusal, done, heading}
use Rattle.exporting.specs.declared.Told.{Told}
use Rattle.exporting.specs.declared.Heading.{Heading}

-- The place of refusal m, in a text of so many bytes.
unfoldable pub place_told : ℕ → ℕ → ℕ → ℕ
place_told long m p = pick (is_at_start m) p (min p long)

-- A refusal of the text: 3 takes the number of the fault that stands there.
unfoldable pub refusal_told : ℕ → ℕ → ℕ → ℕ → Told
refusal_told long n m p = refusal (pick (eqb m 3) n m) (place_told long (pick (eqb m 3) n m) p)

unfoldable pub value_told : ℕ → ℕ → Valued → Told
value_told long n (Err r) = refusal_told long n r.number r.place
value_told long n (Ok None) = refusal 255 0
value_told long n (Ok (Some m)) = done m

-- `write_alone`: what comes of the answer of the rules to the text s.
pub data NormalWith (n : ℕ) (s l l' : List ℕ) (r : Told) : Type 0 where
  refuses : (m p : ℕ) → TheAnswer s (refused m p) → r ≡ refusal_told (length s) n m p → l' ≡ l → NormalWith n s l l' r
  longer : (t : Tables) → TheAnswer s (accepted t) → (w : List ℕ) → TheNormalText s w → length l < length w → r ≡ refusal 20 0 → l' ≡ l → NormalWith n s l l' r
  writes : (t : Tables) → TheAnswer s (accepted t) → (w : List ℕ) → TheNormalText s w → length w ≤ length l → r ≡ done (length w) → l' ≡ w ++ drop (length w) l
      → NormalWith n s l l' r

-- How the heading of a text of so many bytes is told.
unfoldable pub heading_told : ℕ → ℕ → Answer → Answer
heading_told long n (Ok h) = heading_at (min h.version_at long) h.version_len (min h.name_at long) h.name_len
heading_told long n (Err r) = refusing (refusal_told long n r.number r.place).number (refusal_told long n r.number r.place).place

-- `heading_alone`.
pub record HeadingWith (n : ℕ) (s : List ℕ) (r : Heading) : Type 0 where
  pub answer : Answer
  pub heads : Heads s answer
  pub told : r ≡ heading (heading_told (length s) n answer)
