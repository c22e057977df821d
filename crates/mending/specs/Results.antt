-- What `mend` answers, and what the two lent outputs hold afterwards (document 02, Q-11), as definitions that compute. Assumes nothing.
use Rattle.std.specs.Prelude.{◌≡◌, List, ◌++◌, ℕ, length, drop, ltb}
use Rattle.std.proofs.Math.Option.{Option, none, some}
use Rattle.token.specs.Find.{pick, either}
use Rattle.meaning.specs.Words.{choose}
use Rattle.meaning.specs.Faults.{Fault, first}
use Rattle.meaning.specs.Defining.{definition_faults}
use Rattle.meaning.specs.Applying.{object_faults}
use Rattle.meaning.specs.Answers.{Answer, accepted, refused}
use Rattle.meaning.specs.Reading.{Parsed, parsed, not_parsed, parse, reading}
use Rattle.placing.specs.Placed.{is_at_start}
use Rattle.dropping.specs.Drops.{Drop, all_drops}
use Rattle.mending.specs.Pieces.{dropped, mended, back, lines}
use Rattle.mending.specs.Answered.{Answer as Mended, refused_at, not_mended_at, done_at}

-- The answer, and the two lent outputs after it.
pub record Outcome : Type 0 where
  pub result : Mended
  pub text : List ℕ
  pub lines : List ℕ

-- "leave both".
unfoldable pub left : Mended → (l k : List ℕ) → Outcome
left r l k = record { result = r; text = l; lines = k }

-- "with its place in the original", and "0 in the table of refusals" (Q-10) stays 0.
unfoldable pub place_back : List ℕ → List Drop → ℕ → ℕ → ℕ
place_back s ds n p = pick (is_at_start n) p (back s ds p)

-- The mended text w and the lines x come into the outputs l and k; "Either too short gets 20 and leaves both."
unfoldable pub written : (w x l k : List ℕ) → Outcome
written w x l k =
    choose (either (ltb (length l) (length w)) (ltb (length k) (length x))) (λ _. left (not_mended_at 20 0) l k)
    (λ _. record { result = done_at (length w) (length x); text = w ++ drop (length w) l; lines = x ++ drop (length x) k })

-- The mended text and the lines "come only if the mended text is accepted. Otherwise give the refusal of the mended text".
unfoldable pub by_answer : Answer → (s g : List ℕ) → List Drop → (l k : List ℕ) → Outcome
by_answer (accepted t) s g ds l k = written (mended s ds) (lines g (dropped s ds)) l k
by_answer (refused n p) s g ds l k = left (not_mended_at n (place_back s ds n p)) l k

unfoldable pub mend_by : (s g : List ℕ) → List Drop → (l k : List ℕ) → Outcome
mend_by s g ds l k = by_answer (reading (mended s ds)) s g ds l k

-- "a text that passes all stages before 13 (another gives its refusal)".
unfoldable pub or_refused : Option Fault → (l k : List ℕ) → (Unit {0} → Outcome) → Outcome
or_refused none l k next = next tt
or_refused (some x) l k next = left (refused_at x.number x.place) l k

unfoldable pub mend_parsed : Parsed → (s g l k : List ℕ) → Outcome
mend_parsed (not_parsed n p) s g l k = left (refused_at n p) l k
mend_parsed (parsed f) s g l k =
    or_refused (first (definition_faults f)) l k (λ _.
    or_refused (first (object_faults f)) l k (λ _. let ds = all_drops f in mend_by s g ds l k))

-- The answer for the text s, whose bytes have the origins g, and the lent outputs l and k.
unfoldable pub mend_text : (s g l k : List ℕ) → Outcome
mend_text s g l k = mend_parsed (parse s) s g l k

-- A call gives r, and the outputs are l' and k' afterwards.
pub record Leaves (o : Outcome) (l' k' : List ℕ) (r : Mended) : Type 0 where
  pub result : r ≡ o.result
  pub text : l' ≡ o.text
  pub lines : k' ≡ o.lines

-- THE CONTRACT of `mend` as equations, for the text s, whose bytes have the origins g, and the lent outputs l and k, which are l' and k' afterwards.
abbrev pub MendsText : (s g l k l' k' : List ℕ) → Mended → Type 0
MendsText s g l k l' k' r = Leaves (mend_text s g l k) l' k' r
