-- The contracts of the inner functions of `mend`. No part of the public contract. Assumes nothing.
use Rattle.std.specs.Prelude.{Result, Ok, Err, ⊤, ◌≡◌, List, [], Bool, ℕ, ◌+◌, ◌-◌, ◌≤◌, length, get_or, set, eqb}
use Rattle.std.proofs.lemmas.List.Edits.{sets}
use Rattle.std.proofs.Math.Option.{none}
use Rattle.token.specs.Find.{pick, both, byte}
use Rattle.rows.specs.declared.Fault.{Fault}
use Rattle.meaning.specs.Syntax.{File}
use Rattle.meaning.specs.Faults.{first}
use Rattle.meaning.specs.Defining.{definition_faults}
use Rattle.meaning.specs.Applying.{object_faults}
use Rattle.meaning.specs.Answers.{refused}
use Rattle.meaning.specs.Reading.{parsed, parse, reading}
use Rattle.placing.specs.Placed.{is_at_start}
use Rattle.reading.specs.Results.{reading_of}
use Rattle.reading.specs.Decisions.{Merged, stage_fault, Passed}
use Rattle.reading.specs.declared.Answer.{Answer}
use Rattle.reading.specs.declared.Decision.{Decision}
use Rattle.dropping.specs.Drops.{scatter, all_drops}
use Rattle.mending.specs.Ends.{end_of}
use Rattle.mending.specs.Pieces.{next_place, pieces, kept_of, dropped_of, bytes_at, line, lines}
use Rattle.mending.specs.Results.{written, Leaves}
use Rattle.mending.specs.Answered.{Answer as Mended}

-- The mark at a place is the number of the drop there.
abbrev pub marked : List ℕ → ℕ → ℕ
marked m p = get_or m p 0

-- The place after the piece at p.
unfoldable pub next_by : (s m : List ℕ) → ℕ → ℕ
next_by s m p = next_place (marked m p) s p

-- By the marks m: the places that are kept from p on, their bytes, and the lines for what is dropped.
unfoldable pub kept_by : (s m : List ℕ) → ℕ → List ℕ
kept_by s m p = kept_of (pieces s (marked m) p)

unfoldable pub mended_by : (s m : List ℕ) → ℕ → List ℕ
mended_by s m p = bytes_at s (kept_by s m p)

unfoldable pub lines_by : (s g m : List ℕ) → ℕ → List ℕ
lines_by s g m p = lines g (dropped_of (pieces s (marked m) p))

-- Whether the piece at p is the kept byte that is looked for, where so many kept ones come before it.
unfoldable pub is_here : (m : List ℕ) → (p left : ℕ) → Bool
is_here m p left = both (eqb (marked m p) 0) (eqb left 0)

-- How many kept ones come before it from the next piece on.
unfoldable pub left_after : (m : List ℕ) → (p left : ℕ) → ℕ
left_after m p left = pick (eqb (marked m p) 0) (left - 1) left

-- The output l and the place in it after the piece at p.
unfoldable pub stored : (s m : List ℕ) → ℕ → List ℕ → ℕ → List ℕ
stored s m p l at = pick (eqb (marked m p) 0) (set l at (byte s p)) l

unfoldable pub place_after : (m : List ℕ) → (p at : ℕ) → ℕ
place_after m p at = pick (eqb (marked m p) 0) (at + 1) at

-- The line for the piece at p, if it is dropped.
unfoldable pub line_at : (s g m : List ℕ) → ℕ → List ℕ
line_at s g m p = pick (eqb (marked m p) 0) [] (line (get_or g p 0) (end_of s p - p) (marked m p))

-- `put_kept`.
pub record PutsKept (s m : List ℕ) (p : ℕ) (l : List ℕ) (at : ℕ) (l' : List ℕ) (r : ℕ) : Type 0 where
  pub bytes : l' ≡ stored s m p l at
  pub next : r ≡ place_after m p at

-- `put_mended`: the mended text is at the front of the output.
pub record PutsMended (s m l l' : List ℕ) (r : ℕ) : Type 0 where
  pub bytes : l' ≡ sets l 0 (mended_by s m 0)
  pub many : r ≡ length (mended_by s m 0)
  pub few : r ≤ length s

-- The whole ----------------------------------------------------------------------------------------------------------------------------------

-- The place in the text of a refusal of the mended text.
unfoldable pub place_by : (s m : List ℕ) → (n p : ℕ) → ℕ
place_by s m n p = pick (is_at_start n) p (get_or (kept_by s m 0) p (length s))

-- `answer_to`: the reading's answer.
abbrev pub AnswersTo : List ℕ → Answer → Type 0
AnswersTo s r = r ≡ (reading_of (reading s)).answer

-- `put_out`: the text w and the lines by the marks come into the outputs.
abbrev pub PutsOut : (s g m w l k l' k' : List ℕ) → Mended → Type 0
PutsOut s g m w l k l' k' r = Leaves (written w (lines_by s g m 0) l k) l' k' r

-- `drop_kept`: of a text that passes the stages before 13, whose rows are in the tables y, each drop is marked.
abbrev pub DropsKept : (s : List ℕ) → Merged → Decision → (m m' : List ℕ) → Type 0
DropsKept s y w m m' = (p : Passed s y w) → m' ≡ scatter m (all_drops p.file)

-- `mark_drops`: a refusal of a stage before 13, or each drop is marked.
pub data MarksDrops (s m m' : List ℕ) : Result ⊤ Fault → Type 0 where
  stops : {x : Fault} → reading s ≡ refused x.number x.place → ((f : File) → parse s ≡ parsed f → stage_fault f ≡ none → ⊥) → MarksDrops s m m' (Err x)
  marks : {u : ⊤} → length s ≤ 65535 → (f : File) → parse s ≡ parsed f → first (definition_faults f) ≡ none → first (object_faults f) ≡ none
      → m' ≡ scatter m (all_drops f) → MarksDrops s m m' (Ok u)
