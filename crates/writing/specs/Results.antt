-- What `write` promises: its answer, every cell of the lent tables and every byte of the lent output afterwards. Assumes nothing.
use Rattle.std.specs.Prelude.{◌≡◌, List, ◌++◌, ℕ, length, drop}
use Rattle.std.proofs.Math.Option.{some}
use Rattle.meaning.specs.Answers.{Answer as Meant, accepted, refused}
use Rattle.meaning.specs.Reading.{normal_text}
use Rattle.meaning.specs.Calls.{enough, call}
use Rattle.meaning.specs.Cells.{rooms_after}
use Rattle.reading.specs.Results.{rooms_of, table_after}
use Rattle.reading.specs.declared.Answer.TheVariants.{Accepted, Refused}
use Rattle.writing.specs.declared.Written.{Written}

-- The answer as `write` gives it, where the normal text is w: document 01's number and place, or how long the normal text is.
unfoldable pub written_of : List ℕ → Meant → Written
written_of w (accepted t) = record { answer = Accepted; length = length w }
written_of w (refused n p) = record { answer = Refused n p; length = 0 }

-- The lent output l after the call. "No refusal touches the output; bytes past an accepted output stay."
unfoldable pub output_after : List ℕ → List ℕ → Meant → List ℕ
output_after w l (accepted t) = w ++ drop (length w) l
output_after w l (refused n p) = l

-- The answer of the call with the lent tables d, e, o, v and the lent output l.
unfoldable pub asked : (s d e o v l : List ℕ) → Meant
asked s d e o v l = call (rooms_of d e o v) (some (length l)) s

-- THE CONTRACT of `write` for the text s, the lent tables d, e, o, v (definitions, enumerators, objects, values) and the lent output l, which
-- hold d', e', o', v' and l' afterwards.
pub record Writes (s d e o v l d' e' o' v' l' : List ℕ) (r : Written) : Type 0 where
  pub result : r ≡ written_of (normal_text s) (asked s d e o v l)
  pub definitions : d' ≡ table_after (enough (rooms_of d e o v)) (rooms_after (asked s d e o v l)).definitions 6656 d
  pub enumerators : e' ≡ table_after (enough (rooms_of d e o v)) (rooms_after (asked s d e o v l)).enumerators 3072 e
  pub objects : o' ≡ table_after (enough (rooms_of d e o v)) (rooms_after (asked s d e o v l)).objects 2048 o
  pub values : v' ≡ table_after (enough (rooms_of d e o v)) (rooms_after (asked s d e o v l)).values 18432 v
  pub output : l' ≡ output_after (normal_text s) l (asked s d e o v l)
