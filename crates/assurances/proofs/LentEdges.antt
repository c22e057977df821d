-- The starred edges over lent texts, by computation. Assumes nothing.
use mathlib.Core.Path.{◌≡◌, refl, subst}
use mathlib.Core.List.{List}
use Prim.Native.Nat.{ℕ}
use Rattle.token.specs.Words.{bytes_of}
use Rattle.meaning.specs.Answers.{Answer}
use Rattle.meaning.proofs.Everything.{everything}
use Rattle.sources.specs.Lines.{is_aside, aside_at, aside_n, aside, closing, quoted, named, line_start, whole_to, after_line, line_of, hash_at, stop_n, stop_at}
use Rattle.sources.specs.Texts.{fitting, told_well, find_from, find_name, include_of, event_at}
use Rattle.sources.specs.Expanding.{up_from, origin, onto, onto_part, nothing, stopped, onto_end, with_rest, included, walk_n, walk, expand_n, inner, main_text, expanded, is_too_long, fill_by, fill_of, expansion_within}
use Rattle.sources_reading.specs.Answering.{Answers, alone, numbered, sources_parse, sources_answer}
use Rattle.sources_reading.proofs.Answered.{answers}
use Rattle.assurances.specs.LentEdges.{LentEdgesHold}

given : (s : List ℕ) (a : Answer) → sources_answer s (alone s) ≡ a → Answers s (alone s) a
given s a e = subst (λ x. Answers s (alone s) x) e (answers s (alone s))

pub lent_edges_hold : LentEdgesHold
unfolding everything is_aside aside_at aside_n aside closing quoted named line_start whole_to after_line line_of hash_at stop_n stop_at fitting told_well find_from find_name include_of event_at up_from origin onto onto_part nothing stopped onto_end with_rest included walk_n walk expand_n inner main_text expanded is_too_long fill_by fill_of expansion_within numbered sources_parse sources_answer
lent_edges_hold = (
  given _ _ refl,
  (
    given _ _ refl,
    (
      given _ _ refl,
      (
        given _ _ refl,
        (
          given _ _ refl,
          (
            given _ _ refl,
            (given _ _ refl, (given _ _ refl, (given _ _ refl, (given _ _ refl, (given _ _ refl, tt))))),
          ),
        ),
      ),
    ),
  ),
)
