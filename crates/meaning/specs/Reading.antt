-- The reading of a text (document 01, "Refusals and their order": stages 2 to 19): first what its answer is, by the text's derivation; then the
-- same as a definition that computes, with the derivation that the grammar's machine finds. proofs/Whole has that they agree. Assumes nothing.
use Rattle.std.specs.Prelude.{◌≡◌, List, [], ℕ, ◌≤◌, ◌<◌, length, ltb, Ok, Err}
use Rattle.std.proofs.Math.Option.{Option, none, some}
use Rattle.token.specs.Lexing.{lex_from}
use Rattle.grammar.specs.Grammar.{file, ◌▸◌, ∎, ◌⟶◌, Trees, Derivation}
use Rattle.grammar.specs.Terminals.{tokens, tokens_in}
use Rattle.grammar.specs.Stage.{number_of, place_of, Answers as StageAnswers}
use Rattle.grammar.specs.Demand.{Covered}
use Rattle.grammar.specs.Factored.{paper}
use Rattle.grammar.specs.Machine.{run}
use Rattle.grammar.specs.Readers.{stream_of}
use Rattle.grammar.specs.Answered.{Answer as GrammarAnswer}
use Rattle.grammar.specs.declared.Refusal.TheVariants.{NoToken, NotAdmitted, TooDeep}
use Rattle.meaning.specs.Syntax.{File}
use Rattle.meaning.specs.Words.{choose}
use Rattle.meaning.specs.Actions.{syntax}
use Rattle.meaning.specs.Tree.{tree}
use Rattle.meaning.specs.Normal.{normal}
use Rattle.meaning.specs.Answers.{Answer, refused, answer}

-- What the answer to a text is, where the lent tables are long enough and no output is asked for.
pub data Answers (s : List ℕ) : Answer → Type 0 where
  -- 2: "text too long", at 0. "The text is at most 65,535 bytes."
  too_long : 65535 < length s → Answers s (refused 2 0)
  -- 3, 4 and 5: what the grammar stage answers
  not_grammar : (a : GrammarAnswer) → length s ≤ 65535 → (a ≡ Ok tt → ⊥) → StageAnswers s a → Answers s (refused (number_of a) (place_of a))
  -- 6 to 19, or accepted: by the derivation of the text's tokens
  meant : Covered s → (d : Derivation (tokens s)) → Answers s (answer (syntax s d.tree))

-- As a definition that computes --------------------------------------------------------------------------------------------------------------

-- The stages up to 5: the syntax of a text, or its refusal.
pub data Parsed : Type 0 where
  parsed : File → Parsed
  not_parsed : ℕ → ℕ → Parsed

-- What passes the grammar stage has a derivation, so the case without one does not arise.
unfoldable pub by_tree : List ℕ → Option (Trees ◌⟶◌ (file ▸ ∎)) → Parsed
by_tree s none = not_parsed 4 (length s)
by_tree s (some t) = parsed (syntax s t)

unfoldable pub after_grammar : List ℕ → GrammarAnswer → (Unit {0} → Option (Trees ◌⟶◌ (file ▸ ∎))) → Parsed
after_grammar s (Ok _) t = by_tree s (t tt)
after_grammar s (Err (NoToken p)) t = not_parsed 3 p
after_grammar s (Err (NotAdmitted p)) t = not_parsed 4 p
after_grammar s (Err (TooDeep p)) t = not_parsed 5 p

-- 2, "text too long", at 0; then 3 to 5.
unfoldable pub parse : List ℕ → Parsed
parse s =
    choose (ltb 65535 (length s)) (λ _. not_parsed 2 0)
    (λ _. let l = lex_from s 0 in after_grammar s (run 0 (paper file ▸ ∎) (stream_of l)) (λ _. tree (tokens_in l)))

unfoldable pub answer_of_parsed : Parsed → Answer
answer_of_parsed (parsed f) = answer f
answer_of_parsed (not_parsed n p) = refused n p

-- The answer to a text, where the lent tables are long enough and no output is asked for.
unfoldable pub reading : List ℕ → Answer
reading s = answer_of_parsed (parse s)

unfoldable pub normal_of : List ℕ → Parsed → List ℕ
normal_of s (parsed f) = normal s f
normal_of s (not_parsed n p) = []

-- The normal text of a text that is accepted.
unfoldable pub normal_text : List ℕ → List ℕ
normal_text s = normal_of s (parse s)
