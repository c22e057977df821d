-- The answer to the lent texts b with lengths l, with places in the expanded text: first what it is, by derivations of the expanded tokens; then the
-- same as a definition that computes, the reading of the expanded text with its refusal 3 renumbered. Assumes nothing.
use Rattle.std.specs.Prelude.{◌≡◌, Bool, true, false, List, [], ◌∷◌, ◌++◌, ℕ, ◌+◌, ◌≤◌, length, eqb}
use Rattle.token.specs.Find.{pick}
use Rattle.grammar.specs.Grammar.{Token, matches, sg, lbrace, Derivation, Begins}
use Rattle.grammar.specs.Terminals.{tokens}
use Rattle.grammar.specs.Stage.{opens, closes, Shallow}
use Rattle.meaning.specs.Actions.{syntax}
use Rattle.meaning.specs.Answers.{Answer, accepted, refused, answer}
use Rattle.meaning.specs.Reading.{Parsed, parsed, not_parsed, parse, answer_of_parsed, reading}
use Rattle.sources.specs.Expanding.{up_from, expanded, expansion_of}
use Rattle.sources.specs.Plain.{holds}

-- the expanded text, through the end of the text that has the first fault of 3 and 27 to 29
abbrev pub text : List ℕ → List ℕ → List ℕ
text b l = (expanded b l).bytes

-- the lengths of a text that is lent alone, with an empty name
abbrev pub alone : List ℕ → List ℕ
alone s = 0 ∷ length s ∷ []

-- the expanded text's tokens, up to that fault
abbrev pub found : List ℕ → List ℕ → List Token
found b l = tokens (text b l)

-- "27 to 29 are placed at the `#` in the stage of 3 to 5; 30 replaces 2", "leftmost is by expanded order".
pub data Answers (b l : List ℕ) : Answer → Type 0 where
  -- 30
  too_long : (expansion_of b l).number ≡ 30 → Answers b l (refused 30 0)
  -- 3, 27, 28, 29: the first of them, and before it no 4 and no 5
  at_fault : ((expansion_of b l).number ≡ 30 → ⊥) → ((expanded b l).number ≡ 0 → ⊥) → Shallow (found b l) → Begins (found b l) →
      Answers b l (refused (expanded b l).number (expanded b l).place)
  -- 4, at a token
  not_admitted : ((expansion_of b l).number ≡ 30 → ⊥) → (f : List Token) (t : Token) (r : List Token) → found b l ≡ f ++ (t ∷ r) → Shallow f → Begins f →
      (Begins (f ++ (t ∷ [])) → ⊥) → Answers b l (refused 4 t.place)
  -- 4, at the end, where there is no fault of 3 and 27 to 29
  ends_early : ((expansion_of b l).number ≡ 30 → ⊥) → (expanded b l).number ≡ 0 → Shallow (found b l) → Begins (found b l) → (Derivation (found b l) → ⊥) →
      Answers b l (refused 4 (length (text b l)))
  -- 5
  too_deep : ((expansion_of b l).number ≡ 30 → ⊥) → (f : List Token) (t : Token) (r : List Token) → found b l ≡ f ++ (t ∷ r) → Shallow f →
      Begins (f ++ (t ∷ [])) → matches (sg lbrace) t.class ≡ true → opens f ≡ closes f + 16 → Answers b l (refused 5 t.place)
  -- 6 to 19, or accepted: by the derivation of the expanded tokens
  meant : ((expansion_of b l).number ≡ 30 → ⊥) → (expanded b l).number ≡ 0 → Shallow (found b l) → (d : Derivation (found b l)) →
      Answers b l (answer (syntax (text b l) d.tree))

-- As a definition that computes --------------------------------------------------------------------------------------------------------------

-- refusal 3 takes the number of the fault that stands there
unfoldable pub numbered : ℕ → Parsed → Parsed
numbered n (parsed f) = parsed f
numbered n (not_parsed m p) = not_parsed (pick (eqb m 3) n m) p

abbrev pub parse_if : Bool → List ℕ → List ℕ → Parsed
parse_if true b l = not_parsed 30 0
parse_if false b l = numbered (expanded b l).number (parse (text b l))

unfoldable pub sources_parse : List ℕ → List ℕ → Parsed
sources_parse b l = parse_if (eqb (expansion_of b l).number 30) b l

unfoldable pub sources_answer : List ℕ → List ℕ → Answer
sources_answer b l = answer_of_parsed (sources_parse b l)

-- THE STATEMENT: it is the answer, and there is no other. proofs/Answered has it (`lent_texts_answered`).
pub record AnsweredOnce (b l : List ℕ) : Type 0 where
  pub given : Answers b l (sources_answer b l)
  pub no_other : (a : Answer) → Answers b l a → a ≡ sources_answer b l

abbrev pub LentTextsAnswered : Type 0
LentTextsAnswered = (b l : List ℕ) → AnsweredOnce b l

-- So it is the reading of the expanded text, where refusal 3 takes the number of the fault that stands there (proofs/Renumbered).
unfoldable pub renumbered : ℕ → Answer → Answer
renumbered n (accepted t) = accepted t
renumbered n (refused m p) = refused (pick (eqb m 3) n m) p

-- THE STATEMENT: where no `#` stands in a text, the answer to it, lent alone, is that of document 01's reader, with the same places: each byte is
-- its own origin. proofs/Unaffected has it (`plain_read`).
pub record ReadAsBefore (s : List ℕ) : Type 0 where
  pub bytes : text s (alone s) ≡ s
  pub origins : (expanded s (alone s)).origins ≡ up_from 0 (length s)
  pub answer : sources_answer s (alone s) ≡ reading s

abbrev pub PlainRead : Type 0
PlainRead = (s : List ℕ) → length s ≤ 65535 → holds 35 s ≡ false → ReadAsBefore s
