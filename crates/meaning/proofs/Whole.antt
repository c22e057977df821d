-- `reading` gives the answer to every text, and no text has another. Assumes nothing.
use mathlib.Core.Path.{◌≡◌, refl, sym, subst}
use mathlib.Core.List.{List}
use mathlib.Core.Bool.{Bool, true, false, false≢true}
use Prim.Native.Nat.{ℕ, ◌≤◌}
use native.Mathlib.Omega.{arith}
use lib.ListN.{length}
use lib.Dec.{ltb}
use borrow.Author.Tests.{ltb-true, ltb-false}
use Rattle.token.specs.Lexing.{lex_from}
use Rattle.grammar.specs.Grammar.{file, ◌▸◌, ∎}
use Rattle.grammar.specs.Stage.{passes, Answers as StageAnswers}
use Rattle.grammar.specs.Demand.{Covered}
use Rattle.grammar.specs.Factored.{paper}
use Rattle.grammar.specs.Machine.{run}
use Rattle.grammar.specs.Readers.{stream_of}
use Rattle.grammar.proofs.Decided.{decided}
use Rattle.grammar.specs.Answered.{Answer as GrammarAnswer}
use Rattle.std.specs.Prelude.{Ok, Err}
use Rattle.grammar.specs.declared.Refusal.TheVariants.{NoToken, NotAdmitted, TooDeep}
use Rattle.meaning.specs.Answers.{Tables, Answer, accepted}
use Rattle.meaning.specs.Reading.{Answers, too_long, not_grammar, meant, reading, normal_text}
use Rattle.meaning.specs.Rules.{TheNormalText}
use Rattle.meaning.specs.Computed.{OneAnswer, OneNormalText}
use Rattle.meaning.proofs.Found.{run_answers, reading_long, reading_derived, reading_refused, normal_derived}

module _ (s : List ℕ) (h : length s ≤ 65535) where
  refusing : (a : GrammarAnswer) → run 0 (paper file ▸ ∎) (stream_of (lex_from s 0)) ≡ a → (a ≡ Ok tt → ⊥) → StageAnswers s a → Answers s (reading s)
  refusing a e n t = subst (λ b. Answers s b) (sym (reading_refused s a h e n)) (not_grammar a h n t)

  by_stage : (a : GrammarAnswer) → run 0 (paper file ▸ ∎) (stream_of (lex_from s 0)) ≡ a → StageAnswers s a → Answers s (reading s)
  by_stage (Ok _) e (passes v q d) =
      let w : Covered s = record { short = h; divides = v; shallow = q } in
      subst (λ b. Answers s b) (sym (reading_derived s w d)) (meant w d)
  by_stage (Err (NoToken p)) e t = refusing (Err (NoToken p)) e (λ q. let z : ◌≡◌ {A = ℕ} 0 1 = cc in omega arith) t
  by_stage (Err (NotAdmitted p)) e t = refusing (Err (NotAdmitted p)) e (λ q. let z : ◌≡◌ {A = ℕ} 0 1 = cc in omega arith) t
  by_stage (Err (TooDeep p)) e t = refusing (Err (TooDeep p)) e (λ q. let z : ◌≡◌ {A = ℕ} 0 1 = cc in omega arith) t

-- Every text has its answer, and `reading` gives it.
pub answers : (s : List ℕ) → Answers s (reading s)
answers s = go (ltb 65535 (length s)) refl
  where
    go : (b : Bool) → ltb 65535 (length s) ≡ b → Answers s (reading s)
    go true e = subst (λ a. Answers s a) (sym (reading_long s (ltb-true 65535 (length s) e))) (too_long (ltb-true 65535 (length s) e))
    go false e = by_stage s (ltb-false 65535 (length s) e) (run 0 (paper file ▸ ∎) (stream_of (lex_from s 0))) refl (run_answers s)

-- A text has one answer: what `Answers` allows is what `reading` gives.
pub one_answer : {s : List ℕ} {a : Answer} → Answers s a → reading s ≡ a
one_answer {s} (too_long h) = reading_long s h
one_answer {s} (not_grammar a h n t) = reading_refused s a h (decided (run_answers s) t) n
one_answer {s} (meant w d) = reading_derived s w d

-- So `reading` gives the one answer of the rules.
pub the_answer : OneAnswer
the_answer s = record { given = answers s; no_other = λ b h. sym (one_answer h) }

-- And `normal_text` the one normal text of an accepted text.
pub the_normal_text : {s : List ℕ} {a : Answer} (t : Tables) → Answers s a → a ≡ accepted t → TheNormalText s (normal_text s)
the_normal_text t (too_long h) e = absurd (let z : ◌≡◌ {A = Bool} false true = cc in false≢true z)
the_normal_text t (not_grammar a h n k) e = absurd (let z : ◌≡◌ {A = Bool} false true = cc in false≢true z)
the_normal_text {s} t (meant w d) e = record { derivation = d; written = normal_derived s w }

pub every_normal_text : OneNormalText
every_normal_text s t a = the_normal_text t a refl
