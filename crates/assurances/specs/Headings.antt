-- Q-7 (document 02) of the calls themselves: what `heading` answers to a text, beside what `read` answers to it. Assumes nothing.
use Rattle.std.specs.Prelude.{◌≡◌, List, ℕ, ◌≤◌, ◌<◌, length}
use Rattle.grammar.specs.Terminals.{tokens}
use Rattle.meaning.specs.Rules.{FullRoom}
use Rattle.reading.specs.declared.Answer.{Answer as ReadAnswer}
use Rattle.reading.specs.declared.Answer.TheVariants.{Refused as ReadRefused}
use Rattle.heading.specs.Headings.{Front, brace_in, answer_in, Heads}
use Rattle.heading.specs.Answered.{Answer}
use Rattle.rows.specs.Refusing.{refusing}
use Rattle.assurances.specs.RoundTrip.{ReadCall}

-- h is what `heading` answers to the text s, r what `read` does.
pub record BesideRead (s : List ℕ) (h : Answer) (r : ReadAnswer) : Type 0 where
  -- What `heading` refuses, `read` refuses with the same number and place.
  pub refused_as_read : (n p : ℕ) → h ≡ refusing n p → r ≡ ReadRefused n p
  -- "if the full reading's refusal 3, 4 or 5 lies at or before that brace, or there is none, that same number and place"
  pub that_same : (n p : ℕ) → r ≡ ReadRefused n p → 3 ≤ n → n ≤ 5 → ((f : Front (tokens s)) → p ≤ (brace_in f.tree).place) → h ≡ refusing n p
  -- "otherwise the answer": there is that brace, and a refusal 3, 4 or 5 lies after it
  pub otherwise : (f : Front (tokens s)) → length s ≤ 65535 → h ≡ answer_in f.tree
  pub behind : (f : Front (tokens s)) (n p : ℕ) → r ≡ ReadRefused n p → 3 ≤ n → n ≤ 5 → (brace_in f.tree).place < p

-- The statement: `heading_beside_read` in proofs/Headings.
abbrev pub HeadingBesideRead : Type 0
HeadingBesideRead =
    (s : List ℕ) (h : Answer) → Heads s h → (b : ReadCall s) → FullRoom b.d b.e b.o b.v → BesideRead s h b.result.answer
