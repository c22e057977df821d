-- What Q-7 of document 02 says of the answer, sentence by sentence, and what is proved of every text. proofs/Promises has the proofs.
-- Assumes nothing.
use Rattle.std.specs.Prelude.{◌≡◌, List, ◌++◌, ℕ, ◌+◌, ◌-◌, ◌≤◌, ◌<◌, length, Ok}
use Rattle.token.specs.Find.{byte}
use Rattle.grammar.specs.Grammar.{Token, Derivation}
use Rattle.grammar.specs.Terminals.{tokens as tokens-of}
use Rattle.grammar.specs.Stage.{number_of, place_of, Answers}
use Rattle.grammar.specs.Answered.{Answer as StageAnswer}
use Rattle.meaning.specs.Syntax.{Word, File}
use Rattle.meaning.specs.Actions.{syntax}
use Rattle.meaning.specs.Answers.{refused}
use Rattle.meaning.specs.Rules.{TheAnswer}
use Rattle.heading.specs.Headings.{Front, brace_in, version_and_name, answer_in, Heads, computed}
use Rattle.heading.specs.Answered.{Answer, heading_at}
use Rattle.rows.specs.Refusing.{refusing}

-- the token of a word
unfoldable pub token_of_word : Word → Token
token_of_word w = record { class = w.class; place = w.place; length = w.length }

-- "its version and name": those of a file
unfoldable pub its_version_and_name : File → Answer
unfolding token_of_word version_and_name
its_version_and_name f = version_and_name (token_of_word f.version) (token_of_word f.implementation_name)

-- From p up to e stands a string: it begins and ends with a quote, and there is none between them.
pub record InQuotes (s : List ℕ) (p e : ℕ) : Type 0 where
  pub long : p + 2 ≤ e
  pub opening : byte s p ≡ 34
  pub closing : byte s (e - 1) ≡ 34
  pub none_between : (i : ℕ) → p < i → i < e - 1 → byte s i ≡ 34 → ⊥

-- Where the brace of a front ends.
abbrev pub front_end : {l : List Token} → Front l → ℕ
front_end f = (brace_in f.tree).place + (brace_in f.tree).length

-- The two texts have the same front, through its brace: their first bytes, up to where the brace of the first one's front ends.
pub record SameFront (s u : List ℕ) : Type 0 where
  pub front : Front (tokens-of s)
  pub shared : List ℕ
  pub behind : List ℕ
  pub behind_other : List ℕ
  pub this : s ≡ shared ++ behind
  pub that : u ≡ shared ++ behind_other
  pub through_brace : front_end front ≡ length shared

-- r is the answer to the text s.
pub record Q-7 (s : List ℕ) (r : Answer) : Type 0 where
  -- "the version string, without its quotes": these stand right before it and right after it
  pub without_quotes : (p n q m : ℕ) → r ≡ heading_at p n q m → InQuotes s (p - 1) (p + n + 1)
  -- "Answer from the tokens through the brace after the implementation's name.": another text with the same front has the same answer, whatever
  -- stands after the brace
  pub from_front : (u : List ℕ) (q : Answer) → length s ≤ 65535 → length u ≤ 65535 → SameFront s u → Heads u q → q ≡ r
  -- "Refusal 2 comes first."
  pub first : 65535 < length s → r ≡ refusing 2 0
  -- "For a text that derives from the grammar the answer equals its version and name."
  pub derives : length s ≤ 65535 → (d : Derivation (tokens-of s)) → r ≡ its_version_and_name (syntax s d.tree)
  -- "For others, if the full reading's refusal 3, 4 or 5 lies at or before that brace, or there is none, that same number and place": where there
  -- is no such brace, nothing is asked of the place
  pub that_same : length s ≤ 65535 → (a : StageAnswer) → Answers s a → (a ≡ Ok tt → ⊥) → ((f : Front (tokens-of s)) → place_of a ≤ (brace_in f.tree).place)
      → r ≡ refusing (number_of a) (place_of a)
  -- "otherwise the answer": where there is that brace, each refusal of the grammar stage lies after it, and the answer is from its tokens
  pub later : (f : Front (tokens-of s)) (a : StageAnswer) → Answers s a → (a ≡ Ok tt → ⊥) → (brace_in f.tree).place < place_of a
  pub otherwise : length s ≤ 65535 → (f : Front (tokens-of s)) → r ≡ answer_in f.tree
  -- so what is refused is what the rules of the full reading refuse, and there is no such brace
  pub as_read : (n p : ℕ) → r ≡ refusing n p → TheAnswer s (refused n p)
  pub no_brace : (n p : ℕ) → length s ≤ 65535 → r ≡ refusing n p → Front (tokens-of s) → ⊥
  -- "It never gives 6."
  pub never_6 : (p : ℕ) → r ≡ refusing 6 p → ⊥

-- Every text has one answer, and it can be computed: `decides` in proofs/Promises.
abbrev pub Decides : Type 0
Decides = (s : List ℕ) → Heads s (computed s) × ((r : Answer) → Heads s r → r ≡ computed s)

-- The answer is that of the front alone: `front_decides`.
abbrev pub FrontDecides : Type 0
FrontDecides = (s u : List ℕ) (r q : Answer) → length s ≤ 65535 → length u ≤ 65535 → SameFront s u → Heads s r → Heads u q → q ≡ r

-- Whatever is answered so meets Q-7: `q_7`.
abbrev pub MeetsQ7 : Type 0
MeetsQ7 = (s : List ℕ) (r : Answer) → Heads s r → Q-7 s r
