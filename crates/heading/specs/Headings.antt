-- Q-7 of document 02, "What is in this drawer of files?": the version string and the implementation's name of a text, or a refusal. First what the
-- answer to a text is; then the same as a definition that computes. proofs/Promises has that they agree. Assumes nothing.
use Rattle.std.specs.Prelude.{◌≡◌, List, [], ◌∷◌, ◌++◌, Bool, true, false, ℕ, ◌+◌, ◌-◌, ◌≤◌, ◌<◌, length, get_or, ltb, Ok}
use Rattle.token.specs.Find.{both}
use Rattle.token.specs.Lexing.{lex_from}
use Rattle.grammar.specs.Grammar.{Token, Terminal, Form, ◌·◌, ◌▸◌, ∎, ◌⟶◌, Trees, leaf, node, tokens, matches, other, file, version, version_is, the, OIL-VERSION, IMPLEMENTATION, name, string, sg, lbrace, equals, colon, semicolon}
use Rattle.grammar.specs.Terminals.{tokens_in, tokens as tokens-of}
use Rattle.grammar.specs.Stage.{number_of, place_of, Answers}
use Rattle.grammar.specs.Factored.{paper}
use Rattle.grammar.specs.Machine.{run}
use Rattle.grammar.specs.Readers.{stream_of}
use Rattle.grammar.specs.Answered.{Answer as StageAnswer}
use Rattle.meaning.specs.Words.{choose}
use Rattle.heading.specs.Answered.{Answer, heading_at}
use Rattle.rows.specs.Refusing.{refusing}

-- "To sort a supplier's delivery I only need the version string, without its quotes, and implementation name." By their tokens: a string's token
-- begins and ends with a quote, a name is its token.
unfoldable pub version_and_name : Token → Token → Answer
version_and_name v n = heading_at (v.place + 1) (v.length - 2) n.place n.length

-- "Answer from the tokens through the brace after the implementation's name.": these tokens, as a form.
abbrev pub front_form : Form
front_form = version ▸ the IMPLEMENTATION · name · sg lbrace · ∎

-- The string, the name and the brace among them.
unfoldable pub string_in : Trees ◌⟶◌ front_form → Token
string_in (node version_is (leaf o _ (leaf e _ (leaf v _ ts))) us) = v

unfoldable pub name_in : Trees ◌⟶◌ front_form → Token
name_in (node p ts (leaf i _ (leaf n _ us))) = n

unfoldable pub brace_in : Trees ◌⟶◌ front_form → Token
brace_in (node p ts (leaf i _ (leaf n _ (leaf b _ us)))) = b

-- The answer from them.
abbrev pub answer_in : Trees ◌⟶◌ front_form → Answer
answer_in t = version_and_name (string_in t) (name_in t)

-- A list of tokens begins so: there is "that brace", and the grammar admits each token through it.
pub record Front (l : List Token) : Type 0 where
  pub tree : Trees ◌⟶◌ front_form
  pub behind : List Token
  pub split : l ≡ tokens tree ++ behind

-- THE ANSWER to a text.
pub data Heads (s : List ℕ) : Answer → Type 0 where
  -- "Refusal 2 comes first."
  too_long : 65535 < length s → Heads s (refusing 2 0)
  -- "For a text that derives from the grammar the answer equals its version and name", and "otherwise the answer": there is that brace, so that what
  -- the grammar stage refuses lies after it (specs/Promises: `later`)
  headed : length s ≤ 65535 → (f : Front (tokens-of s)) → Heads s (answer_in f.tree)
  -- "if the full reading's refusal 3, 4 or 5 lies at or before that brace, or there is none, that same number and place"
  refused : length s ≤ 65535 → (Front (tokens-of s) → ⊥) → (a : StageAnswer) → (a ≡ Ok tt → ⊥) → Answers s a → Heads s (refusing (number_of a) (place_of a))

-- As a definition that computes --------------------------------------------------------------------------------------------------------------

-- The terminals of the front, where D is nothing, and where it is `:` string.
abbrev pub plain : List Terminal
plain = the OIL-VERSION ∷ sg equals ∷ string ∷ sg semicolon ∷ the IMPLEMENTATION ∷ name ∷ sg lbrace ∷ []

abbrev pub described : List Terminal
described = the OIL-VERSION ∷ sg equals ∷ string ∷ sg colon ∷ string ∷ sg semicolon ∷ the IMPLEMENTATION ∷ name ∷ sg lbrace ∷ []

-- A list of tokens begins with such terminals.
unfoldable pub begins_with : List Terminal → List Token → Bool
begins_with [] l = true
begins_with (a ∷ ks) [] = false
begins_with (a ∷ ks) (t ∷ l) = both (matches a t.class) (begins_with ks l)

-- Token n of a list, from 0.
abbrev pub nth : List Token → ℕ → Token
nth l n = get_or l n (record { class = other; place = 0; length = 0 })

unfoldable pub answer_by : Bool → Bool → List Token → (Unit {0} → StageAnswer) → Answer
answer_by true b l a = version_and_name (nth l 2) (nth l 5)
answer_by false true l a = version_and_name (nth l 2) (nth l 7)
answer_by false false l a = let r = a tt in refusing (number_of r) (place_of r)

unfoldable pub computed : List ℕ → Answer
computed s =
    choose (ltb 65535 (length s)) (λ _. refusing 2 0)
    (λ _. let l = lex_from s 0 in let ts = tokens_in l in answer_by (begins_with plain ts) (begins_with described ts) ts (λ _. run 0 (paper file ▸ ∎) (stream_of l)))
