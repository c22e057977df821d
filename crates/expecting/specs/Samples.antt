-- How the call asks the stage: the text before a place, a line feed, and a token of each terminal. This is no rule of document 01: only the
-- contracts inside the code speak of it, and no public contract does. Assumes nothing.
use Rattle.std.specs.Prelude.{◌≡◌, List, [], ◌∷◌, ◌++◌, Bool, true, false, ◌↔◌, ℕ, ◌+◌, ◌≤◌, ◌<◌, length, get_or, take}
use Rattle.token.specs.Words.{bytes_of}
use Rattle.grammar.specs.Grammar.{Token, Begins}
use Rattle.grammar.specs.Terminals.{tokens}
use Rattle.grammar.specs.Stage.{Divides, Shallow}

-- a token of each terminal in the order of the flags, and none, each in sixteen bytes
abbrev pub samples : List (List ℕ)
samples =
    bytes_of "x               " ∷ bytes_of "TASK            " ∷ bytes_of "TASK_TYPE       " ∷ bytes_of "UINT32          "
    ∷ bytes_of "OIL_VERSION     " ∷ bytes_of "IMPLEMENTATION  " ∷ bytes_of "CPU             " ∷ bytes_of "STRING          "
    ∷ bytes_of "BOOLEAN         " ∷ bytes_of "ENUM            " ∷ bytes_of "FLOAT           "
    ∷ bytes_of "1               " ∷ bytes_of "\"\"              " ∷ bytes_of "1.0             "
    ∷ bytes_of "TRUE            " ∷ bytes_of "FALSE           " ∷ bytes_of "AUTO            " ∷ bytes_of "NO_DEFAULT      " ∷ bytes_of "WITH_AUTO       "
    ∷ bytes_of "{               " ∷ bytes_of "}               " ∷ bytes_of "[               " ∷ bytes_of "]               "
    ∷ bytes_of "=               " ∷ bytes_of ";               " ∷ bytes_of ":               " ∷ bytes_of ",               " ∷ bytes_of "..              "
    ∷ bytes_of "                " ∷ []

unfoldable pub sample_of : ℕ → List ℕ
sample_of i = get_or samples i []

-- the bytes of the text s before p, a line feed, and the sample i
unfoldable pub asking : List ℕ → ℕ → ℕ → List ℕ
unfolding sample_of
asking s p i = take p s ++ (10 ∷ sample_of i)

-- There is room for it, of n bytes.
abbrev pub Room : List ℕ → ℕ → ℕ → ℕ → Type 0
Room s p i n = (p ≤ length s) × (p + 17 ≤ n) × (i < 29)

-- Of a text whose last token t stands at p: where the tokens before it begin a list that the grammar derives, they do so with t.
pub record AdmitsLast (s : List ℕ) (p : ℕ) (r : Bool) : Type 0 where
  pub exactly : (l : List Token) (t : Token) → Divides s → tokens s ≡ l ++ (t ∷ []) → t.place ≡ p → Shallow l → Begins l → (r ≡ true) ↔ Begins (l ++ (t ∷ []))

-- r tells whether the text goes on with the sample i; not where the sample may be a name's and a name goes on, for then it goes on as a name.
pub data Asks (s : List ℕ) (p i : ℕ) (named : Bool) : Bool → Type 0 where
  as_name : named ≡ true → i < 11 → Asks s p i named false
  as_itself : {r : Bool} → (named ≡ true → i < 11 → ⊥) → AdmitsLast (asking s p i) (p + 1) r → Asks s p i named r
