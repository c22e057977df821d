-- Document 02, Q-10: what an include line is, as a line: "a line holding only `#include` and a file in quotes or angle brackets, spaces, tabs, CR and
-- comments wholly on it aside". `named` (crates/sources/specs/Lines.antt) goes over the places of a line; it finds the name exactly where a line is
-- this (proofs/Naming, `include_lines`). A line is the list of its bytes, without its LF.
-- Assumes nothing.
use Rattle.std.specs.Prelude.{◌≡◌, List, [], ◌∷◌, ◌++◌, ℕ, ◌+◌, length, Some}
use Rattle.token.specs.Words.{bytes_of}
use Rattle.sources.specs.Lines.{named}

-- "spaces, tabs, CR"
pub data Blank : ℕ → Type 0 where
  space : Blank 32
  tab : Blank 9
  carriage_return : Blank 13

-- no `*/` stands in c
abbrev pub NoClose : List ℕ → Type 0
NoClose c = (x y : List ℕ) → c ≡ x ++ (42 ∷ 47 ∷ y) → ⊥

-- what is set aside: blanks and comments `/* */`
pub data Aside : List ℕ → Type 0 where
  nothing : Aside []
  blank : {b : ℕ} {l : List ℕ} → Blank b → Aside l → Aside (b ∷ l)
  comment : {c l : List ℕ} → NoClose c → Aside l → Aside (47 ∷ 42 ∷ (c ++ (42 ∷ 47 ∷ l)))

-- at the end of the line a comment `//` may follow
pub data AsideEnd : List ℕ → Type 0 where
  no_more : {l : List ℕ} → Aside l → AsideEnd l
  line_comment : {l : List ℕ} → Aside l → (c : List ℕ) → AsideEnd (l ++ (47 ∷ 47 ∷ c))

-- "in quotes or angle brackets": the byte before the name, and the byte after it
pub data Quotes : ℕ → ℕ → Type 0 where
  quotes : Quotes 34 34
  brackets : Quotes 60 62

-- the byte b does not stand in c
abbrev pub Without : ℕ → List ℕ → Type 0
Without b c = (x y : List ℕ) → c ≡ x ++ (b ∷ y) → ⊥

-- A line that includes the file of a name.
pub record IncludeLine (line name : List ℕ) : Type 0 where
  pub before : List ℕ
  pub between : List ℕ
  pub behind : List ℕ
  pub opens : ℕ
  pub closes : ℕ
  pub whole : line ≡ before ++ (bytes_of "#include" ++ (between ++ (opens ∷ (name ++ (closes ∷ behind)))))
  pub before_aside : Aside before
  pub between_aside : Aside between
  pub behind_aside : AsideEnd behind
  pub quoted : Quotes opens closes
  pub closed : Without closes name

-- where the name begins
unfoldable pub name_place : {line name : List ℕ} → IncludeLine line name → ℕ
name_place i = length i.before + (8 + (length i.between + 1))

-- The line with a `#` at h is one, with its name from f to t.
pub record Includes (line : List ℕ) (h f t : ℕ) : Type 0 where
  pub name : List ℕ
  pub is : IncludeLine line name
  pub hash : h ≡ length is.before
  pub from : f ≡ name_place is
  pub to : t ≡ name_place is + length name

-- THE STATEMENT: `named` finds a name on a line with a `#` at h exactly where it is an include line.
pub record NamedExactly (line : List ℕ) : Type 0 where
  pub found : (h f t : ℕ) → named line h ≡ Some (f, t) → Includes line h f t
  pub every : (h f t : ℕ) → Includes line h f t → named line h ≡ Some (f, t)

abbrev pub IncludeLines : Type 0
IncludeLines = (line : List ℕ) → NamedExactly line
