-- All that is made before the statements are judged. Assumes nothing.
use Rattle.std.specs.Prelude.{ℕ, ◌≤◌, ◌≡◌, length, replicate, List}
use Rattle.amounts.specs.Known.{Known}
use Rattle.lookups.specs.Names.{Named, owner_words}
use Rattle.lookups.specs.Owners.{Owners}
use Rattle.scopes.specs.declared.Sizes.{Sizes}

-- x has the names, and the words under which something must be stated; k has the marks of the rows and the ranges.
pub record Ready (s d e o st : List ℕ) (z : Sizes) (x k : List ℕ) : Type 0 where
  pub known : Known s d k
  pub named : Named s d e o st z x
  pub owners : Owners d k (owner_words x)

-- So it is before the ranges are noted; ms has the marks of the rows.
pub record MarksReady (s d e o st : List ℕ) (z : Sizes) (x ms : List ℕ) : Type 0 where
  pub few : z.definitions ≤ 512
  pub size : length ms ≡ 512
  pub named : Named s d e o st z x
  pub owners : Owners d ms (owner_words x)

-- There is room for ranges, and no row yet.
pub record Blank (k : List ℕ) : Type 0 where
  pub room : 3072 ≤ length k
  pub blank : k ≡ replicate (length k) 0

-- The room has as many cells as before.
pub record SameRoom (x y : List ℕ) : Type 0 where
  pub size : length y ≡ length x

-- What was blank is blank.
abbrev pub StaysBlank : List ℕ → List ℕ → Type 0
StaysBlank x y = (n : ℕ) → x ≡ replicate n 0 → y ≡ replicate n 0
