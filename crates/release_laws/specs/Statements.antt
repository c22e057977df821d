-- What is promised of the comparison of two accepted texts (document 02, Q-8). Assumes nothing.
use Rattle.std.specs.Prelude.{◌≡◌, List, [], ◌∷◌, ◌++◌, Bool, ℕ, ◌≤◌, length}
use Rattle.meaning.specs.Syntax.{File}
use Rattle.meaning.specs.Normal.{normal}
use Rattle.meaning.specs.Reading.{parse}
use Rattle.comparing.specs.Lists.{count}
use Rattle.comparing.specs.Contents.{Content, contents}
use Rattle.comparing.specs.Differences.{Difference, swap, differences, of_contents, release, release_of}

-- The text s is accepted, and f is its file.
abbrev pub Accepted : List ℕ → File → Type 0
Accepted s f = release_of (parse s) ≡ release f

-- "Swapping the texts swaps the sides in the whole set": whatever is asked of a difference, as many have it when t comes first as have it with the
-- sides swapped when s comes first.
abbrev pub SidesSwap : Type 0
SidesSwap = (s t : List ℕ) (f g : File) → Accepted s f → Accepted t g → (p : Difference → Bool) → count p (differences g f) ≡ count (λ d. p (swap d)) (differences f g)

-- So the total is the same.
abbrev pub TotalSame : Type 0
TotalSame = (s t : List ℕ) (f g : File) → Accepted s f → Accepted t g → length (differences g f) ≡ length (differences f g)

-- A text compared with itself has no difference.
abbrev pub NoneWithItself : Type 0
NoneWithItself = (s : List ℕ) (f : File) → Accepted s f → differences f f ≡ []

-- And compared with its own normal text: that is accepted, and there is no difference.
pub record NormalSame (f : File) (n : List ℕ) : Type 0 where
  pub file : File
  pub accepted : Accepted n file
  pub none : differences f file ≡ []

abbrev pub NoneWithNormal : Type 0
NoneWithNormal = (s : List ℕ) (f : File) → Accepted s f → (n : List ℕ) → n ≡ normal s f → length n ≤ 65535 → NormalSame f n

-- "nor does object order" make a difference: two neighbouring objects of the first text exchanged, as many differences pass any test.
abbrev pub FirstOrder : Type 0
FirstOrder =
    (p : Difference → Bool) (before : List Content) (y z : Content) (behind xs : List Content)
    → count p (of_contents (before ++ (y ∷ z ∷ behind)) xs) ≡ count p (of_contents (before ++ (z ∷ y ∷ behind)) xs)

-- And of the second text, where both are accepted.
abbrev pub SecondOrder : Type 0
SecondOrder =
    (s t : List ℕ) (f g : File) → Accepted s f → Accepted t g → (p : Difference → Bool) (before : List Content) (y z : Content) (behind : List Content) → contents g ≡ before ++ (y ∷ z ∷ behind)
    → count p (differences f g) ≡ count p (of_contents (contents f) (before ++ (z ∷ y ∷ behind)))
