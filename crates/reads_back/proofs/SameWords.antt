-- Words with the same bytes are found alike. Assumes nothing.
use mathlib.Core.Path.{◌≡◌, refl, sym, ◌∙◌, ap, ap₂}
use mathlib.Core.List.{List, [], ◌∷◌, ◌++◌}
use mathlib.Core.Bool.{Bool, true, false, false≢true}
use Rattle.token.specs.Find.{either}
use Rattle.token.specs.Words.{same}
use Rattle.token.proofs.Bytes.{neither_first, neither_second, not_true}
use Rattle.token.proofs.Codes.{same_self, same_equal}
use Rattle.meaning.specs.Syntax.{Word, Definition}
use Rattle.meaning.specs.Words.{choose, alike, among}
use Rattle.meaning.specs.Defining.{defined_in}

-- Booleans ---------------------------------------------------------------------------------------------------------------------------------

-- Two tests that do not hold.
pub neither : {a b : Bool} → a ≡ false → b ≡ false → either a b ≡ false
neither p q = ap₂ either p q

-- What holds of either branch holds of the one that is taken.
pub by_choose : {A : Type 0} (P : A → Type 0) (b : Bool) (f g : Unit {0} → A) → (b ≡ true → P (f tt)) → (b ≡ false → P (g tt)) → P (choose b f g)
unfolding choose
by_choose P true f g h k = h refl
by_choose P false f g h k = k refl

-- Bytes ------------------------------------------------------------------------------------------------------------------------------------

-- Words that are alike have the same bytes,
pub alike_bytes : (t u : Word) → alike t u ≡ true → t.bytes ≡ u.bytes
unfolding alike
alike_bytes t u e = same_equal t.bytes u.bytes e

-- and words with the same bytes are alike.
pub bytes_alike : (t u : Word) → t.bytes ≡ u.bytes → alike t u ≡ true
unfolding alike
bytes_alike t u e = ap (same t.bytes) (sym e) ∙ same_self t.bytes

-- Words that are not alike are not so the other way round.
pub alike_turned : (t u : Word) → alike t u ≡ false → alike u t ≡ false
alike_turned t u e = not_true (alike u t) (λ h. false≢true (sym e ∙ bytes_alike t u (sym (alike_bytes u t h))))

-- Lists ------------------------------------------------------------------------------------------------------------------------------------

-- A word is among two lists if it is among one of them.
pub among_append : (t : Word) (l m : List Word) → among t (l ++ m) ≡ either (among t l) (among t m)
unfolding among
among_append t [] m = refl
among_append t (u ∷ l) m = go (alike t u) (among_append t l m)
  where
    go : (b : Bool) → among t (l ++ m) ≡ either (among t l) (among t m) → either b (among t (l ++ m)) ≡ either (either b (among t l)) (among t m)
    go true e = refl
    go false e = e

-- A name is defined in two lists if it is defined in one of them.
pub defined_append : (t : Word) (l m : List Definition) → defined_in t (l ++ m) ≡ either (defined_in t l) (defined_in t m)
unfolding defined_in
defined_append t [] m = refl
defined_append t (d ∷ l) m = go (alike d.name t) (defined_append t l m)
  where
    go : (b : Bool) → defined_in t (l ++ m) ≡ either (defined_in t l) (defined_in t m) → either b (defined_in t (l ++ m)) ≡ either (either b (defined_in t l)) (defined_in t m)
    go true e = refl
    go false e = e

-- A word not defined in a list and one more.
pub defined_before : (t : Word) (l : List Definition) (d : Definition) → defined_in t (l ++ (d ∷ [])) ≡ false → defined_in t l ≡ false
defined_before t l d e = neither_first (defined_in t l) (defined_in t (d ∷ [])) (sym (defined_append t l (d ∷ [])) ∙ e)

-- It is not the name of the last.
pub defined_last : (t : Word) (l : List Definition) (d : Definition) → defined_in t (l ++ (d ∷ [])) ≡ false → alike d.name t ≡ false
unfolding defined_in
defined_last t l d e =
    neither_first (alike d.name t) false (neither_second (defined_in t l) (defined_in t (d ∷ [])) (sym (defined_append t l (d ∷ [])) ∙ e))

-- What is defined is so under each word of its bytes.
pub defined_bytes : (t u : Word) (l : List Definition) → t.bytes ≡ u.bytes → defined_in t l ≡ defined_in u l
unfolding defined_in alike
defined_bytes t u [] e = refl
defined_bytes t u (d ∷ l) e = ap₂ either (ap (same d.name.bytes) e) (defined_bytes t u l e)

-- What is among a list is so under each word of its bytes.
pub among_bytes : (t u : Word) (l : List Word) → t.bytes ≡ u.bytes → among t l ≡ among u l
unfolding among alike
among_bytes t u [] e = refl
among_bytes t u (w ∷ l) e = ap₂ either (ap (λ b. same b w.bytes) e) (among_bytes t u l e)

-- What is among the first list is among both,
pub among_first : (u : Word) (l m : List Word) → among u l ≡ true → among u (l ++ m) ≡ true
among_first u l m e = among_append u l m ∙ ap (λ b. either b (among u m)) e

-- and so is what is among the second.
pub among_behind : (u : Word) (l m : List Word) → among u m ≡ true → among u (l ++ m) ≡ true
among_behind u l m e = among_append u l m ∙ go (among u l)
  where
    go : (b : Bool) → either b (among u m) ≡ true
    go true = refl
    go false = e

-- Names stated in a scope ------------------------------------------------------------------------------------------------------------------

-- The words l have only names that are defined in `before`.
abbrev pub Stated : List Definition → List Word → Type 0
Stated before l = (u : Word) → defined_in u before ≡ false → among u l ≡ false

-- No word has none.
pub stated_none : (before : List Definition) → Stated before []
unfolding among
stated_none before u e = refl

-- One definition more.
pub stated_more : (before : List Definition) (d : Definition) (l : List Word) → Stated before l → Stated (before ++ (d ∷ [])) l
stated_more before d l h u e = h u (defined_before u before d e)

-- One word more, with the name of the last definition.
pub stated_one : (before : List Definition) (d : Definition) (l : List Word) (t : Word) → t.bytes ≡ d.name.bytes
    → Stated (before ++ (d ∷ [])) l → Stated (before ++ (d ∷ [])) (l ++ (t ∷ []))
unfolding among
stated_one before d l t q h u e =
    among_append u l (t ∷ [])
    ∙ neither (h u e) (neither (not_true (alike u t)
    (λ i. false≢true (sym (defined_last u before d e) ∙ bytes_alike d.name u (sym (alike_bytes u t i ∙ q))))) refl)
