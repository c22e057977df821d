-- A main text that includes nothing, since no `#` stands in it. Assumes nothing.
use Rattle.std.specs.Prelude.{ℕ, List, [], ◌∷◌, Bool, true, false, not, length, eqb}
use Rattle.token.specs.Find.{pick, both, either}
use Rattle.sources.specs.Texts.{told_well}
use Rattle.sources.specs.Expanding.{main_text, expansion_of}
use Rattle.sources.specs.declared.Expansion.{Expansion}

-- the byte c stands in a text
unfoldable pub holds : ℕ → List ℕ → Bool
holds c [] = false
holds c (x ∷ s) = either (eqb x c) (holds c s)

-- the texts of the buffer b with lengths l are lent as they have to be, and no `#` stands in the main text
unfoldable pub is_plain : List ℕ → List ℕ → Bool
is_plain b l = both (told_well b l) (not (holds 35 (main_text b l)))

-- the answer of the expansion for a reader: no token of such a main text is looked at, and 3 is the only fault that it can have
unfoldable pub expansion_to_read : List ℕ → List ℕ → Expansion
expansion_to_read b l = pick (is_plain b l) (record { number = 3; place = 0; length = length (main_text b l) }) (expansion_of b l)
