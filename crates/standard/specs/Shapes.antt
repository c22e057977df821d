-- Type, list mark and WITH_AUTO of a kept row, compared with those of a standard attribute. No part of the public contract. Assumes nothing.
use Rattle.std.specs.Prelude.{◌≡◌, List, Bool, not, ℕ, ◌<◌, eqb}
use Rattle.token.specs.Find.{bit, either}
use Rattle.meaning.specs.Syntax.{Defined, File}
use Rattle.meaning.specs.Cells.{type_code}
use Rattle.layout.specs.Kept.{kept_definitions}
use Rattle.scopes.specs.Situations.{Situation, RowOf}
use Rattle.standard.specs.Asking.{only_where, same_truth}

-- The first three points of `differs`, of the row j and the standard attribute w.
abbrev pub ShapeDiffers : List ℕ → (j c l a : ℕ) → Bool → Type 0
ShapeDiffers d j c l a r =
    (s : List ℕ) (f : File) (x w : Defined) → Situation s f → d ≡ kept_definitions f → RowOf f j x → j < 513
    → c ≡ type_code w.definition.type → l ≡ bit w.definition.list → a ≡ bit w.definition.auto
    → r ≡ either (not (eqb (type_code w.definition.type) (type_code x.definition.type)))
    (either (not (same_truth w.definition.list x.definition.list)) (only_where w.definition.auto x.definition.auto))
