-- The kinds that an implementation specifies, with the places of their words, and its rows. Assumes nothing.
use Rattle.std.specs.Prelude.{◌≡◌, List, [], ◌∷◌, ℕ, ◌-◌, get_or, set, eqb, Option, Some}
use Rattle.std.specs.Option.{option_or}
use Rattle.filling.specs.Tables.{Table}
use Rattle.token.specs.Find.{pick}
use Rattle.grammar.specs.declared.Look.{Look}
use Rattle.meaning.specs.Syntax.{Spec}
use Rattle.meaning.specs.Kinds.{kind_number}
use Rattle.meaning.specs.Actions.{Implementation}
use Rattle.layout.specs.Kept.{spec_entries, spec_choices, definition_cells, choice_cells, map_cells}
use Rattle.filling.specs.Fills.{Seen}
use Rattle.definitions.specs.Rows.{Done, Fill, rows_of, choice_rows}
use Rattle.definitions.specs.Parts.{Spanned}

-- What is noted of kinds: 1 for each that has come, the place of its first word; the place of the first word that came again, if one has.
pub record Noted : Type 0 where
  pub marks : List ℕ
  pub places : List ℕ
  pub again : Option ℕ

abbrev pub placed : List ℕ → ℕ → ℕ → ℕ → List ℕ
placed places mark k p = pick (eqb mark 0) (set places k p) places

abbrev pub again_after : ℕ → Option ℕ → ℕ → Option ℕ
again_after mark again p = pick (eqb mark 0) again (option_or again (Some p))

-- One more word of the kind with the number k, at p.
unfoldable pub note : Noted → ℕ → ℕ → Noted
note x k p =
    record {
      marks = set x.marks k 1;
      places = placed x.places (get_or x.marks k 0) k p;
      again = again_after (get_or x.marks k 0) x.again p;
    }

unfoldable pub note_all : Noted → List (ℕ × ℕ) → Noted
note_all x [] = x
note_all x (h ∷ hs) = note_all (note x h.0 h.1) hs

-- The kind and the place of the word of each spec.
unfoldable pub heads : List Spec → List (ℕ × ℕ)
heads [] = []
heads (x ∷ xs) = (kind_number x.kind, x.word.place) ∷ heads xs

-- What is done: kinds are noted, rows are put.
abbrev pub All : Type 0
All = List (ℕ × ℕ) × Done

abbrev pub FillAll : Noted × (Table × Table) → All → Noted × (Table × Table) → Type 0
FillAll x w y = (y.0 ≡ note_all x.0 w.0) × Fill x.1 w.1 y.1

-- The rows are those of a spec whose kind's word is seen at a, and of specs.
unfoldable pub SpecRows : List ℕ → Look → Done → (ℕ → ℕ → Spec) → Type 0
SpecRows s a w m =
    (n e : ℕ) → Seen s a (m n e).word × (kind_number (m n e).kind ≡ a.code - 9) × (rows_of (m n e).definitions (m n e).word 0 ≡ w.0)
    × (choice_rows (m n e).definitions ≡ w.1)

abbrev pub SpecsAre : All → List Spec → Type 0
SpecsAre w xs =
    (heads xs ≡ w.0) × (map_cells definition_cells (spec_entries xs) ≡ w.1.0) × (map_cells choice_cells (spec_choices xs) ≡ w.1.1)

unfoldable pub AllRows : All → (ℕ → ℕ → List Spec) → Type 0
AllRows w m = (n e : ℕ) → SpecsAre w (m n e)

-- The implementation stands at p, with n bytes.
unfoldable pub ImplementationRows : ℕ → ℕ → All → Implementation → Type 0
ImplementationRows p n w m = Spanned m.span p n × SpecsAre w m.specs
