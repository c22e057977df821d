-- The rows that the walk of the implementation puts, by the meaning of what it reads. They hold places, lengths and codes, no numbers of rows:
-- so each is said for every numbering n, e of definitions and enumerators. Assumes nothing.
use Rattle.std.specs.Prelude.{◌≡◌, List, [], ◌∷◌, Bool, ℕ, ◌-◌}
use Rattle.std.proofs.Math.Option.{Option}
use Rattle.token.specs.Find.{bit}
use Rattle.grammar.specs.declared.Look.{Look}
use Rattle.meaning.specs.Syntax.{Word, span_or, Definitions, no_more, define, Defined}
use Rattle.meaning.specs.Actions.{Enumerator}
use Rattle.layout.specs.Kept.{default_code, entries, choices, definition_cells, choice_cells, map_cells}
use Rattle.filling.specs.Tables.{Wrote, Table}
use Rattle.filling.specs.Fills.{Seen}
use Rattle.definitions.specs.declared.Under.{Under}
use Rattle.definitions.specs.declared.Head.{Head}

abbrev pub Puts : ℕ → Table → List (List ℕ) → Table → Type 0
Puts c x w y = Wrote c x.0 x.1 w y.0 y.1

-- The tables of definitions and of enumerators; what is done are rows of each.
abbrev pub Done : Type 0
Done = List (List ℕ) × List (List ℕ)

abbrev pub Fill : Table × Table → Done → Table × Table → Type 0
Fill x w y = Puts 19 x.0 w.0 y.0 × Puts 3 x.1 w.1 y.1

-- The rows of definitions, and of their enumerators.
abbrev pub rows_of : Definitions → Word → ℕ → List (List ℕ)
rows_of ds u o = map_cells definition_cells (entries ds u o)

abbrev pub choice_rows : Definitions → List (List ℕ)
choice_rows ds = map_cells choice_cells (choices ds)

abbrev pub one : Defined → Definitions
one x = define x.definition x.values no_more

-- The word that definitions stand under.
abbrev pub Stands : Under → Word → Type 0
Stands x u = (u.place ≡ x.at) × (u.length ≡ x.len)

-- The cells of a definition whose type, range and list are told by h, with the name x, the list mark l and the default d.
unfoldable pub row_of : Under → Head → Word → Bool → Option Word → List ℕ
row_of u h x l d =
    u.at ∷ u.len ∷ x.place ∷ x.length ∷ h.word ∷ h.length ∷ bit l ∷ h.auto ∷ h.range ∷ h.extent ∷ (span_or d).place ∷ (span_or d).length ∷ h.code
    ∷ u.list ∷ h.key ∷ h.truth ∷ h.falsity ∷ h.width ∷ default_code d ∷ []

-- What is known of a definition after its type's word t, with a list of values: its first value word, and the length of TRUE and the word FALSE
-- where it has them.
abbrev pub list_head : Look → ℕ → ℕ → ℕ → ℕ → ℕ → ℕ → ℕ → Head
list_head t auto range extent key truth falsity width =
    record {
      word = t.at;
      length = t.next - t.at;
      code = t.code;
      auto = auto;
      range = range;
      extent = extent;
      key = key;
      truth = truth;
      falsity = falsity;
      width = width;
    }

-- Without one.
abbrev pub head_of : Look → ℕ → ℕ → ℕ → Head
head_of t auto range extent = list_head t auto range extent 0 0 0 0

-- The row is that of a definition.
unfoldable pub Named : Under → Head → List (List ℕ) → Word → Bool → Option Word → Type 0
unfolding row_of
Named u h w x l d = (row_of u h x l d ∷ []) ≡ w

-- The rows are those of definitions under a word.
unfoldable pub Rows : Under → Done → (ℕ → ℕ → Definitions) → Type 0
Rows x w m = (u : Word) → Stands x u → (n e : ℕ) → (rows_of (m n e) u x.list ≡ w.0) × (choice_rows (m n e) ≡ w.1)

-- The rows are those of an enumerator of the list k, whose word is seen at a.
unfoldable pub EnumeratorRows : List ℕ → Look → ℕ → Done → (ℕ → ℕ → Enumerator) → Type 0
EnumeratorRows s a k w m =
    (n e : ℕ) → Seen s a (m n e).word × (rows_of (m n e).under (m n e).word k ≡ w.0)
    × ((choice_cells (record { list = k; word = (m n e).word }) ∷ choice_rows (m n e).under) ≡ w.1)
