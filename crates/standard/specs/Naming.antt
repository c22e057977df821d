-- Names that stand in another text, looked up in the kept rows. No part of the public contract. Assumes nothing.
use Rattle.std.specs.Prelude.{◌≡◌, List, Bool, ℕ, ◌+◌, ◌*◌, ◌≤◌, ◌<◌, length, get_or}
use Rattle.token.specs.Find.{pick, both}
use Rattle.token.specs.Words.{same}
use Rattle.token.specs.Tokens.{part_of}
use Rattle.rows.specs.Search.{has_key, find_from}
use Rattle.rows.specs.Found.{Found}
use Rattle.meaning.specs.Syntax.{Word, Definitions, Defined, File}
use Rattle.meaning.specs.Scopes.{find_definition, find_value}
use Rattle.layout.specs.Kept.{spec_entries, kept_definitions, kept_enumerators}
use Rattle.scopes.specs.Situations.{Situation, ScopeAt, RowOf, Reached}
use Rattle.scopes.specs.Promises.{row_found, place_found}
use Rattle.standard.specs.declared.naming.Columns.{Columns}

-- row i of a table stands under the word at key, and its name has the bytes b
unfoldable pub is_named_under : List ℕ → List ℕ → Columns → (key i : ℕ) → List ℕ → Bool
is_named_under s t c key i b = both (has_key t (i * c.width) c.under key) (same (part_of s (get_or t (i * c.width + c.name) 0) (get_or t (i * c.width + c.length) 0)) b)

-- The row of the definition with a name of the bytes b in the scope of the word at key.
abbrev pub FindsAttribute : List ℕ → List ℕ → (n key : ℕ) → List ℕ → Found → Type 0
FindsAttribute s d n key b r =
    (f : File) (ds : Definitions) (t : Word) → Situation s f → d ≡ kept_definitions f → n ≡ length (spec_entries f.specs) → n ≤ 513
    → ScopeAt f key ds → t.bytes ≡ b → r ≡ row_found (find_definition ds t)

-- enumerator i is of the list with the key, and has the bytes b
unfoldable pub is_choice : List ℕ → List ℕ → (key i : ℕ) → List ℕ → Bool
is_choice s e key i b = both (has_key e (i * 3) 0 key) (same (part_of s (get_or e (i * 3 + 1) 0) (get_or e (i * 3 + 2) 0)) b)

unfoldable pub find_choice : List ℕ → List ℕ → (n key : ℕ) → List ℕ → ℕ → Found
find_choice s e n key b i = find_from (λ j. is_choice s e key j b) n i

-- the place of TRUE or FALSE of the BOOLEAN of row j that has the bytes b; 0 for none
unfoldable pub truth_named : List ℕ → List ℕ → ℕ → List ℕ → ℕ
truth_named s d j b =
    pick (same (part_of s (get_or d (j * 19 + 14) 0) (get_or d (j * 19 + 15) 0)) b) (get_or d (j * 19 + 14) 0)
    (pick (same (part_of s (get_or d (j * 19 + 16) 0) (get_or d (j * 19 + 17) 0)) b) (get_or d (j * 19 + 16) 0) 0)

-- The place of the value word with the bytes b, of the list of the attribute of row j; 0 for none.
abbrev pub FindsValue : List ℕ → List ℕ → List ℕ → (m j : ℕ) → List ℕ → ℕ → Type 0
FindsValue s d e m j b r =
    (f : File) (x : Defined) (t : Word) → Situation s f → d ≡ kept_definitions f → e ≡ kept_enumerators f → RowOf f j x → j < 513
    → Reached f m x.values → t.bytes ≡ b → r ≡ place_found (find_value x.values t)
