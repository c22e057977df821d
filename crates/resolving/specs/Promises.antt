-- What the functions that resolve values promise, for every file whose text and rows these are. Assumes nothing.
use Rattle.std.specs.Prelude.{◌≡◌, List, ◌++◌, Bool, true, ℕ, suc, ◌+◌, ◌*◌, ◌≤◌, ◌<◌, length, get_or}
use Rattle.std.proofs.lemmas.List.Edits.{sets}
use Rattle.token.specs.Find.{bit}
use Rattle.meaning.specs.Syntax.{Word, Definitions, Defined, Statement, Statements, done, state, File, statements_in}
use Rattle.meaning.specs.Words.{alike}
use Rattle.meaning.specs.Scopes.{sort_of}
use Rattle.meaning.specs.Judging.{taken}
use Rattle.meaning.specs.Resolving.{Resolved, end, resolved, Owner, valued, named, take_value, entries, default_entry, resolve, resolve_under, value_row, all_values}
use Rattle.meaning.specs.Cells.{value_cells}
use Rattle.meaning.specs.Joining.{joins}
use Rattle.meaning.specs.Standing.{select, standing}
use Rattle.layout.specs.Kept.{Entry, spec_entries, code_of}
use Rattle.blocks.specs.Blocks.{BlockAt}
use Rattle.scopes.specs.Situations.{HasDefinition, Stands, ReadAt, ScopeAt}
use Rattle.scopes.specs.Given.{Tables, Given, Attribute, Below, Places, entry_rows}
use Rattle.scopes.specs.declared.Sizes.{Sizes}
use Rattle.resolving.specs.declared.Owner.{Owner as OwnerOf}
use Rattle.resolving.specs.declared.Held.{Held}
use Rattle.resolving.specs.Written.{Wrote, WroteAll, Owns, Holds}

-- Values -----------------------------------------------------------------------------------------------------------------------------------

-- The word t is what stands at a place, with a length and a code.
pub record WordAt (s : List ℕ) (t : Word) (at len code : ℕ) : Type 0 where
  pub read : ReadAt s t at len
  pub place : t.place ≡ at
  pub length : t.length ≡ len
  pub coded : code_of t ≡ code

-- The value of a name, for the attribute of row j.
abbrev pub NamedValue : (s d e o : List ℕ) (z : Sizes) (j at len : ℕ) → Held → Type 0
NamedValue s d e o z j at len r =
    (f : File) (x : Defined) (t : Word) → Tables s d e o z f → Attribute f j x → ReadAt s t at len
    → Holds r (named x.definition.type f.objects x.values t)

-- The value of a word, for the attribute of row j.
abbrev pub ValueOf : (s d e o : List ℕ) (z : Sizes) (j at len code : ℕ) → Held → Type 0
ValueOf s d e o z j at len code r =
    (f : File) (x : Defined) (t : Word) → Tables s d e o z f → Attribute f j x → WordAt s t at len code
    → Holds r (valued (sort_of t.class) f.objects x.definition x.values t)

-- The row n of a value of the attribute of row j.
abbrev pub PutValue : (s d e o v : List ℕ) (z : Sizes) (n : ℕ) (w : OwnerOf) (j stated at len code : ℕ) (v' : List ℕ) → Type 0
PutValue s d e o v z n w j stated at len code v' =
    (f : File) (x : Defined) (t : Word) (b : Bool) (ow : Owner) → Tables s d e o z f → Attribute f j x → WordAt s t at len code
    → Owns w ow → stated ≡ bit b
    → v' ≡ sets v (n * 9) (value_cells (value_row (take_value b f.objects x.definition x.values t) ow))

-- Resolved values --------------------------------------------------------------------------------------------------------------------------

-- What is under the value t of the attribute x, where the statements us are.
unfoldable pub inner_of : File → Defined → Word → Statements → Resolved
inner_of f x t us = resolve_under x.values f.objects t us

-- A value of the attribute x, stated or not, with what is under it.
unfoldable pub one_entry : Bool → File → Defined → Word → Statements → Resolved
one_entry b f x t us = resolved (take_value b f.objects x.definition x.values t) (inner_of f x t us) end

-- The values that the statements ss state of the attribute x.
unfoldable pub stated_entries : File → Defined → Statements → Resolved
stated_entries f x ss = entries ss f.objects x.definition x.values (λ t us. inner_of f x t us) end

-- The value that the attribute x takes where it is not stated, or none.
unfoldable pub default_entries : File → Defined → Resolved
default_entries f x = default_entry (taken x.definition.default) f.objects x.definition x.values (λ t us. inner_of f x t us) end

-- The table of values has 2,048 rows, and the next row is n, or n is 2,049 where there are more than fit.
pub record Room (v : List ℕ) (n : ℕ) : Type 0 where
  pub room : length v ≡ 18432
  pub low : n ≤ 2049

-- A value of the attribute of row j, and what is under it.
abbrev pub Enters : (s d e o st v : List ℕ) (z : Sizes) (j stated at len code from till : ℕ) (w : OwnerOf) (n : ℕ) (v' : List ℕ) (r : ℕ) → Type 0
Enters s d e o st v z j stated at len code from till w n v' r =
    (f : File) (x : Defined) (t : Word) (us : Statements) (b : Bool) (ow : Owner) → Given s d e o st z f → Attribute f j x → WordAt s t at len code
    → BlockAt s st from till us → Owns w ow → stated ≡ bit b → Room v n → Wrote v n (one_entry b f x t us) ow v' r

-- The value of the statement of row k, which states the attribute of row j; the statements in its braces are the rows from `inner` up to `next`.
abbrev pub EntersStated : (s d e o st v : List ℕ) (z : Sizes) (j k inner next : ℕ) (w : OwnerOf) (n : ℕ) (v' : List ℕ) (r : ℕ) → Type 0
EntersStated s d e o st v z j k inner next w n v' r =
    (f : File) (x : Defined) (y : Statement) (inside rest : Statements) (till : ℕ) (ow : Owner) → Given s d e o st z f → Attribute f j x
    → BlockAt s st k till (state y inside rest) → alike y.name x.definition.name ≡ true → inner ≡ suc k → next ≡ suc k + statements_in inside → Owns w ow → Room v n
    → Wrote v n (stated_entries f x (state y inside done)) ow v' r

-- The values that a block states of the attribute of row j.
abbrev pub ResolvesStated : (s d e o st v : List ℕ) (z : Sizes) (j from till : ℕ) (w : OwnerOf) (n : ℕ) (v' : List ℕ) (r : ℕ) → Type 0
ResolvesStated s d e o st v z j from till w n v' r =
    (f : File) (x : Defined) (ss : Statements) (ow : Owner) → Given s d e o st z f → Attribute f j x → BlockAt s st from till ss → Owns w ow → Room v n
    → Wrote v n (stated_entries f x ss) ow v' r

-- The value that the attribute of row j takes where it is not stated.
abbrev pub ResolvesDefault : (s d e o st v : List ℕ) (z : Sizes) (j : ℕ) (w : OwnerOf) (n : ℕ) (v' : List ℕ) (r : ℕ) → Type 0
ResolvesDefault s d e o st v z j w n v' r =
    (f : File) (x : Defined) (ow : Owner) → Given s d e o st z f → Attribute f j x → Owns w ow → Room v n → Wrote v n (default_entries f x) ow v' r

-- A loop over the rows at row j: of the scope ds of the word u the definitions `left` are those from row j on.
pub record Left (f : File) (u : Word) (ds : Definitions) (j : ℕ) (left : Definitions) : Type 0 where
  pub front : List Entry
  pub rest : List Entry
  pub whole : spec_entries f.specs ≡ front ++ rest
  pub place : length front ≡ j
  pub selected : select u.place j (entry_rows rest) ≡ standing u left
  pub stands : Stands f.specs u ds
  pub among : (x : Defined) → HasDefinition left x → HasDefinition ds x

-- What row j contributes to a scope, of which the definitions `left` are those from row j on: its values, if it is the first of them, or nothing.
-- `after` are those from the next row on.
pub record Turn (f : File) (u : Word) (ds : Definitions) (ss : Statements) (j : ℕ) (left : Definitions) (v : List ℕ) (n : ℕ) (ow : Owner) (v' : List ℕ) (r : ℕ) : Type 0 where
  pub after : Definitions
  pub made : Resolved
  pub goes_on : Left f u ds (suc j) after
  pub wrote : Wrote v n made ow v' r
  pub whole : resolve left f.objects ss ≡ joins made (resolve after f.objects ss)

-- The values of the attribute of row j, if it stands under the word at key.
abbrev pub ResolvesRow : (s d e o st v : List ℕ) (z : Sizes) (j key from till : ℕ) (w : OwnerOf) (n : ℕ) (v' : List ℕ) (r : ℕ) → Type 0
ResolvesRow s d e o st v z j key from till w n v' r =
    (f : File) (u : Word) (ds left : Definitions) (ss : Statements) (ow : Owner) → Given s d e o st z f → u.place ≡ key → Left f u ds j left → j < z.definitions
    → BlockAt s st from till ss → Owns w ow → Room v n → Turn f u ds ss j left v n ow v' r

-- So it is where it does.
pub record ResolvesUnder (s d e o st v : List ℕ) (z : Sizes) (j key from till : ℕ) (w : OwnerOf) (n : ℕ) (v' : List ℕ) (r : ℕ) : Type 0 where
  pub resolves : get_or d (j * 19 + 0) 0 ≡ key → ResolvesRow s d e o st v z j key from till w n v' r

-- The values of the scope of the word at key, whose rows are below a limit.
abbrev pub Resolves : (s d e o st v : List ℕ) (z : Sizes) (limit key from till : ℕ) (w : OwnerOf) (n : ℕ) (v' : List ℕ) (r : ℕ) → Type 0
Resolves s d e o st v z limit key from till w n v' r =
    (f : File) (ds : Definitions) (ss : Statements) (ow : Owner) → Given s d e o st z f → ScopeAt f key ds → Below limit ds → limit ≤ z.definitions
    → BlockAt s st from till ss → Owns w ow → Room v n → Wrote v n (resolve ds f.objects ss) ow v' r

-- The values of all objects.
abbrev pub ResolvesAll : (s d e o st v : List ℕ) (z : Sizes) (ps : List ℕ) (v' : List ℕ) (r : ℕ) → Type 0
ResolvesAll s d e o st v z ps v' r =
    (f : File) → Given s d e o st z f → Places f ps → length v ≡ 18432 → WroteAll v (all_values f f.objects) v' r
