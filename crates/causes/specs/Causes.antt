-- Which one a refusal is given for, by the rules. Assumes nothing.
use Rattle.std.specs.Prelude.{ℕ, ◌≤◌, ◌≡◌, Bool, List, [], ◌∷◌, ◌++◌, length, take, eqb}
use Rattle.std.proofs.Math.Option.{Option, none, some}
use Rattle.token.specs.Find.{pick}
use Rattle.meaning.specs.Syntax.{Word, Definition, Object, File}
use Rattle.meaning.specs.Words.{alike}
use Rattle.meaning.specs.Answers.{refused}
use Rattle.meaning.specs.Reading.{parsed, parse, reading}
use Rattle.layout.specs.Kept.{Entry, spec_entries}
use Rattle.defining_checks.specs.Listing.{under_of}

-- 24, "a name already used by an object of another kind", "at the later name" ---------------------------------------------------------------

-- The first of some parts that has the name t.
unfoldable pub first_named : Word → List Object → Option Object
first_named t [] = none
first_named t (y ∷ ys) = let r = first_named t ys in pick (alike y.name t) (some y) r

-- Its name's place, 0 for none.
unfoldable pub name_place : Option Object → ℕ
name_place none = 0
name_place (some y) = y.name.place

-- x's name stands at p.
unfoldable pub stands_at : ℕ → Object → Bool
stands_at p x = eqb x.name.place p

-- Of the part whose name stands at p, the place where the name stands first; before are the parts before these.
unfoldable pub named_first : ℕ → (before : List Object) → List Object → ℕ
named_first p before [] = 0
named_first p before (x ∷ xs) = let r = named_first p (before ++ (x ∷ [])) xs in pick (stands_at p x) (name_place (first_named x.name before)) r

-- Of a text that is refused with 24 at p, r is the place where that name stands first. Part 514 and those after it are not looked at: 11 stands at the
-- kind word of part 513, before its name.
abbrev pub TellsNamed : List ℕ → ℕ → ℕ → Type 0
TellsNamed s p r = length s ≤ 65535 → reading s ≡ refused 24 p → (f : File) → parse s ≡ parsed f → r ≡ named_first p [] (take 513 f.parts)

-- 8, "attribute in a scope .. a second time", at the name ---------------------------------------------------------------------------------------

-- The place of the first of some definitions that has the name t, 0 for none.
unfoldable pub first_defined : Word → List Definition → ℕ
first_defined t [] = 0
first_defined t (d ∷ ds) = let r = first_defined t ds in pick (alike d.name t) d.name.place r

-- The name of x stands at p.
unfoldable pub defined_at : ℕ → Entry → Bool
defined_at p x = eqb x.definition.name.place p

-- Of the definition whose name stands at p, the place of the first one before it in its scope that has its name; before are those before these, and
-- `under_of` has those of one scope: what 8 compares a name with.
unfoldable pub defined_first : ℕ → (before : List Entry) → List Entry → ℕ
defined_first p before [] = 0
defined_first p before (x ∷ xs) =
    let r = defined_first p (before ++ (x ∷ [])) xs in pick (defined_at p x) (first_defined x.definition.name (under_of x.under.place before)) r

-- Of a text that is refused with 8 at p, r is the place where that attribute is defined first in its scope; 0 where no attribute's name stands at p.
-- Definition 514 and those after it are not looked at: 7 stands at the name of definition 513.
abbrev pub TellsDefined : List ℕ → ℕ → ℕ → Type 0
TellsDefined s p r = length s ≤ 65535 → reading s ≡ refused 8 p → (f : File) → parse s ≡ parsed f → r ≡ defined_first p [] (take 513 (spec_entries f.specs))
