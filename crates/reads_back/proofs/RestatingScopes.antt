-- Resolved values of a scope, as a text without faults has them. Assumes nothing.
use mathlib.Core.Path.{◌≡◌, refl, sym, ◌∙◌, ap}
use mathlib.Core.List.{List, [], ◌∷◌, ◌++◌}
use mathlib.Core.Bool.{Bool, true, false, false≢true}
use mathlib.Core.Option.{none, some}
use Rattle.grammar.specs.Grammar.{Kind}
use Rattle.token.specs.Find.{pick, is_there}
use Rattle.meaning.specs.Syntax.{Word, AttributeType, integer, string, boolean, enum, float, reference, Definition, Definitions, no_more, define, Values, no_value, Object}
use Rattle.meaning.specs.Scopes.{a_number, a_name, sort_of, under, find_definition, find_object, fits_number, fits}
use Rattle.meaning.specs.Defining.{defined_in}
use Rattle.meaning.specs.Judging.{taken}
use Rattle.meaning.specs.Resolving.{Taken, Resolved, end, resolved, take_value}
use Rattle.reads_back.proofs.WordingClasses.{is_number}
use Rattle.reads_back.proofs.SameWords.{defined_before, defined_last, defined_bytes, bytes_alike}

-- Definitions of a scope -------------------------------------------------------------------------------------------------------------------

-- The scope of which the definitions ds are the last, and those before them are `before`.
pub data Last (all : Definitions) : List Definition → Definitions → Type 0 where
  whole : Last all [] all
  behind : {before : List Definition} {d : Definition} {vs : Values} {ds : Definitions} → Last all before (define d vs ds) → Last all (before ++ (d ∷ [])) ds

-- A name that is not defined before is looked up in what is left.
find_last : {all : Definitions} {before : List Definition} {ds : Definitions} (t : Word) → Last all before ds → defined_in t before ≡ false → find_definition all t ≡ find_definition ds t
unfolding find_definition
find_last t whole e = refl
find_last {all} t (behind {before} {d} {vs} {ds} l) e =
    find_last t l (defined_before t before d e)
    ∙ ap (λ b. pick b (some (record { definition = d; values = vs })) (find_definition ds t)) (defined_last t before d e)

-- So a definition whose name is not defined before it is what its name finds.
pub find_this : {all : Definitions} {before : List Definition} {d : Definition} {vs : Values} {ds : Definitions} (t : Word) → Last all before (define d vs ds)
    → defined_in d.name before ≡ false → t.bytes ≡ d.name.bytes → find_definition all t ≡ some (record { definition = d; values = vs })
unfolding find_definition
find_this {all} {before} {d} {vs} {ds} t l e q =
    find_last t l (defined_bytes t d.name before q ∙ e)
    ∙ ap (λ b. pick b (some (record { definition = d; values = vs })) (find_definition ds t)) (bytes_alike d.name t (sym q))

-- Values -----------------------------------------------------------------------------------------------------------------------------------

-- The type is a reference.
unfoldable pub is_reference : AttributeType → Bool
is_reference (integer i) = false
is_reference string = false
is_reference boolean = false
is_reference enum = false
is_reference float = false
is_reference (reference k) = true

-- The word t is a value of the attribute d with the values vs of its list, among the objects os: a number; any other but a reference; or the
-- name of an object.
pub data Taking (os : List Object) (d : Definition) (vs : Values) (t : Word) : Type 0 where
  numbered : sort_of t.class ≡ a_number → is_reference d.type ≡ false → fits_number d.type d.bounds t.number ≡ true → vs ≡ no_value → Taking os d vs t
  told : is_number (sort_of t.class) ≡ false → is_reference d.type ≡ false → fits d vs t ≡ true → Taking os d vs t
  referred : {k : Kind} → d.type ≡ reference k → vs ≡ no_value → sort_of t.class ≡ a_name → is_there (find_object k os t) ≡ true → Taking os d vs t

-- The value x is that of the word t.
pub record Takes (os : List Object) (d : Definition) (vs : Values) (t : Word) (x : Taken) : Type 0 where
  pub stated : Bool
  pub is : x ≡ take_value stated os d vs t
  -- what is not stated is the definition's own default
  pub origin : stated ≡ false → d.default ≡ some t
  pub taking : Taking os d vs t

-- Resolved values --------------------------------------------------------------------------------------------------------------------------

mutual
  -- The resolved values of the definitions ds, before which stand `before` in their scope: each has one value or, with a list mark, any number; a
  -- list without values has no default.
  pub data Settled (os : List Object) : List Definition → Definitions → Resolved → Type 0 where
    settled : {before : List Definition} → Settled os before no_more end
    none_of : {before : List Definition} {d : Definition} {vs : Values} {ds : Definitions} {r : Resolved}
        → defined_in d.name before ≡ false → d.list ≡ true → taken d.default ≡ none → Settled os (before ++ (d ∷ [])) ds r → Settled os before (define d vs ds) r
    one_of : {before : List Definition} {d : Definition} {vs : Values} {ds : Definitions} {x : Taken} {t : Word} {us r : Resolved}
        → defined_in d.name before ≡ false → Takes os d vs t x → Settled os [] (under vs t) us → More os before d vs ds r
        → Settled os before (define d vs ds) (resolved x us r)

  -- The same behind a value of the definition d.
  pub data More (os : List Object) : List Definition → Definition → Values → Definitions → Resolved → Type 0 where
    again : {before : List Definition} {d : Definition} {vs : Values} {ds : Definitions} {x : Taken} {t : Word} {us r : Resolved}
        → d.list ≡ true → Takes os d vs t x → Settled os [] (under vs t) us → More os before d vs ds r
        → More os before d vs ds (resolved x us r)
    no_more_of : {before : List Definition} {d : Definition} {vs : Values} {ds : Definitions} {r : Resolved}
        → Settled os (before ++ (d ∷ [])) ds r → More os before d vs ds r

-- In a scope without definitions there is nothing.
pub nothing_there : {os : List Object} {before : List Definition} {ds : Definitions} {r : Resolved} → ds ≡ no_more → Settled os before ds r → r ≡ end
nothing_there e settled = refl
nothing_there e (none_of n p q s) = absurd (let z : ◌≡◌ {A = Bool} false true = cc in false≢true z)
nothing_there e (one_of p q s m) = absurd (let z : ◌≡◌ {A = Bool} false true = cc in false≢true z)
