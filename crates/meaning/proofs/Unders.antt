-- What stands under a value: what is asked of the values is what is asked of the definitions under the one that is found. Assumes nothing.
use mathlib.Core.Path.{◌≡◌, refl}
use mathlib.Core.List.{List, []}
use mathlib.Core.Bool.{Bool, true, false}
use mathlib.Core.Option.{some}
use Rattle.token.specs.Find.{pick}
use Rattle.meaning.specs.Syntax.{Word, Values, no_value, value, Statements, Object}
use Rattle.meaning.specs.Words.{choose, alike}
use Rattle.meaning.specs.Scopes.{find_value, definitions_or, under}
use Rattle.meaning.specs.Judging.{lacks, lacks_under}
use Rattle.meaning.specs.Resolving.{resolve, resolve_under}

-- What lacks there.
pub lacks_there : (vs : Values) (t : Word) → lacks_under vs t ≡ lacks (under vs t) []
unfolding lacks under definitions_or find_value choose
lacks_there no_value t = refl
lacks_there (value w e us vs) t = go (alike w t) (lacks_there vs t)
  where
    go : (b : Bool) → lacks_under vs t ≡ lacks (under vs t) []
        → choose b (λ _. lacks us []) (λ _. lacks_under vs t) ≡ lacks (definitions_or (pick b (some (record { word = w; number = e; definitions = us })) (find_value vs t))) []
    go true h = refl
    go false h = h

-- What statements resolve to there.
pub resolves_under : (vs : Values) (os : List Object) (t : Word) (ss : Statements) → resolve_under vs os t ss ≡ resolve (under vs t) os ss
unfolding resolve under definitions_or find_value choose
resolves_under no_value os t ss = refl
resolves_under (value w e us vs) os t ss = go (alike w t) (resolves_under vs os t ss)
  where
    go : (b : Bool) → resolve_under vs os t ss ≡ resolve (under vs t) os ss
        → choose b (λ _. resolve us os ss) (λ _. resolve_under vs os t ss) ≡ resolve (definitions_or (pick b (some (record { word = w; number = e; definitions = us })) (find_value vs t))) os ss
    go true h = refl
    go false h = h
