-- For the code: resolved values one behind the other, as rows and as lines. Assumes nothing.
use mathlib.Core.Path.{◌≡◌, refl, sym, ◌∙◌, ap}
use mathlib.Core.List.{List, ◌∷◌, ◌++◌, append_assoc}
use mathlib.Core.Bool.{Bool, true, false}
use mathlib.Core.Option.{Option, none, some}
use Prim.Native.Nat.{ℕ, suc, ◌+◌}
use native.Mathlib.Omega.{arith}
use lib.ListN.{length, length-append}
unfoldable pub use Rattle.meaning.specs.Merging.{then}
unfoldable pub use Rattle.meaning.specs.Joining.{joins}
use Rattle.meaning.specs.Judging.{taken}
use Rattle.meaning.specs.Resolving.{take_value, Resolved, end, resolved, entries, default_entry, resolve, resolve_under, Owner, of_value, value_row, value_rows, how_many_values}
use Rattle.meaning.specs.Scopes.{names}
use Rattle.meaning.specs.Syntax.{Definition, Definitions, define, Values, Statements, done, state, Object, Word}
use Rattle.meaning.specs.Words.{alike, among, choose}

pub then_assoc : (a b c : Statements) → then (then a b) c ≡ then a (then b c)
unfolding then
then_assoc done b c = refl
then_assoc (state x inside rest) b c = ap (state x inside) (then_assoc rest b c)

pub length_values : (r : Resolved) (n : ℕ) (o : Owner) → length (value_rows r n o) ≡ how_many_values r
unfolding value_rows how_many_values
length_values end n o = refl
length_values (resolved t us r) n o =
    let a = length_values us (suc n) (of_value n) in
    let b = length_values r (suc n + how_many_values us) o in
    let c = length-append (value_rows us (suc n) (of_value n)) (value_rows r (suc n + how_many_values us) o) in
    omega arith

-- Rows: those of the first, and those of the second with the numbers behind them.
pub value_rows_joins : (a b : Resolved) (n : ℕ) (o : Owner) → value_rows (joins a b) n o ≡ value_rows a n o ++ value_rows b (n + how_many_values a) o
unfolding joins value_rows how_many_values
value_rows_joins end b n o = let e : n ≡ n + 0 = omega arith in ap (λ k. value_rows b k o) e
value_rows_joins (resolved t us a) b n o =
    let m = suc n + how_many_values us in
    let e : m + how_many_values a ≡ n + suc (how_many_values us + how_many_values a) = omega arith in
    ap (λ l. value_row t o ∷ (value_rows us (suc n) (of_value n) ++ l)) (value_rows_joins a b m o ∙ ap (λ k. value_rows a m o ++ value_rows b k o) e)
    ∙ ap (λ l. value_row t o ∷ l) (sym (append_assoc (value_rows us (suc n) (of_value n)) (value_rows a m o) (value_rows b (n + suc (how_many_values us + how_many_values a)) o)))

pub how_many_joins : (a b : Resolved) → how_many_values (joins a b) ≡ how_many_values a + how_many_values b
unfolding joins how_many_values
how_many_joins end b = omega arith
how_many_joins (resolved t us a) b = let e = how_many_joins a b in omega arith

-- A scope's values: the entries of its first definition, and then those of the others.
entries_joins : (ss : Statements) (os : List Object) (d : Definition) (vs : Values) (f : Word → Statements → Resolved) (rest : Resolved)
    → entries ss os d vs f rest ≡ joins (entries ss os d vs f end) rest
unfolding entries joins choose
entries_joins done os d vs f rest = refl
entries_joins (state x inside more) os d vs f rest = go (alike x.name d.name) (entries_joins more os d vs f rest)
  where
    go : (b : Bool) → entries more os d vs f rest ≡ joins (entries more os d vs f end) rest
        → choose b (λ _. resolved (take_value true os d vs x.value) (f x.value inside) (entries more os d vs f rest)) (λ _. entries more os d vs f rest)
        ≡ joins (choose b (λ _. resolved (take_value true os d vs x.value) (f x.value inside) (entries more os d vs f end)) (λ _. entries more os d vs f end)) rest
    go true e = ap (λ r. resolved (take_value true os d vs x.value) (f x.value inside) r) e
    go false e = e

default_joins : (t : Option Word) (os : List Object) (d : Definition) (vs : Values) (f : Word → Statements → Resolved) (rest : Resolved)
    → default_entry t os d vs f rest ≡ joins (default_entry t os d vs f end) rest
unfolding default_entry joins
default_joins none os d vs f rest = refl
default_joins (some t) os d vs f rest = refl

-- What one definition contributes.
unfoldable pub contributed : Definition → Values → List Object → Statements → Resolved
contributed d vs os ss =
    choose (among d.name (names ss))
    (λ _. entries ss os d vs (λ t us. resolve_under vs os t us) end)
    (λ _. default_entry (taken d.default) os d vs (λ t us. resolve_under vs os t us) end)

pub resolve_more : (d : Definition) (vs : Values) (ds : Definitions) (os : List Object) (ss : Statements)
    → resolve (define d vs ds) os ss ≡ joins (contributed d vs os ss) (resolve ds os ss)
unfolding resolve contributed choose
resolve_more d vs ds os ss = go (among d.name (names ss))
  where
    f : Word → Statements → Resolved
    f t us = resolve_under vs os t us

    go : (b : Bool) → choose b (λ _. entries ss os d vs f (resolve ds os ss)) (λ _. default_entry (taken d.default) os d vs f (resolve ds os ss))
        ≡ joins (choose b (λ _. entries ss os d vs f end) (λ _. default_entry (taken d.default) os d vs f end)) (resolve ds os ss)
    go true = entries_joins ss os d vs f (resolve ds os ss)
    go false = default_joins (taken d.default) os d vs f (resolve ds os ss)
