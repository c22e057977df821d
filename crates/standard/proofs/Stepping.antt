-- Into the scope of a value, over the kept rows. Assumes nothing.
use mathlib.Core.Path.{◌≡◌, refl, sym, ◌∙◌, ap, subst}
use mathlib.Core.List.{List}
use mathlib.Core.Bool.{false≢true}
use mathlib.Core.Option.{Option, none, some}
use Prim.Native.Nat.{ℕ, ◌<◌}
use native.Mathlib.Omega.{arith}
use lib.ListN.{length}
use Rattle.grammar.proofs.Uniqueness.{none≢some}
use Rattle.rows.specs.Found.{Found}
use Rattle.std.specs.Prelude.{Some, None}
use Rattle.rows.specs.Search.{is_found}
use Rattle.meaning.specs.Syntax.{Word, Definitions, Defined, File}
use Rattle.meaning.specs.Scopes.{Under, find_definition, find_value}
use Rattle.layout.specs.Kept.{spec_entries}
use Rattle.scopes.specs.Situations.{Stands, under_value, ScopeAt, no_scope, scope, HasDefinition, RowOf}
use Rattle.scopes.specs.Promises.{row_found, place_found}
use Rattle.scopes.proofs.Rooms.{nth_low}
use Rattle.scopes.proofs.Descents.{row_of_definition, found_definition, found_value}
use Rattle.standard.specs.Asking.{into_value, into_list, into}
use Rattle.standard.specs.Naming.{FindsAttribute, FindsValue}
use Rattle.standard.specs.Descending.{Entered, nothing_asked, entered, StepsInto}

none_none : (f : File) (o : Option Defined) (w : Word) → None ≡ row_found o → Entered f (into_list o w) 0
unfolding row_found into_list
none_none f none w e = nothing_asked
none_none f (some x) w e = absurd (false≢true (ap is_found e))

pub steps_none : (s d e : List ℕ) (n m key : ℕ) (a b : List ℕ) (z : Found) → FindsAttribute s d n key a z → z ≡ None → StepsInto s d e n m key a b 0
unfolding into
steps_none s d e n m key a b z g h f x p k hd he hn l rc sc q q₂ =
    none_none f (find_definition x.definitions p.attribute) p.value (sym h ∙ g f x.definitions p.attribute k hd hn l sc q)

row_in : Found → ℕ
row_in (Some n) = n
row_in None = 0

-- What stands in a scope that has a definition.
standing_word : {f : File} {key : ℕ} {ds : Definitions} {x : Defined} (t : Word) → ScopeAt f key ds → find_definition ds t ≡ some x → {R : Type 0} → ((u : Word) → Stands f.specs u ds → R) → R
unfolding find_definition
standing_word t no_scope e g = absurd (none≢some e)
standing_word t (scope {u = u} h p) e g = g u p

enters : (f : File) (y : Defined) (w : Word) (r : ℕ) {u : Word} {ds : Definitions} → Stands f.specs u ds → HasDefinition ds y → (o : Option Under) → find_value y.values w ≡ o
    → r ≡ place_found o → Entered f (into_value o) r
unfolding place_found into_value
enters f y w r p h none e g = subst (Entered f none) (sym g) nothing_asked
enters f y w r p h (some v) e g = entered (sym g) (under_value p h (found_value y.values w e))

pub steps_some : (s d e : List ℕ) (n m key : ℕ) (a b : List ℕ) (z : Found) (j r : ℕ) → FindsAttribute s d n key a z → z ≡ Some j → FindsValue s d e m j b r → StepsInto s d e n m key a b r
unfolding into into_list row_found row_in
steps_some s d e n m key a b z j r g h v f x p k hd he hn l rc sc q q₂ =
    by (find_definition x.definitions p.attribute) refl (sym h ∙ g f x.definitions p.attribute k hd hn l sc q)
  where
    by : (o : Option Defined) → find_definition x.definitions p.attribute ≡ o → Some j ≡ row_found o → Entered f (into_list o p.value) r
    by none c t = absurd (false≢true (sym (ap is_found t)))
    by (some y) c t = standing_word p.attribute sc c (λ u i.
        let has = found_definition x.definitions p.attribute c in
        let w : j ≡ y.definition.row = ap row_in t in
        let o : RowOf f j y = subst (λ i. RowOf f i y) (sym w) (row_of_definition k i has) in
        let low : j < length (spec_entries f.specs) = nth_low o.nth in
        enters f y p.value r i has (find_value y.values p.value) refl (v f y p.value k hd he o (omega arith) (rc y.values) q₂))
