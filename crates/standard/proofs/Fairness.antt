-- In an accepted text all that is compared with the standard is fair: its ranges have no fault. Assumes nothing.
use mathlib.Core.Path.{◌≡◌, refl, sym, ◌∙◌, ap, subst}
use mathlib.Core.List.{List, [], ◌∷◌}
use mathlib.Core.Option.{Option, some}
use Prim.Native.Nat.{ℕ, suc}
use Rattle.grammar.specs.Grammar.{Kind}
use Rattle.grammar.proofs.Uniqueness.{none≢some}
use Rattle.meaning.specs.Syntax.{Word, Definitions, no_more, Defined, Spec, File}
use Rattle.meaning.specs.Answers.{Tables, accepted, answer}
use Rattle.meaning.specs.Scopes.{Under, find_definition, find_value}
use Rattle.scopes.specs.Situations.{Situation, Stands, under_kind, under_value, Nth}
use Rattle.scopes.proofs.Descents.{found_definition, found_value}
use Rattle.standard.specs.Asking.{Scope, scope_or, scope_of}
use Rattle.standard.specs.Section.{standard}
use Rattle.standard.specs.Conforming.{Asks, of_kind, under}
use Rattle.standard.proofs.Members.{Has, here, later}
use Rattle.standard.proofs.Ways.{reached}
use Rattle.standard.proofs.Owning.{KindCase, no_kind, a_kind, kind_case}
use Rattle.standard.proofs.Numbers.{Faultless, ListedProper}
use Rattle.standard.proofs.Sound.{listed_proper}
use Rattle.standard.proofs.Ranged.{range_is}
use Rattle.standard.proofs.Theorem.{AllFair}

-- A scope that is asked for is empty, or stands in the text.
data Rooted (f : File) (u : Scope) : Type 0 where
  empty : u.definitions ≡ no_more → Rooted f u
  stands : Stands f.specs u.word u.definitions → Rooted f u

of_spec : (f : File) (k : Kind) → KindCase k f.specs → Rooted f (scope_of f k)
unfolding scope_of scope_or
of_spec f k (no_kind g i) = subst (λ (o : Option Spec). Rooted f (scope_or f.implementation_name o)) (sym g) (empty refl)
of_spec f k (a_kind y g i j) = subst (λ (o : Option Spec). Rooted f (scope_or f.implementation_name o)) (sym g) (stands (under_kind i))

in_rooted : {f : File} {u : Scope} {d : Defined} {z : Under} (n w : Word) → Rooted f u → find_definition u.definitions n ≡ some d → find_value d.values w ≡ some z
    → Rooted f (record { word = z.word; definitions = z.definitions })
unfolding find_definition
in_rooted n w (empty e) h k = absurd (none≢some (ap (λ (ds : Definitions). find_definition ds n) (sym e) ∙ h))
in_rooted {u = u} {d} n w (stands p) h k = stands (under_value p (found_definition u.definitions n h) (found_value d.values w k))

rooted : {f : File} {x : Defined} {u : Scope} → Asks standard f x u → Rooted f u
rooted {f} (of_kind {g = g} h i) = of_spec f g.kind (kind_case g.kind f.specs)
rooted (under {x = x} {v = v} a e i q j) = in_rooted x.definition.name v.word (rooted a) e q

record Numbered {A : Type 0} (l : List A) (a : A) : Type 0 where
  number : ℕ
  nth : Nth l number a

has_nth : {A : Type 0} {a : A} {l : List A} → Has a l → Numbered l a
has_nth (here {l = l}) = record { number = 0; nth = record { front = []; rest = l; whole = refl; place = refl } }
has_nth (later {y = y} m) =
    let r = has_nth m in
    record { number = suc r.number; nth = record { front = y ∷ r.nth.front; rest = r.nth.rest; whole = ap (λ (t : List _). y ∷ t) r.nth.whole; place = ap suc r.nth.place } }

pub all_fair : {s : List ℕ} {f : File} (t : Tables) → Situation s f → answer f ≡ accepted t → AllFair standard f
unfolding find_definition
all_fair {s} {f} t st e x d u a h i p q = (proper, by (rooted a))
  where
    proper : ListedProper x.definition.bounds
    proper = let r = reached a in let m = has_nth r.listed in listed_proper m.number _ m.nth

    by : Rooted f u → Faultless i d.definition.bounds
    by (empty z) = absurd (none≢some (ap (λ (ds : Definitions). find_definition ds x.definition.name) (sym z) ∙ h))
    by (stands z) = range_is t st e z (found_definition u.definitions x.definition.name h) i q
