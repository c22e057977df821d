-- A channel of an accepted syntax is what its definitions and statements show alone. Assumes nothing.
use mathlib.Core.Path.{◌≡◌, refl, ◌∙◌, ap}
use mathlib.Core.List.{List, []}
use mathlib.Core.Bool.{Bool, true, false}
use mathlib.Core.Option.{Option, some}
use Prim.Native.Nat.{ℕ}
use Rattle.grammar.specs.Grammar.{Kind}
use Rattle.token.specs.Find.{pick}
use Rattle.meaning.specs.Syntax.{Word, Spec, Object, File}
use Rattle.meaning.specs.Scopes.{of_kind, find_object}
use Rattle.meaning.specs.Judging.{statement_stage}
use Rattle.meaning.specs.Resolving.{resolve, object_values}
use Rattle.meaning.specs.Answers.{Tables, accepted, answer}
use Rattle.meaning.proofs.Numbering.{Counts, object_numbers}
use Rattle.reads_back.proofs.SameMeaning.{no_faults, specs_free}
use Rattle.reads_back.proofs.RestatingPlain.{PlainSpecs}
use Rattle.reads_back.proofs.RestatingObjects.{SettledObjects, no_objects, more_objects, settle_objects}
use Rattle.channels.specs.Channels.{if_there, View, view, called, channel}
use Rattle.channels.proofs.Ideals.{unnumbered, ideal, resolve_ideal}
use Rattle.channels.proofs.Views.{view_settled}
use Rattle.channels.proofs.Twins.{is_it}

-- What an object shows by its kind's definitions and its statements alone.
unfoldable pub alone : List Spec → Object → View
alone ss x = ideal (resolve (of_kind x.kind ss) [] (unnumbered x.statements))

-- The object of the kind k with the name of t shows that.
unfoldable pub channel_alone : File → Kind → Word → Option View
channel_alone f k t = if_there (alone f.specs) (find_object k f.objects t)

object_alone : (f : File) (x : Object) → ideal (object_values f x) ≡ alone f.specs x
unfolding object_values alone
object_alone f x = resolve_ideal (of_kind x.kind f.specs) f.objects x.statements

found_alone : (f : File) → Counts 0 (object_numbers f.objects) → (k : Kind) (t : Word) {xs : List Object} → SettledObjects f xs
    → if_there (λ x. view f.objects (object_values f x)) (find_object k xs t) ≡ if_there (alone f.specs) (find_object k xs t)
unfolding find_object if_there
found_alone f c k t no_objects = refl
found_alone f c k t (more_objects {x} {xs} s p) = go (is_it k t x) (found_alone f c k t p)
  where
    go : (b : Bool) → if_there (λ x. view f.objects (object_values f x)) (find_object k xs t) ≡ if_there (alone f.specs) (find_object k xs t)
        → if_there (λ x. view f.objects (object_values f x)) (pick b (some x) (find_object k xs t)) ≡ if_there (alone f.specs) (pick b (some x) (find_object k xs t))
    go true e = ap some (view_settled f.objects c s ∙ object_alone f x)
    go false e = e

-- A channel of an accepted syntax does not depend on other objects.
pub channel_is_alone : (f : File) (t : Tables) → PlainSpecs f.specs → Counts 0 (object_numbers f.objects) → answer f ≡ accepted t
    → (k : Kind) (n : List ℕ) → channel f k n ≡ channel_alone f k (called n)
unfolding channel channel_alone statement_stage
channel_is_alone f t p c e k n =
    let q = no_faults f t e in
    found_alone f c k (called n) (settle_objects f f.objects (specs_free f q.definitions) p q.statements)
