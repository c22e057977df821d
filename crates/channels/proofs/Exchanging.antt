-- Two neighbouring parts of an accepted syntax, of different objects, change places: it is accepted, with the same channels. Assumes nothing.
use mathlib.Core.Path.{◌≡◌, refl, sym, ◌∙◌, ap, subst₂}
use mathlib.Core.List.{List, [], ◌∷◌, ◌++◌}
use mathlib.Core.Option.{none}
use Prim.Native.Nat.{ℕ, suc}
use native.Mathlib.Omega.{arith}
use lib.ListN.{length}
use Rattle.grammar.specs.Grammar.{Kind, ◌▸◌, ∎, ◌⟶◌, Trees, file}
use Rattle.meaning.specs.Syntax.{Object}
use Rattle.meaning.specs.Faults.{Fault, first}
use Rattle.meaning.specs.Actions.{syntax}
use Rattle.meaning.specs.Applying.{object_rows, object_faults}
use Rattle.meaning.specs.Resolving.{all_values}
use Rattle.meaning.specs.Answers.{Tables, accepted, tables, answer}
use Rattle.meaning.proofs.Numbering.{numbered}
use Rattle.meaning.proofs.Rooms.{objects_fit}
use Rattle.meaning.proofs.Merges.{syntax_merged}
use Rattle.reads_back.proofs.RestatingPlain.{syntax_plain}
use Rattle.reads_back.proofs.SameMeaning.{no_faults, accepts_it}
use Rattle.channels.specs.Channels.{channel}
use Rattle.channels.specs.Neighbours.{ObjectTree, object_trees, key_in}
use Rattle.channels.proofs.Alone.{channel_is_alone}
use Rattle.channels.proofs.Merging.{PartsSwapped}
use Rattle.channels.proofs.ObjectTrees.{from_swapped, with_objects, with_own, with_same, with_meaning}
use Rattle.channels.proofs.PartsAccepting.{definitions_kept, objects_kept, statements_kept, values_kept, channels_kept}

-- The syntax of a tree ------------------------------------------------------------------------------------------------------------------------

-- The tree t over the text s, with other objects, is accepted, with the channels of t.
pub record Kept (s : List ℕ) (t u : Trees ◌⟶◌ (file ▸ ∎)) : Type 0 where
  pub tables : Tables
  pub accepts : answer (syntax s u) ≡ accepted tables
  pub same : (k : Kind) (n : List ℕ) → channel (syntax s u) k n ≡ channel (syntax s t) k n

parts_swapped : (s : List ℕ) (t : Trees ◌⟶◌ (file ▸ ∎)) (a b : List ObjectTree) (x y : ObjectTree) → object_trees t ≡ a ++ (x ∷ y ∷ b) → (key_in s x ≡ key_in s y → ⊥)
    → PartsSwapped (syntax s t).parts (syntax s (with_objects t (a ++ (y ∷ x ∷ b)))).parts
parts_swapped s t a b x y e d =
    subst₂ (λ l m. PartsSwapped l m)
    (sym (ap (λ z. (syntax s z).parts) (sym (with_own t) ∙ ap (with_objects t) e) ∙ with_meaning s t (a ++ (x ∷ y ∷ b))))
    (sym (with_meaning s t (a ++ (y ∷ x ∷ b))))
    (from_swapped s a b x y 0 0 0 0 d)

no_first_of : (fs : List Fault) → fs ≡ [] → first fs ≡ none
unfolding first
no_first_of fs e = ap first e

rows_many : (xs : List Object) → length (object_rows xs) ≡ length xs
unfolding object_rows
rows_many [] = refl
rows_many (x ∷ xs) = ap suc (rows_many xs)

-- So it is where two neighbouring parts of different objects change places.
pub exchanged : (s : List ℕ) (t : Trees ◌⟶◌ (file ▸ ∎)) (a b : List ObjectTree) (x y : ObjectTree) (r : Tables) → object_trees t ≡ a ++ (x ∷ y ∷ b) → (key_in s x ≡ key_in s y → ⊥)
    → answer (syntax s t) ≡ accepted r → Kept s t (with_objects t (a ++ (y ∷ x ∷ b)))
exchanged s t a b x y r e z h =
    let u = with_objects t (a ++ (y ∷ x ∷ b)) in
    let f = syntax s t in
    let g = syntax s u in
    let p = with_same s t (a ++ (y ∷ x ∷ b)) in
    let q = parts_swapped s t a b x y e z in
    let v = syntax_merged s t in
    let w = syntax_merged s u in
    let n = no_faults f r h in
    let i = objects_fit s t (no_first_of (object_faults f) n.objects) in
    let m = rows_many f.objects in
    let j = i.0 in
    let c = numbered s t in
    let d = numbered s u in
    let ok = accepts_it g (definitions_kept f g p q v w n.definitions)
    (objects_kept f g p q v w n.objects (omega arith) i.1 i.2 d.1.0 d.1.1.0 d.1.1.1)
    (statements_kept f g p q v w n.statements) (values_kept f g p q v w n.values) in
    record {
      tables = tables g (all_values g g.objects);
      accepts = ok;
      same = λ k l.
          channel_is_alone g _ (syntax_plain s u) d.1.0 ok k l ∙ channels_kept f g p q v w k l ∙ sym (channel_is_alone f r (syntax_plain s t) c.1.0 h k l);
    }
