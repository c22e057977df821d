-- The objects of a normal text are parts of objects of their own. Assumes nothing.
use mathlib.Core.Path.{◌≡◌, refl, sym, ◌∙◌, ap₂, subst}
use mathlib.Core.List.{List, [], ◌∷◌, ◌++◌}
use Prim.Native.Nat.{ℕ, suc, ◌+◌}
use Rattle.token.specs.Find.{either}
use Rattle.grammar.specs.Grammar.{Derivation}
use Rattle.grammar.specs.Terminals.{tokens}
use Rattle.meaning.specs.Syntax.{Object}
use Rattle.meaning.specs.Words.{alike}
use Rattle.meaning.specs.Actions.{syntax}
use Rattle.meaning.specs.Merging.{same_object, used, merge}
use Rattle.meaning.specs.Resolving.{Resolved, all_values, how_many_values}
use Rattle.meaning.proofs.Unplaced.{unplaced_word}
use Rattle.meaning.proofs.Merges.{Alike, used_behind, used_alike, syntax_merged}
use Rattle.reads_back.proofs.Restated.{restated_object, restated_objects, SaidObjects, Said}
use Rattle.reads_back.proofs.MergedAgain.{AllNew, merge_new, Single, merge_same}

restated_single : (xs : List Object) (rs : List Resolved) (n k : ℕ) → SaidObjects xs rs n → Single n (restated_objects xs rs k)
unfolding restated_objects restated_object
restated_single [] rs n k h = tt
restated_single (x ∷ xs) [] n k h = tt
restated_single (x ∷ xs) (r ∷ rs) n k h = (h.0.row_is, refl, restated_single xs rs (suc n) (k + how_many_values r) h.1)

restated_alike : (x : Object) (r : Resolved) (k : ℕ) → Alike (restated_object x r k) x
unfolding restated_object unplaced_word
restated_alike x r k = record { kinds = refl; names = refl }

restated_same : (z x : Object) (r : Resolved) (k : ℕ) → same_object z (restated_object x r k) ≡ same_object z x
unfolding same_object restated_object unplaced_word alike
restated_same z x r k = refl

restated_new : (before before' xs : List Object) (rs : List Resolved) (k : ℕ) → ((z : Object) → used z before' ≡ used z before) → AllNew before xs → AllNew before' (restated_objects xs rs k)
unfolding restated_objects
restated_new before before' [] rs k h n = tt
restated_new before before' (x ∷ xs) [] k h n = tt
restated_new before before' (x ∷ xs) (r ∷ rs) k h n = (
  used_alike (restated_object x r k) x before' (restated_alike x r k) ∙ h x ∙ n.0,
  restated_new (before ++ (x ∷ [])) (before' ++ (restated_object x r k ∷ [])) xs rs (k + how_many_values r)
      (λ z. used_behind z (restated_object x r k) before' ∙ ap₂ either (h z) (restated_same z x r k) ∙ sym (used_behind z x before)) n.1,
)

pub merged_restated : (s : List ℕ) (d : Derivation (tokens s)) → Said (syntax s d.tree)
    → merge (restated_objects (syntax s d.tree).objects (all_values (syntax s d.tree) (syntax s d.tree).objects) 0)
    ≡ restated_objects (syntax s d.tree).objects (all_values (syntax s d.tree) (syntax s d.tree).objects) 0
merged_restated s d h =
    let f = syntax s d.tree in
    let rs = all_values f f.objects in
    merge_same (restated_objects f.objects rs 0)
    (restated_new [] [] f.objects rs 0 (λ z. refl) (subst (AllNew []) (sym (syntax_merged s d.tree)) (merge_new f.parts)))
    (restated_single f.objects rs 0 0 h.objects)
