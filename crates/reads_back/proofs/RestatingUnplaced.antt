-- The syntax of a normal text, but for the places of its definitions and names. Assumes nothing.
use mathlib.Core.Path.{◌≡◌, refl, ◌∙◌, ap, ap₂}
use mathlib.Core.List.{List, [], ◌∷◌}
use Prim.Native.Nat.{ℕ, suc, ◌+◌}
use Rattle.meaning.specs.Syntax.{Word, absent, Statement, Statements, state, Object, File}
use Rattle.meaning.specs.Resolving.{Value, number, truth, auto, string, float, enumerator, object, Resolved, end, resolved, all_values, how_many_values}
use Rattle.meaning.specs.Places.{each}
use Rattle.meaning.proofs.Unplaced.{if_there, unplaced_word, unplaced_spec, unplaced_statement, unplaced_statements, unplaced_object, unplaced}
use Rattle.reads_back.proofs.Restated.{given, version_string, restated_word, brace_after, restated, restated_object, restated_objects, restated_file}

-- The syntax f with the objects of its normal text: what is left of the places goes away by `unplaced`.
unfoldable pub kept_file : File → File
kept_file f = record {
  version = version_string;
  implementation = f.implementation;
  implementation_name = f.implementation_name;
  specs = f.specs;
  cpu = f.cpu;
  parts = restated_objects f.objects (all_values f f.objects) 0;
  objects = restated_objects f.objects (all_values f f.objects) 0;
}

-- Without places -----------------------------------------------------------------------------------------------------------------------------

-- The word that is written for a value has no place.
pub unplaced_restated_word : (v : Value) (t : Word) → unplaced_word (restated_word v t) ≡ restated_word v t
unfolding unplaced_word restated_word
unplaced_restated_word (number n) t = refl
unplaced_restated_word (truth b) t = refl
unplaced_restated_word auto t = refl
unplaced_restated_word string t = refl
unplaced_restated_word float t = refl
unplaced_restated_word (enumerator e) t = refl
unplaced_restated_word (object o) t = refl

unplaced_brace : (r : Resolved) → if_there unplaced_word (brace_after r) ≡ brace_after r
unfolding if_there brace_after unplaced_word given
unplaced_brace end = refl
unplaced_brace (resolved t us rest) = refl

unplaced_first : (k : ℕ) (n : Word) (v : Value) (t : Word) (us : Resolved)
    → unplaced_statement (record { number = k; name = unplaced_word n; value = restated_word v t; brace = brace_after us })
    ≡ record { number = k; name = unplaced_word n; value = restated_word v t; brace = brace_after us }
unfolding unplaced_statement unplaced_word
unplaced_first k n v t us = ap₂ (λ w o. record { number = k; name = unplaced_word n; value = w; brace = o }) (unplaced_restated_word v t) (unplaced_brace us)

state_same : {x y : Statement} {a b c d : Statements} → x ≡ y → a ≡ b → c ≡ d → state x a c ≡ state y b d
state_same {y} {b} {c} p q r = ap₂ (λ z i. state z i c) p q ∙ ap (state y b) r

unplaced_restated : (r : Resolved) (k : ℕ) → unplaced_statements (restated r k) ≡ restated r k
unfolding unplaced_statements restated
unplaced_restated end k = refl
unplaced_restated (resolved t us rest) k =
    state_same (unplaced_first k t.definition.name t.value t.word us) (unplaced_restated us (suc k)) (unplaced_restated rest (suc k + how_many_values us))

unplaced_one : (x : Object) (r : Resolved) (k : ℕ) → unplaced_object (restated_object x r k) ≡ restated_object x r k
unfolding unplaced_object restated_object unplaced_word
unplaced_one x r k =
    ap (λ ss. record { row = x.row; kind = x.kind; word = unplaced_word x.word; name = unplaced_word x.name; block = absent; parts = 1; statements = ss }) (unplaced_restated r k)

unplaced_objects : (xs : List Object) (rs : List Resolved) (k : ℕ) → each unplaced_object (restated_objects xs rs k) ≡ restated_objects xs rs k
unfolding each restated_objects
unplaced_objects [] rs k = refl
unplaced_objects (x ∷ xs) [] k = refl
unplaced_objects (x ∷ xs) (r ∷ rs) k = ap₂ ◌∷◌ (unplaced_one x r k) (unplaced_objects xs rs (k + how_many_values r))

-- The syntax of the normal text.
pub unplaced_kept : (f : File) → unplaced (kept_file f) ≡ restated_file f
unfolding unplaced kept_file restated_file unplaced_word given
unplaced_kept f =
    ap (λ os. record {
      version = version_string;
      implementation = absent;
      implementation_name = unplaced_word f.implementation_name;
      specs = each unplaced_spec f.specs;
      cpu = unplaced_word f.cpu;
      parts = os;
      objects = os;
    }) (unplaced_objects f.objects (all_values f f.objects) 0)
