-- The stages of 6 to 12 and of 17 of a text whose rows are kept, one after the other. Assumes nothing.
use mathlib.Core.Path.{◌≡◌, sym, ◌∙◌, ap, subst}
use mathlib.Core.List.{List}
use mathlib.Core.Bool.{true, false, false≢true}
use mathlib.Core.Option.{Option, none}
use Prim.Native.Nat.{ℕ, ◌≤◌, min}
use native.Mathlib.Omega.{arith}
use lib.ListN.{length, replicate}
use lib.Seq.{sets}
use Rattle.scopes.proofs.Firsts.{none_there}
use Rattle.rows.proofs.Orders.{none_is}
use Rattle.std.specs.Prelude.{Some, None, is_some}
use Rattle.grammar.specs.Readers.{answer_of}
use Rattle.rows.specs.Order.{MaybeFault}
use Rattle.rows.specs.declared.Fault.{Fault}
use Rattle.meaning.specs.Syntax.{File}
use Rattle.meaning.specs.Faults.{first, Fault as Refusal}
use Rattle.meaning.specs.Defining.{definition_faults}
use Rattle.meaning.specs.Applying.{object_faults, counts}
use Rattle.scopes.specs.Promises.{fault_of}
use Rattle.checks.specs.Promises.{Checks, ObjectFaults}
use Rattle.checks.specs.declared.objects.Checked.{Checked}
use Rattle.layout.specs.Kept.{kept, kept_objects, kept_statements, object_rows, all_statement_rows, statement_count, join}
use Rattle.scopes.proofs.Descents.{whole}
use Rattle.merging.specs.Parts.{FirstRows}
use Rattle.merging.specs.Promises.{Parted, Merges}
use Rattle.merging.proofs.Storing.{cells_of}
use Rattle.merging.proofs.Laying.{merge_count}
use Rattle.defining_checks.specs.Promises.{DefinitionFaults}
use Rattle.walk.specs.Whole.{Rooms, Whole}
use Rattle.walk.specs.declared.Walked.{Walked}
use Rattle.reading.specs.Decisions.{grammar_fault, Kept, KeptParts, or_else, stage_fault, Stages, Decides}
use Rattle.reading.specs.declared.Decision.{Decision}
use Rattle.reading.proofs.Arriving.{refused_early, stopped_early, arrived, answers_first, answers_next, decided}
use Rattle.reading.proofs.Settling.{fitting}

not_both : (a : MaybeFault) → is_some a ≡ true → a ≡ None → ⊥
not_both a h n = false≢true (sym (ap is_some n) ∙ h)

rooms_of : (d e p q a b c g : List ℕ) → d ≡ a → e ≡ b → p ≡ c → q ≡ g
    → ◌≡◌ {A = Rooms} (record { definitions = d; enumerators = e; parts = p; statements = q }) (record { definitions = a; enumerators = b; parts = c; statements = g })
rooms_of d e p q a b c g h i j k = rw (h, i, j, k)

-- The rows of the objects are kept.
module _ {s : List ℕ} {y : Rooms} {w : Walked} {f : File} (k : KeptParts s y w f) (p : first (definition_faults f) ≡ none) (q : first (object_faults f) ≡ none) where
  kept_merged : (x o t o' t' : List ℕ) (l r n : ℕ) (cs : List ℕ) (c : MaybeFault) → l ≡ min w.parts 513 → FirstRows 0 s y.parts l x → Merges y.parts y.statements x w.parts o t o' t' r
      → o ≡ replicate 2570 0 → t ≡ replicate 14343 0 → (length f.parts ≤ 513 → n ≡ length f.objects) → (length f.parts ≤ 513 → cs ≡ counts f.objects)
      → Kept s (record { definitions = y.definitions; enumerators = y.enumerators; objects = o'; statements = t' }) (record { fault = c; walked = w; objects = n; counts = cs }) f
  unfolding kept_objects kept_statements kept
  kept_merged x o t o' t' l r n cs v e h m eo et en ec =
      let F = fitting s f k.situation p q in
      let F₁ = F.parts in
      let F₂ = F.part_statements in
      let ko = k.parts in
      let fewer : length f.parts ≤ 513 = omega arith in
      let P : Parted s y.parts y.statements x w.parts f = record {
        situation = k.situation;
        in_parts = k.in_parts;
        in_statements = k.in_statements;
        parts = ko;
        firsts = λ j i. cells_of 0 s y.parts x l w.parts e h j (omega arith);
        parts_fit = omega arith;
        statements_fit = F₂;
      } in
      let A = m s f P in
      let c : statement_count f.objects ≡ statement_count f.parts = ap statement_count (whole k.situation).merged ∙ merge_count f.parts in
      record {
        situation = k.situation;
        in_definitions = k.in_definitions;
        in_enumerators = k.in_enumerators;
        in_objects = A.objects ∙ ap (λ (v : List ℕ). sets v 0 (join (object_rows f.objects 0))) eo;
        in_statements = A.statements ∙ ap (λ (v : List ℕ). sets v 0 (join (all_statement_rows f.objects 0))) et;
        definitions = k.definitions;
        enumerators = k.enumerators;
        objects = en fewer;
        statements = k.statements ∙ sym c;
        version = k.version;
        implementation = k.implementation;
        cpu = k.cpu;
        places = k.places;
        again = k.again;
        counted = ec fewer;
      }

module _ (s : List ℕ) (y : Rooms) (w : Walked) (a : MaybeFault)
    (p : DefinitionFaults s y.definitions y.enumerators w.definitions w.enumerators w.version_at w.version_len w.again a) where
  stage_one : (f : File) → KeptParts s y w f → a ≡ fault_of (first (definition_faults f))
  stage_one f k = p f k.situation k.in_definitions k.in_enumerators k.definitions k.enumerators (sym k.version.0) (sym k.version.1) k.again

  pub by_first : (o t o' t' : List ℕ) (n : ℕ) (cs : List ℕ) → is_some a ≡ true → Stages s y o t o' t' w (record { fault = a; walked = w; objects = n; counts = cs })
  unfolding stage_fault
  by_first o t o' t' n cs h f k eo et =
      record { fault = answers_first (first (object_faults f)) (first (definition_faults f)) a (stage_one f k) h; kept = λ n. absurd (not_both a h n) }

  module _ (h : is_some a ≡ false) (x : List ℕ) (l : ℕ) (e : l ≡ min w.parts 513) (F : FirstRows 0 s y.parts l x) (b : Checked)
      (q : ObjectFaults s y.parts y.statements x w.parts w.statements w.counts w.cpu_at b) where
    checked : (f : File) → KeptParts s y w f → Checks f b
    checked f k =
        q f k.situation k.in_parts k.in_statements k.parts k.statements k.counted (sym k.cpu.0) (cells_of 0 s y.parts x l w.parts e F)

    stage_two : (f : File) → KeptParts s y w f → b.fault ≡ fault_of (first (object_faults f))
    stage_two f k = (checked f k).fault

    after_first : (f : File) → KeptParts s y w f → (o : Option Refusal) → fault_of o ≡ fault_of (or_else (first (definition_faults f)) o)
    after_first f k o = answers_next o (first (definition_faults f)) (sym (stage_one f k) ∙ none_is a h)

    both_stages : (f : File) → KeptParts s y w f → b.fault ≡ fault_of (stage_fault f)
    unfolding stage_fault
    both_stages f k = stage_two f k ∙ after_first f k (first (object_faults f))

    pub by_second : (o t o' t' : List ℕ) (n : ℕ) (cs : List ℕ) → is_some b.fault ≡ true → Stages s y o t o' t' w (record { fault = b.fault; walked = w; objects = n; counts = cs })
    by_second o t o' t' n cs i f k eo et = record { fault = both_stages f k; kept = λ n. absurd (not_both b.fault i n) }

    pub by_third : is_some b.fault ≡ false → (o t o' t' : List ℕ) (r : ℕ) → Merges y.parts y.statements x w.parts o t o' t' r
        → Stages s y o t o' t' w (record { fault = b.fault; walked = w; objects = b.objects; counts = b.counts })
    by_third i o t o' t' r M f k eo et =
        let n₁ = none_there (first (definition_faults f)) (sym (stage_one f k) ∙ none_is a h) in
        let n₂ = none_there (first (object_faults f)) (sym (stage_two f k) ∙ none_is b.fault i) in
        let C = checked f k in
        record {
          fault = both_stages f k;
          kept = λ n. kept_merged k n₁ n₂ x o t o' t' l r b.objects b.counts b.fault e F M eo et C.objects C.counted;
        }

-- The decision -----------------------------------------------------------------------------------------------------------------------------

module _ (s d e o t : List ℕ) (x y : Rooms) (o' t' : List ℕ) (w : Walked) (g : MaybeFault) (hd : x.definitions ≡ d) (he : x.enumerators ≡ e) (h : Whole s x y w)
    (i : g ≡ grammar_fault (answer_of w.look)) where
  pub decides_early : (n : ℕ) (cs : List ℕ) → is_some g ≡ true
      → Decides s d e o t (record { definitions = y.definitions; enumerators = y.enumerators; objects = o'; statements = t' }) (record { fault = g; walked = w; objects = n; counts = cs })
  decides_early m cs j =
      record {
        definitions_size = h.sizes.definitions ∙ ap length hd;
        enumerators_size = h.sizes.enumerators ∙ ap length he;
        decided = λ l bd be eo et. record { refused_by = λ z n. refused_early s x y w h l z (sym i ∙ n); stopped = λ z n c v _. stopped_early s x y w h z (sym i ∙ n) c v; passes = λ n. absurd (not_both g j n) };
      }

  pub decides_late : x.parts ≡ replicate 5130 0 → x.statements ≡ replicate 14343 0 → (r : Decision) → is_some g ≡ false → Stages s y o t o' t' w r
      → Decides s d e o t (record { definitions = y.definitions; enumerators = y.enumerators; objects = o'; statements = t' }) r
  decides_late hp hq r j k =
      record {
        definitions_size = h.sizes.definitions ∙ ap length hd;
        enumerators_size = h.sizes.enumerators ∙ ap length he;
        decided = λ l bd be eo et.
            let z = sym i ∙ none_is g j in
            let v = arrived s y w (subst (λ q. Whole s q y w) (rooms_of _ _ _ _ _ _ _ _ (hd ∙ bd) (he ∙ be) hp hq) h) l z in
            decided s y (record { definitions = y.definitions; enumerators = y.enumerators; objects = o'; statements = t' }) w r v (k v.file v.kept eo et);
      }
