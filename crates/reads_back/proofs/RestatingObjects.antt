-- The objects of a normal text: their faults and their resolved values. Assumes nothing.
use mathlib.Core.Path.{◌≡◌, refl, sym, ◌∙◌, ap, ap₂, subst}
use mathlib.Core.List.{List, [], ◌∷◌, ◌++◌}
use mathlib.Core.Bool.{Bool, true, false, not}
use Prim.Native.Nat.{ℕ, suc, ◌+◌, ◌≤◌}
use lib.ListN.{length}
use native.Mathlib.Omega.{arith}
use lib.Dec.{eqb, ltb}
use borrow.Author.Tests.{ne_eqb}
use Rattle.grammar.specs.Grammar.{Kind}
use Rattle.token.specs.Find.{pick, both, either}
use Rattle.token.specs.Words.{bytes_of, same}
use Rattle.meaning.specs.Syntax.{Word, Definitions, Spec, Object, File}
use Rattle.meaning.specs.Words.{alike}
use Rattle.meaning.specs.Kinds.{same_kind, fewest, most}
use Rattle.meaning.specs.Faults.{faults_if}
use Rattle.meaning.specs.Scopes.{of_kind, names}
use Rattle.meaning.specs.Defining.{scope_faults, specified, spec_faults}
use Rattle.meaning.specs.Applying.{how_many, too_few, full, statement_faults, each_object, each_part, elsewhere, each_name}
use Rattle.meaning.proofs.Numbering.{Counts, counts_more, object_numbers}
use Rattle.meaning.specs.Judging.{lacks, judge, judge_object, judge_objects}
use Rattle.meaning.specs.Resolving.{Resolved, end, resolved, resolve, object_values, all_values, how_many_values, how_many_in_all}
use Rattle.meaning.specs.Normal.{object_lines}
use Rattle.meaning.proofs.Unplaced.{unplaced_word}
use Rattle.meaning.proofs.Rooms.{nothing_front, nothing_back, not_faulty}
use Rattle.reads_back.proofs.Restated.{restated, restated_object, restated_objects}
use Rattle.reads_back.proofs.SameValues.{Same, SameAll, none_same, more_same, same_lines}
use Rattle.reads_back.proofs.RestatingScopes.{whole, Settled}
use Rattle.reads_back.proofs.RestatingValues.{SameObjects}
use Rattle.reads_back.proofs.RestatingResolved.{restated_resolves}
use Rattle.reads_back.proofs.RestatingJudged.{restated_lacks, restated_judged}
use Rattle.reads_back.proofs.RestatingPlain.{AllPlain, none_plain, PlainSpecs, no_specs, more_specs}
use Rattle.reads_back.proofs.RestatingSettled.{settle}
use Rattle.reads_back.proofs.SameKindred.{Kindred, AllKindred, no_kindred, more_kindred, kindred_behind, kindred_many}

-- The definitions of a kind ------------------------------------------------------------------------------------------------------------------

kind_free : (k : Kind) (before xs : List Spec) → spec_faults before xs ≡ [] → scope_faults (of_kind k xs) [] [] ≡ []
unfolding spec_faults of_kind scope_faults
kind_free k before [] e = refl
kind_free k before (x ∷ xs) e =
    let a = faults_if (specified x before) x.word 8 in
    let b = scope_faults x.definitions [] [] in
    let r = spec_faults (before ++ (x ∷ [])) xs in
    go (same_kind k x.kind) (nothing_back a b (nothing_front (a ++ b) r e)) (kind_free k (before ++ (x ∷ [])) xs (nothing_back (a ++ b) r e))
  where
    go : (b : Bool) → scope_faults x.definitions [] [] ≡ [] → scope_faults (of_kind k xs) [] [] ≡ [] → scope_faults (pick b x.definitions (of_kind k xs)) [] [] ≡ []
    go true p q = p
    go false p q = q

kind_plain : {xs : List Spec} (k : Kind) → PlainSpecs xs → AllPlain (of_kind k xs)
unfolding of_kind
kind_plain k no_specs = none_plain
kind_plain k (more_specs {x} {xs} p q) = go (same_kind k x.kind) (kind_plain k q)
  where
    go : (b : Bool) → AllPlain (of_kind k xs) → AllPlain (pick b x.definitions (of_kind k xs))
    go true h = p
    go false h = h

-- Settled objects ----------------------------------------------------------------------------------------------------------------------------

-- The resolved values of each object are settled.
pub data SettledObjects (f : File) : List Object → Type 0 where
  no_objects : SettledObjects f []
  more_objects : {x : Object} {xs : List Object} → Settled f.objects [] (of_kind x.kind f.specs) (object_values f x) → SettledObjects f xs → SettledObjects f (x ∷ xs)

-- So it is where no stage has a fault.
pub settle_objects : (f : File) (xs : List Object) → spec_faults [] f.specs ≡ [] → PlainSpecs f.specs → judge_objects f xs ≡ [] → SettledObjects f xs
unfolding judge_objects judge_object object_values
settle_objects f [] e p j = no_objects
settle_objects f (x ∷ xs) e p j =
    let ds = of_kind x.kind f.specs in
    let a = faults_if (lacks ds (names x.statements)) x.name 16 in
    let b = judge x.statements f.objects ds [] in
    let r = judge_objects f xs in
    let i = nothing_front (a ++ b) r j in
    more_objects
    (settle f.objects ds [] [] x.statements whole (kind_free x.kind [] f.specs e) (kind_plain x.kind p)
    (not_faulty (lacks ds (names x.statements)) x.name 16 (nothing_front a b i)) (nothing_back a b i))
    (settle_objects f xs e p (nothing_back (a ++ b) r j))

-- The restated objects -----------------------------------------------------------------------------------------------------------------------

restated_kin : (x : Object) (r : Resolved) (k : ℕ) → Kindred (restated_object x r k) x
unfolding restated_object unplaced_word
restated_kin x r k = record { row = refl; kind = refl; name = refl }

-- The objects of the normal text have the kinds, names and rows of the text's.
pub restated_kindred : (f : File) (xs : List Object) (k : ℕ) → AllKindred (restated_objects xs (all_values f xs) k) xs
unfolding restated_objects all_values
restated_kindred f [] k = no_kindred
restated_kindred f (x ∷ xs) k = more_kindred (restated_kin x (object_values f x) k) (restated_kindred f xs (k + how_many_values (object_values f x)))

-- A file with the definitions of f and the objects os.
module _ (f : File) (g : File) (specs-are : g.specs ≡ f.specs) (kin : SameObjects f.objects g.objects) where
  restated_values : (x : Object) (r : Resolved) (k : ℕ) → Settled f.objects [] (of_kind x.kind f.specs) r → Same (object_values g (restated_object x r k)) r
  unfolding object_values restated_object
  restated_values x r k s =
      subst (λ ss. Same (resolve (of_kind x.kind ss) g.objects (restated r k)) r) (sym specs-are)
      (restated_resolves kin k s)

  -- They resolve to the same values.
  pub all_restated_values : {xs : List Object} (k : ℕ) → SettledObjects f xs → SameAll (all_values g (restated_objects xs (all_values f xs) k)) (all_values f xs)
  unfolding all_values restated_objects
  all_restated_values k no_objects = none_same
  all_restated_values k (more_objects {x} {xs} s p) =
      more_same (restated_values x (object_values f x) k s) (all_restated_values (k + how_many_values (object_values f x)) p)

  restated_object_judged : (x : Object) (r : Resolved) (k : ℕ) (ds : Definitions) → Settled f.objects [] ds r → judge_object g (restated_object x r k) ds ≡ []
  unfolding judge_object restated_object faults_if
  restated_object_judged x r k ds s =
      ap₂ (λ b l. faults_if b (unplaced_word x.name) 16 ++ l) (restated_lacks k s) (restated_judged kin k s)

  object_kind : (x : Object) (r : Resolved) (k : ℕ) → of_kind (restated_object x r k).kind g.specs ≡ of_kind x.kind f.specs
  unfolding restated_object
  object_kind x r k = ap (of_kind x.kind) specs-are

  -- They have no fault of 13 to 16 and 18.
  pub restated_objects_judged : {xs : List Object} (k : ℕ) → SettledObjects f xs → judge_objects g (restated_objects xs (all_values f xs) k) ≡ []
  unfolding all_values restated_objects judge_objects
  restated_objects_judged k no_objects = refl
  restated_objects_judged k (more_objects {x} {xs} s p) =
      let r = object_values f x in
      ap₂ ◌++◌ (ap (judge_object g (restated_object x r k)) (object_kind x r k) ∙ restated_object_judged x r k (of_kind x.kind f.specs) s)
      (restated_objects_judged (k + how_many_values r) p)

-- 11 and 17 ----------------------------------------------------------------------------------------------------------------------------

-- No kind has too few objects.
pub kindred_few : {xs ys : List Object} (ks : List Kind) (cpu : Word) → AllKindred xs ys → too_few ks ys cpu ≡ [] → too_few ks xs cpu ≡ []
unfolding too_few
kindred_few [] cpu p e = refl
kindred_few {xs} {ys} (k ∷ ks) cpu p e =
    let a = faults_if (ltb (how_many k ys) (fewest k)) cpu 17 in
    let b = too_few ks ys cpu in
    ap₂ ◌++◌ (ap (λ n. faults_if (ltb n (fewest k)) cpu 17) (kindred_many k p) ∙ nothing_front a b e) (kindred_few ks cpu p (nothing_back a b e))

-- Statements numbered from k on, of which the last is at most number 2,047.
restated_numbers : (r : Resolved) (k : ℕ) → k + how_many_values r ≤ 2048 → statement_faults (restated r k) ≡ []
unfolding statement_faults restated how_many_values faults_if
restated_numbers end k h = refl
restated_numbers (resolved t us rest) k h =
    let e : eqb k 2048 ≡ false = ne_eqb k 2048 (λ q. omega arith) in
    ap₂ ◌++◌ (ap₂ (λ b l. faults_if b (unplaced_word t.definition.name) 11 ++ l) e (restated_numbers us (suc k) (omega arith)))
    (restated_numbers rest (suc k + how_many_values us) (omega arith))

same_fault : {b c : Bool} (t u : Word) (n : ℕ) → b ≡ c → faults_if c u n ≡ [] → faults_if b t n ≡ []
unfolding faults_if
same_fault {b} {c} t u n e h = ap (λ z. faults_if z t n) (e ∙ not_faulty c u n h)

restated_one : (before before' : List Object) (x : Object) (r : Resolved) (k : ℕ) → AllKindred before' before
    → faults_if (eqb x.row 256) x.word 11 ≡ [] → faults_if (full (most x.kind) (how_many x.kind before)) x.word 17 ≡ []
    → faults_if (eqb (restated_object x r k).row 256) (restated_object x r k).word 11
    ++ faults_if (full (most (restated_object x r k).kind) (how_many (restated_object x r k).kind before')) (restated_object x r k).word 17 ≡ []
unfolding restated_object unplaced_word
restated_one before before' x r k p a b =
    ap₂ ◌++◌ (same_fault _ x.word 11 refl a) (same_fault _ x.word 17 (ap (full (most x.kind)) (kindred_many x.kind p)) b)

-- No object of the normal text is at fault by 11 or 17,
pub restated_each : (f : File) (before before' xs : List Object) (k : ℕ) → AllKindred before' before → each_object before xs ≡ []
    → each_object before' (restated_objects xs (all_values f xs) k) ≡ []
unfolding each_object restated_objects all_values
restated_each f before before' [] k p e = refl
restated_each f before before' (x ∷ xs) k p e =
    let a = faults_if (eqb x.row 256) x.word 11 in
    let b = faults_if (full (most x.kind) (how_many x.kind before)) x.word 17 in
    let r = each_object (before ++ (x ∷ [])) xs in
    let i = nothing_front (a ++ b) r e in
    let v = object_values f x in
    ap₂ ◌++◌ (restated_one before before' x v k p (nothing_front a b i) (nothing_back a b i))
    (restated_each f (before ++ (x ∷ [])) (before' ++ (restated_object x v k ∷ [])) xs (k + how_many_values v)
    (kindred_behind (restated_object x v k) x p (restated_kin x v k)) (nothing_back (a ++ b) r e))

-- and no part and no statement by 11, where there are at most 256 objects.
pub restated_parts_each : (f : File) (xs : List Object) (k i : ℕ) → Counts i (object_numbers xs) → i + length xs ≤ 256 → k + how_many_in_all (all_values f xs) ≤ 2048
    → each_part (restated_objects xs (all_values f xs) k) ≡ []
unfolding each_part restated_objects all_values how_many_in_all object_numbers restated_object faults_if
restated_parts_each f [] k i c l h = refl
restated_parts_each f (x ∷ xs) k i (counts_more e c) l h =
    let v = object_values f x in
    let q : eqb x.row 512 ≡ false = ne_eqb x.row 512 (λ z. omega arith) in
    ap₂ ◌++◌ (ap₂ (λ b t. faults_if b (unplaced_word x.word) 11 ++ t) q (restated_numbers v k (omega arith)))
    (restated_parts_each f xs (k + how_many_values v) (suc i) c (omega arith) (omega arith))

-- No name is at fault by 24, where none of the objects is.
kindred_elsewhere : {xs ys : List Object} (x y : Object) → Kindred x y → AllKindred xs ys → elsewhere x xs ≡ elsewhere y ys
unfolding elsewhere alike
kindred_elsewhere x y k no_kindred = refl
kindred_elsewhere x y k (more_kindred h p) =
    ap₂ either (ap₂ both (ap not (ap₂ same_kind k.kind h.kind)) (ap₂ same h.name k.name)) (kindred_elsewhere x y k p)

pub kindred_names : {before before' xs ys : List Object} → AllKindred before' before → AllKindred ys xs → each_name before xs ≡ [] → each_name before' ys ≡ []
unfolding each_name
kindred_names q no_kindred e = refl
kindred_names {before} {before'} q (more_kindred {x} {y} {xs} {ys} h p) e =
    let A = faults_if (elsewhere y before) y.name 24 in
    let B = each_name (before ++ (y ∷ [])) ys in
    ap₂ ◌++◌ (same_fault x.name y.name 24 (kindred_elsewhere x y h q) (nothing_front A B e)) (kindred_names (kindred_behind x y q h) p (nothing_back A B e))

-- Lines --------------------------------------------------------------------------------------------------------------------------------------

-- The lines of the restated objects are the lines of the objects.
pub restated_lines : (xs : List Object) {qs rs : List Resolved} (k : ℕ) → SameAll qs rs → object_lines (restated_objects xs rs k) qs ≡ object_lines xs rs
unfolding object_lines restated_objects restated_object unplaced_word
restated_lines [] k p = refl
restated_lines (x ∷ xs) k none_same = refl
restated_lines (x ∷ xs) k (more_same {b} h p) =
    ap₂ (λ l m. x.word.bytes ++ (bytes_of " " ++ (x.name.bytes ++ (bytes_of " {\n" ++ (l ++ (bytes_of "};\n" ++ m)))))) (same_lines h) (restated_lines xs (k + how_many_values b) p)
