-- The stage of 6 to 9 and 21 to 23 by the version's word, the kind words that come a second time, and the rows that are kept. Assumes nothing.
use mathlib.Core.Path.{◌≡◌, refl, sym, ◌∙◌, ap, ap₂}
use mathlib.Core.List.{List, [], ◌∷◌, ◌++◌}
use mathlib.Core.Bool.{Bool, true, false, not}
use mathlib.Core.Option.{Option, none, some}
use mathlib.Core.Logic.{◌⊎◌, inl, inr, ⊎_elim}
use Prim.Native.Nat.{ℕ, suc, ◌≤◌, ◌<◌, min}
use native.Mathlib.Omega.{arith}
use lib.ListN.{length}
use lib.Dec.{eqb}
use borrow.Author.Tests.{ne_eqb}
use Rattle.token.specs.Find.{pick}
use Rattle.token.specs.Words.{same, bytes_of}
use Rattle.rows.specs.Order.{MaybeFault}
use Rattle.rows.specs.Order as order
use Rattle.meaning.specs.Syntax.{AttributeType, Bounds, Definition, Values, Spec, File}
use Rattle.meaning.specs.Faults.{Fault, faults_if, sooner, first}
use Rattle.meaning.specs.Defining.{range_faults, default_faults, specified, spec_faults, definition_faults}
use Rattle.meaning.proofs.Numbered.{of_range, of_default, of_name, of_word}
use Rattle.meaning.proofs.Sooner.{first_append}
use Rattle.meaning.proofs.Standing.{Run}
use Rattle.meaning.proofs.Order.{ahead_left}
use Rattle.meaning.proofs.Sites.{definition_words, spec_words}
use Rattle.layout.specs.Kept.{Entry, Choice, spec_entries, spec_choices, again_place}
use Rattle.scopes.specs.Situations.{Situation}
use Rattle.scopes.specs.Promises.{fault_of}
use Rattle.scopes.proofs.Descents.{whole, spec_run}
use Rattle.scopes.specs.Listing.{each}
use Rattle.defining_checks.specs.Listing.{others_for, under_of, row_name_faults, judged, judged_faults, kept_row_faults, list_of, choice_faults}
use Rattle.defining_checks.proofs.Rowwise.{row_faults, again_faults, all_rows}
use Rattle.defining_checks.specs.Promises.{Room}
use Rattle.scopes.proofs.Firsts.{Real, real, real_none, real_append, real_if, fault_append, fault_one, real_each}
use Rattle.defining_checks.proofs.Telling.{text_apart}
use Rattle.defining_checks.proofs.Rising.{rise_specs, ascend_specs}
use Rattle.defining_checks.proofs.Covers.{kept_same}
use Rattle.meaning.proofs.Runs.{run_le, cut}

-- Kind words that come a second time ---------------------------------------------------------------------------------------------------------

unfoldable again_option : ℕ → Option Fault
again_option p = pick (eqb p 0) none (some (record { place = p; number = 8 }))

-- The first such, which stands at lo or behind it, if there is one.
record Again (lo : ℕ) (before xs : List Spec) : Type 0 where
  is : first (again_faults before xs) ≡ again_option (again_place before xs)
  behind : (again_place before xs ≡ 0) ⊎ (lo ≤ again_place before xs)

none_again : first [] ≡ again_option 0
unfolding first again_option
none_again = refl

option_some : (p : ℕ) → 0 < p → again_option p ≡ some (record { place = p; number = 8 })
unfolding again_option
option_some p h = ap (λ b. pick b none (some (record { place = p; number = 8 }))) (ne_eqb p 0 (λ e. omega arith))

ahead_option : (p q : ℕ) → 0 < p → (q ≡ 0) ⊎ (suc p ≤ q) → sooner (some (record { place = p; number = 8 })) (again_option q) ≡ some (record { place = p; number = 8 })
unfolding sooner again_option
ahead_option p q h o = ⊎_elim (λ e. zero_case e) (λ l. late_case l) o
  where
    zero_case : q ≡ 0 → sooner (some (record { place = p; number = 8 })) (again_option q) ≡ some (record { place = p; number = 8 })
    zero_case e = ap (λ (n : ℕ). sooner (some (record { place = p; number = 8 })) (again_option n)) e

    late_case : suc p ≤ q → sooner (some (record { place = p; number = 8 })) (again_option q) ≡ some (record { place = p; number = 8 })
    late_case l =
        ap (sooner (some (record { place = p; number = 8 }))) (option_some q (omega (arith, l)))
        ∙ ap (λ b. some (pick b (record { place = p; number = 8 }) (record { place = q; number = 8 }))) (ahead_left (record { place = p; number = 8 }) (record { place = q; number = 8 }) l)

again_more : (lo : ℕ) (x : Spec) (l : List Fault) (q : ℕ) (b : Bool) → 0 < lo → lo ≤ x.word.place → first l ≡ again_option q → (q ≡ 0) ⊎ (suc x.word.place ≤ q)
    → (first (faults_if b x.word 8 ++ l) ≡ again_option (pick b x.word.place q)) × ((pick b x.word.place q ≡ 0) ⊎ (lo ≤ pick b x.word.place q))
unfolding faults_if first
again_more lo x l q true z h e o =
    (ap (sooner (some (record { place = x.word.place; number = 8 }))) e ∙ ahead_option x.word.place q (omega (arith, z, h)) o ∙ sym (option_some x.word.place (omega (arith, z, h))), inr h)
again_more lo x l q false z h e o = (e, ⊎_elim (λ i. inl i) (λ i. inr (omega (arith, h, i))) o)

again_is : (xs : List Spec) (before : List Spec) (lo hi : ℕ) → Run lo (spec_words xs) hi → 0 < lo → Again lo before xs
unfolding again_faults again_place spec_words
again_is [] before lo hi r z = record { is = none_again; behind = inl refl }
again_is (x ∷ xs) before lo hi r z =
    let i = r.0 in
    let k = cut (definition_words x.definitions) (spec_words xs) (suc x.word.place) hi r.1 in
    let l = run_le (definition_words x.definitions) k.front in
    let a = again_is xs (before ++ (x ∷ [])) k.mid hi k.back (omega arith) in
    let q = again_place (before ++ (x ∷ [])) xs in
    let m = again_more lo x (again_faults (before ++ (x ∷ [])) xs) q (specified x before) z i a.is (⊎_elim (λ j. inl j) (λ j. inr (omega (arith, l, j))) a.behind) in
    record { is = m.0; behind = m.1 }

option_code : (p : ℕ) → fault_of (again_option p) ≡ order.fault_if (not (eqb p 0)) 8 p
unfolding again_option fault_of order.fault_if
option_code p = by (eqb p 0)
  where
    by : (b : Bool) → fault_of (pick b none (some (record { place = p; number = 8 }))) ≡ order.fault_if (not b) 8 p
    by true = refl
    by false = refl

-- No fault has the number 0 ------------------------------------------------------------------------------------------------------------------

pub real_range : (y : AttributeType) (b : Bounds) → Real (range_faults y b)
real_range y b = real (of_range y b)

real_pick : (b : Bool) (l : List Fault) → Real l → Real (pick b l [])
real_pick true l r = r
real_pick false l r = real_none

pub real_judged : (full : Bool) (limit : ℕ) (d : Definition) (vs : Values) → Real (judged_faults full limit d vs)
unfolding judged_faults
real_judged full limit d vs = real_pick (judged full limit d.default) (default_faults d vs d.default) (real (of_default d vs d.default))

pub real_row_name : (before : List Entry) (x : Entry) → Real (row_name_faults before x)
unfolding row_name_faults
real_row_name before x = real (of_name x.definition (others_for x.outer x.under.place before) (under_of x.under.place before))

pub real_row : (full : Bool) (limit : ℕ) (before : List Entry) (x : Entry) → Real (kept_row_faults full limit before x)
unfolding kept_row_faults
real_row full limit before x =
    real_append (range_faults x.definition.type x.definition.bounds) (row_name_faults before x ++ judged_faults full limit x.definition x.values)
    (real_range x.definition.type x.definition.bounds)
    (real_append (row_name_faults before x) (judged_faults full limit x.definition x.values) (real_row_name before x) (real_judged full limit x.definition x.values))

pub real_choice : (before : List Choice) (c : Choice) → Real (choice_faults before c)
unfolding choice_faults
real_choice before c = real (of_word true (length before) c.word (list_of c.list before))

real_again : (before xs : List Spec) → Real (again_faults before xs)
unfolding again_faults
real_again before [] = real_none
real_again before (x ∷ xs) = real_append (faults_if (specified x before) x.word 8) (again_faults (before ++ (x ∷ [])) xs) (real_if _ x.word 8 (omega arith)) (real_again (before ++ (x ∷ [])) xs)

-- The stage ------------------------------------------------------------------------------------------------------------------------------------

pub stage_is : {s : List ℕ} (f : File) (m : ℕ) (full : Bool) (limit : ℕ) (E₀ E₁ : List Entry) (C₀ C₁ : List Choice) (again : ℕ) (v a r c : MaybeFault) → Situation s f
    → Room f m full limit → spec_entries f.specs ≡ E₀ ++ E₁ → length E₀ ≡ min (length (spec_entries f.specs)) 513
    → spec_choices f.specs ≡ C₀ ++ C₁ → length C₀ ≡ min (length (spec_choices f.specs)) 1025 → again ≡ again_place [] f.specs
    → v ≡ order.fault_if (not (same f.version.bytes (bytes_of "\"2.5\""))) 6 f.version.place → a ≡ order.fault_if (not (eqb again 0)) 8 again
    → r ≡ fault_of (first (each (kept_row_faults full limit) [] E₀)) → c ≡ fault_of (first (each choice_faults [] C₀))
    → order.sooner v (order.sooner a (order.sooner r c)) ≡ fault_of (first (definition_faults f))
unfolding definition_faults
stage_is {s} f m full limit E₀ E₁ C₀ C₁ again v a r c k room wE nE wC nC ea hv ha hr hc =
    let z = spec_run k in
    let y = whole k in
    let W = faults_if (not (same f.version.bytes (bytes_of "\"2.5\""))) f.version 6 in
    let A = again_faults [] f.specs in
    let R = each (kept_row_faults full limit) [] E₀ in
    let K = each choice_faults [] C₀ in
    let g = again_is f.specs [] 1 z.hi z.run (omega arith) in
    let e₁ : first (spec_faults [] f.specs) ≡ sooner (first A) (first (R ++ K)) =
    all_rows f.specs 1 z.hi z.run (omega arith) y.numbers.0.1 (text_apart k)
    ∙ ap (sooner (first A)) (sym (first_append (each row_faults [] (spec_entries f.specs)) (each choice_faults [] (spec_choices f.specs)))
    ∙ kept_same f m full limit 1 z.hi E₀ E₁ C₀ C₁ wE nE wC nC (rise_specs s f.specs 1 z.hi z.run y.facts.formed) (ascend_specs f.specs 1 z.hi z.run) y.rows room) in
    let e₂ : first (W ++ spec_faults [] f.specs) ≡ first (W ++ (A ++ (R ++ K))) =
    first_append W (spec_faults [] f.specs) ∙ ap (sooner (first W)) (e₁ ∙ sym (first_append A (R ++ K))) ∙ sym (first_append W (A ++ (R ++ K))) in
    let rV = real_if (not (same f.version.bytes (bytes_of "\"2.5\""))) f.version 6 (omega arith) in
    let rA = real_again [] f.specs in
    let rR = real_each (kept_row_faults full limit) (real_row full limit) [] E₀ in
    let rK = real_each choice_faults real_choice [] C₀ in
    let hV : v ≡ fault_of (first W) = hv ∙ sym (fault_one (not (same f.version.bytes (bytes_of "\"2.5\""))) f.version 6) in
    let hA : a ≡ fault_of (first A) = ha ∙ ap (λ (p : ℕ). order.fault_if (not (eqb p 0)) 8 p) ea ∙ sym (option_code (again_place [] f.specs)) ∙ ap fault_of (sym g.is) in
    sym (ap fault_of e₂ ∙ fault_append W (A ++ (R ++ K)) rV (real_append A (R ++ K) rA (real_append R K rR rK))
    ∙ ap₂ order.sooner (sym hV) (fault_append A (R ++ K) rA (real_append R K rR rK) ∙ ap₂ order.sooner (sym hA) (fault_append R K rR rK ∙ ap₂ order.sooner (sym hr) (sym hc))))
