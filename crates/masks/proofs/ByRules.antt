-- From the equations of the two calls to the rules themselves. Assumes nothing.
use mathlib.Core.Path.{◌≡◌, refl, sym, ◌∙◌, ap, subst}
use mathlib.Core.List.{List}
use mathlib.Core.Bool.{Bool, true, false}
use mathlib.Core.Option.{Option, none, some}
use Prim.Native.Nat.{ℕ, ◌≤◌}
use native.Mathlib.Omega.{arith}
use lib.ListN.{length}
use lib.Dec.{eqb, ltb}
use borrow.Author.Tests.{eqb-true, eqb-false, ltb-true, ltb-false, le-ltb}
use Rattle.grammar.specs.Grammar.{Derivation}
use Rattle.grammar.specs.Terminals.{tokens}
use Rattle.meaning.specs.Syntax.{File}
use Rattle.meaning.specs.Words.{choose}
use Rattle.meaning.specs.Actions.{syntax}
use Rattle.meaning.specs.Answers.{Answer, Tables, accepted, refused, answer}
use Rattle.meaning.specs.Reading.{Parsed, parsed, not_parsed, parse, answer_of_parsed, reading, Answers}
use Rattle.meaning.proofs.Found.{parse_derived}
use Rattle.meaning.proofs.Whole.{one_answer}
use Rattle.reading.proofs.Derived.{derived, the_refusal, the_accepted, derivation_of, own_file}
use Rattle.masks.specs.Masks.{breaking, Plan, planned, full, plan}
use Rattle.masks.specs.Events.{plannable, masks_of, tasks_of}
use Rattle.masks.specs.Results.{named_first, check_file, check_answered, check_parsed, check, Made, left, made, plan_file, answered, plan_answered, plan_parsed, plan_text, PlansText}
use Rattle.masks.specs.Rules.{Verdict, Outcome, ChecksByRules, PlansByRules, AcceptsExactly, RefusesExactly}
use Rattle.masks.specs.Rules as rules
use Rattle.std.specs.Prelude.{Result, Ok}
use Rattle.rows.proofs.Refusing.{ok_is}
use Rattle.rows.specs.declared.Fault.{Fault}
use Rattle.masks.specs.declared.Checked.{Checked}
use Rattle.masks.specs.declared.Checked.TheVariants as c
use Rattle.masks.specs.declared.Planned.{Planned}
use Rattle.masks.specs.declared.Planned.TheVariants as p
use Rattle.masks.proofs.Checking.{accepts_only, names_first}
use Rattle.masks.proofs.Planning.{plans, refuses_only, refuses_all}
use Rattle.masks.proofs.Texts.{text_fine, fine_text}

-- A file -----------------------------------------------------------------------------------------------------------------------------------

module _ (f : File) (l : List ℕ) where
  by_first : plannable f ≡ true → length l ≡ length (masks_of f) → (o : Option ℕ) → breaking (tasks_of f) l 0 (masks_of f) l ≡ o → Verdict f l (named_first o)
  unfolding named_first
  by_first e h none q = rules.Verdict.accepts e (accepts_only (tasks_of f) (masks_of f) l h q)
  by_first e h (some i) q = rules.Verdict.breaks e h i (names_first (tasks_of f) (masks_of f) l i h q)

  by_tests : (b d : Bool) → plannable f ≡ b → eqb (length l) (length (masks_of f)) ≡ d
      → Verdict f l (choose b (λ _. choose d (λ _. named_first (breaking (tasks_of f) l 0 (masks_of f) l)) (λ _. c.WrongLength)) (λ _. c.NotPlannable))
  unfolding choose
  by_tests true true e q = by_first e (eqb-true (length l) (length (masks_of f)) q) (breaking (tasks_of f) l 0 (masks_of f) l) refl
  by_tests true false e q = rules.Verdict.wrong_length e (eqb-false (length l) (length (masks_of f)) q)
  by_tests false d e q = rules.Verdict.not_plannable e

  verdict : Verdict f l (check_file f l)
  unfolding check_file
  verdict = by_tests (plannable f) (eqb (length l) (length (masks_of f))) refl refl

  by_plan : plannable f ≡ true → length (masks_of f) ≤ length l → (x : Plan) → plan (tasks_of f) (masks_of f) ≡ x → Outcome f l (made x l).list (made x l).result
  unfolding made left
  by_plan e h (planned ms) q = rules.Outcome.makes e h ms (plans (tasks_of f) (masks_of f) ms q) refl
  by_plan e h (full i) q = rules.Outcome.full_at e h i (refuses_only (tasks_of f) (masks_of f) i q) refl

  by_room : (b d : Bool) → plannable f ≡ b → ltb (length l) (length (masks_of f)) ≡ d
      → let m = choose b (λ _. choose d (λ _. left p.WrongLength l) (λ _. made (plan (tasks_of f) (masks_of f)) l)) (λ _. left p.NotPlannable l) in Outcome f l m.list m.result
  unfolding choose left
  by_room true true e q = rules.Outcome.wrong_length e (ltb-true (length l) (length (masks_of f)) q) refl
  by_room true false e q = by_plan e (ltb-false (length l) (length (masks_of f)) q) (plan (tasks_of f) (masks_of f)) refl
  by_room false d e q = rules.Outcome.not_plannable e refl

  outcome : Outcome f l (plan_file f l).list (plan_file f l).result
  unfolding plan_file
  outcome = by_room (plannable f) (ltb (length l) (length (masks_of f))) refl refl

-- A text -----------------------------------------------------------------------------------------------------------------------------------

module _ (s : List ℕ) where
  module _ (l : List ℕ) where
    check_answer : (f : File) → parse s ≡ parsed f → (a : Answer) → answer f ≡ a → ChecksByRules s l (check_answered a f l)
    unfolding check_answered reading answer_of_parsed
    check_answer f e (refused n q) h = rules.ChecksByRules.refuses n q (the_refusal s n q (ap answer_of_parsed e ∙ h)) refl
    check_answer f e (accepted t) h =
        rules.ChecksByRules.judges t (the_accepted s f e t h) (derivation_of s f e t h).derivation (check_file f l) refl (λ d. subst (λ (g : File). Verdict g l (check_file f l)) (own_file s f e t h d) (verdict f l))

    check_parse : (x : Parsed) → parse s ≡ x → ChecksByRules s l (check_parsed x l)
    unfolding check_parsed reading answer_of_parsed
    check_parse (parsed f) e = check_answer f e (answer f) refl
    check_parse (not_parsed n q) e = rules.ChecksByRules.refuses n q (the_refusal s n q (ap answer_of_parsed e)) refl

    check_by_rules : ChecksByRules s l (check s l)
    unfolding check
    check_by_rules = check_parse (parse s) refl

    abbrev ByRules : Made (Result Planned Fault) → Type 0
    ByRules m = PlansByRules s l m.list m.result

    plan_answer : (f : File) → parse s ≡ parsed f → (a : Answer) → answer f ≡ a → ByRules (plan_answered a f l)
    unfolding plan_answered answered left reading answer_of_parsed
    plan_answer f e (refused n q) h = rules.PlansByRules.refuses n q (the_refusal s n q (ap answer_of_parsed e ∙ h)) refl refl
    plan_answer f e (accepted t) h =
        rules.PlansByRules.judges t (the_accepted s f e t h) (derivation_of s f e t h).derivation (plan_file f l).result refl
        (λ d. subst (λ (g : File). Outcome g l (plan_file f l).list (plan_file f l).result) (own_file s f e t h d) (outcome f l))

    plan_parse : (x : Parsed) → parse s ≡ x → ByRules (plan_parsed x l)
    unfolding plan_parsed left reading answer_of_parsed
    plan_parse (parsed f) e = plan_answer f e (answer f) refl
    plan_parse (not_parsed n q) e = rules.PlansByRules.refuses n q (the_refusal s n q (ap answer_of_parsed e)) refl refl

    plan_by_rules : ByRules (plan_text s l)
    unfolding plan_text
    plan_by_rules = plan_parse (parse s) refl

-- The clauses of `check_masks` and of `plan_masks`: from the first, the second.
pub checks_rules : {s l : List ℕ} {r : Result Checked Fault} → r ≡ check s l → (r ≡ check s l) × ChecksByRules s l r
checks_rules {s} {l} e = (e, subst (ChecksByRules s l) (sym e) (check_by_rules s l))

pub plans_rules : {s l l' : List ℕ} {r : Result Planned Fault} → PlansText s l l' r → PlansText s l l' r × PlansByRules s l l' r
plans_rules {s} {l} {l'} {r} k =
    (k, subst (PlansByRules s l l') (sym k.result) (subst (λ (x : List ℕ). PlansByRules s l x (plan_text s l).result) (sym k.list) (plan_by_rules s l)))

-- Theorems -----------------------------------------------------------------------------------------------------------------------------------

module _ (s : List ℕ) (t : Tables) (a : Answers s (accepted t)) (d : Derivation (tokens s)) where
  parse_is : parse s ≡ parsed (syntax s d.tree)
  parse_is = parse_derived s (derived t a refl).covered d

  answer_is : answer (syntax s d.tree) ≡ accepted t
  unfolding reading answer_of_parsed
  answer_is = sym (ap answer_of_parsed parse_is) ∙ one_answer a

pub accepts_exactly : AcceptsExactly
accepts_exactly s l t a d e = (
  (λ h. (text_fine s (syntax s d.tree) t (parse_is s t a d) (answer_is s t a d) l h).1),
  (λ h. fine_text s (syntax s d.tree) t (parse_is s t a d) (answer_is s t a d) l e h),
)

made_full : (x : Plan) (l : List ℕ) (i : ℕ) → (made x l).result ≡ p.Full i → x ≡ full i
unfolding made left
made_full (planned ms) l i e = absurd (let z : ◌≡◌ {A = ℕ} 0 1 = cc in omega (arith, z))
made_full (full j) l i e = let z : j ≡ i = cc in ap full z

full_made : (x : Plan) (l : List ℕ) (i : ℕ) → x ≡ full i → (made x l).result ≡ p.Full i
unfolding made left
full_made x l i e = ap (λ (y : Plan). (made y l).result) e

pub refuses_exactly : RefusesExactly
unfolding plan_text plan_parsed plan_answered answered plan_file choose
refuses_exactly s l t a d e h i =
    let f = syntax s d.tree in
    let q : plan_text s l ≡ answered (made (plan (tasks_of f) (masks_of f)) l) =
    ap (λ (x : Parsed). plan_parsed x l) (parse_is s t a d) ∙ ap (λ (x : Answer). plan_answered x f l) (answer_is s t a d)
    ∙ ap (λ (m : Made Planned). answered m) (ap (λ (b : Bool). choose b (λ _. choose (ltb (length l) (length (masks_of f))) (λ _. left p.WrongLength l) (λ _. made (plan (tasks_of f) (masks_of f)) l)) (λ _. left p.NotPlannable l)) e
    ∙ ap (λ (b : Bool). choose b (λ _. left p.WrongLength l) (λ _. made (plan (tasks_of f) (masks_of f)) l)) (le-ltb (length l) (length (masks_of f)) h)) in (
      (λ g. refuses_only (tasks_of f) (masks_of f) i (made_full (plan (tasks_of f) (masks_of f)) l i (ok_is (sym (ap (λ (m : Made (Result Planned Fault)). m.result) q) ∙ g)))),
      (λ g. ap (λ (m : Made (Result Planned Fault)). m.result) q ∙ ap Ok (full_made (plan (tasks_of f) (masks_of f)) l i (refuses_all (tasks_of f) (masks_of f) i g))),
    )
