-- What Q-6 says of texts: the checker accepts exactly the lists that it says, and every plan. Assumes nothing.
use mathlib.Core.Path.{◌≡◌, refl, sym, ◌∙◌, ap}
use mathlib.Core.List.{List}
use mathlib.Core.Bool.{Bool, true, false}
use mathlib.Core.Option.{Option, none, some}
use Prim.Native.Nat.{ℕ}
use native.Mathlib.Omega.{arith}
use lib.ListN.{length, take, drop}
use lib.Seq.{take_at}
use lib.Dec.{eqb, ltb}
use borrow.Author.Tests.{eq-eqb, eqb-true}
use Rattle.meaning.specs.Syntax.{File}
use Rattle.meaning.specs.Words.{choose}
use Rattle.meaning.specs.Answers.{Answer, Tables, accepted, refused, answer}
use Rattle.meaning.specs.Reading.{Parsed, parsed, not_parsed, parse}
use Rattle.masks.specs.Masks.{breaking, Plan, planned, full, plan}
use Rattle.masks.specs.Events.{plannable, masks_of, tasks_of}
use Rattle.masks.specs.Results.{named_first, check_file, check_answered, check_parsed, check, left, made, plan_file, answered, plan_answered, plan_parsed, plan_text}
use Rattle.masks.specs.Statements.{Fine}
use Rattle.masks.specs.Rules.{PlanAccepted}
use Rattle.std.specs.Prelude.{Ok}
use Rattle.rows.proofs.Refusing.{ok_is}
use Rattle.masks.specs.declared.Checked.TheVariants as c
use Rattle.masks.specs.declared.Planned.TheVariants as p
use Rattle.masks.proofs.Checking.{accepts_only, accepts_all}
use Rattle.masks.proofs.Planning.{plans, plan_fine}

-- A list that is fine for the file is accepted.
fine_checked : (f : File) (l : List ℕ) → plannable f ≡ true → Fine (tasks_of f) (masks_of f) l → check_file f l ≡ c.Accepted
unfolding check_file choose named_first
fine_checked f l e h =
    let a = accepts_all (tasks_of f) (masks_of f) l h in
    ap (λ (b : Bool). choose b (λ _. choose (eqb (length l) (length (masks_of f))) (λ _. named_first (breaking (tasks_of f) l 0 (masks_of f) l)) (λ _. c.WrongLength)) (λ _. c.NotPlannable)) e
    ∙ ap (λ (b : Bool). choose b (λ _. named_first (breaking (tasks_of f) l 0 (masks_of f) l)) (λ _. c.WrongLength)) (eq-eqb (length l) (length (masks_of f)) a.0)
    ∙ ap named_first a.1

data Cases-of (x : Plan) : Type 0 where
  some_plan : (ms : List ℕ) → x ≡ planned ms → Cases-of x

-- THE CHECKER ACCEPTS EVERY PLAN that the planner makes, of any text, into any list.
module _ (n : ℕ) where
  planned_as : (x : Plan) (l : List ℕ) → (made x l).result ≡ p.Made n → (ms : List ℕ) → x ≡ planned ms → take n (made x l).list ≡ ms
  unfolding made left
  planned_as (planned ys) l e ms q =
      let z : length ys ≡ n = cc in
      let y : ys ≡ ms = cc in
      take_at ys (drop (length ys) l) n z ∙ y
  planned_as (full i) l e ms q = absurd (let z : ◌≡◌ {A = ℕ} 0 1 = cc in omega (arith, z))

  is_planned : (x : Plan) (l : List ℕ) → (made x l).result ≡ p.Made n → Cases-of x
  unfolding made left
  is_planned (planned ys) l e = some_plan ys refl
  is_planned (full i) l e = absurd (let z : ◌≡◌ {A = ℕ} 0 1 = cc in omega (arith, z))

  file_checked : (f : File) (l : List ℕ) (b d : Bool) → plannable f ≡ b → ltb (length l) (length (masks_of f)) ≡ d
      → (choose b (λ _. choose d (λ _. left p.WrongLength l) (λ _. made (plan (tasks_of f) (masks_of f)) l)) (λ _. left p.NotPlannable l)).result ≡ p.Made n
      → check_file f (take n (choose b (λ _. choose d (λ _. left p.WrongLength l) (λ _. made (plan (tasks_of f) (masks_of f)) l)) (λ _. left p.NotPlannable l)).list) ≡ c.Accepted
  unfolding choose left
  file_checked f l true true e q h = absurd (let z : ◌≡◌ {A = ℕ} 0 1 = cc in omega (arith, z))
  file_checked f l true false e q h = go (is_planned (plan (tasks_of f) (masks_of f)) l h)
    where
      go : Cases-of (plan (tasks_of f) (masks_of f)) → check_file f (take n (made (plan (tasks_of f) (masks_of f)) l).list) ≡ c.Accepted
      go (some_plan ms w) =
          ap (check_file f) (planned_as (plan (tasks_of f) (masks_of f)) l h ms w)
          ∙ fine_checked f ms e (plan_fine (tasks_of f) (masks_of f) ms (plans (tasks_of f) (masks_of f) ms w))
  file_checked f l false d e q h = absurd (let z : ◌≡◌ {A = ℕ} 0 1 = cc in omega (arith, z))

  answered_checked : (a : Answer) (f : File) (l : List ℕ) → (plan_answered a f l).result ≡ Ok (p.Made n) → check_answered a f (take n (plan_answered a f l).list) ≡ Ok c.Accepted
  unfolding plan_answered answered check_answered plan_file left
  answered_checked (accepted t) f l h = ap Ok (file_checked f l (plannable f) (ltb (length l) (length (masks_of f))) refl refl (ok_is h))
  answered_checked (refused m q) f l h = absurd (let z : ◌≡◌ {A = ℕ} 0 1 = cc in omega (arith, z))

  parsed_checked : (x : Parsed) (l : List ℕ) → (plan_parsed x l).result ≡ Ok (p.Made n) → check_parsed x (take n (plan_parsed x l).list) ≡ Ok c.Accepted
  unfolding plan_parsed check_parsed left
  parsed_checked (parsed f) l h = answered_checked (answer f) f l h
  parsed_checked (not_parsed m q) l h = absurd (let z : ◌≡◌ {A = ℕ} 0 1 = cc in omega (arith, z))

pub plan_checked : PlanAccepted
unfolding plan_text check
plan_checked s l n h = parsed_checked n (parse s) l h

-- THE CHECKER ACCEPTS ONLY lists that are fine.
module _ (f : File) (l : List ℕ) where
  named_none : (o : Option ℕ) → named_first o ≡ c.Accepted → o ≡ none
  unfolding named_first
  named_none none e = refl
  named_none (some i) e = absurd (let z : ◌≡◌ {A = ℕ} 0 1 = cc in omega (arith, z))

  checked_fine : (b d : Bool) → eqb (length l) (length (masks_of f)) ≡ d
      → choose b (λ _. choose d (λ _. named_first (breaking (tasks_of f) l 0 (masks_of f) l)) (λ _. c.WrongLength)) (λ _. c.NotPlannable) ≡ c.Accepted
      → (b ≡ true) × Fine (tasks_of f) (masks_of f) l
  unfolding choose
  checked_fine true true q h = (refl, accepts_only (tasks_of f) (masks_of f) l (eqb-true (length l) (length (masks_of f)) q) (named_none (breaking (tasks_of f) l 0 (masks_of f) l) h))
  checked_fine true false q h = absurd (let z : ◌≡◌ {A = ℕ} 0 1 = cc in omega (arith, z))
  checked_fine false d q h = absurd (let z : ◌≡◌ {A = ℕ} 0 1 = cc in omega (arith, z))

  pub file_fine : check_file f l ≡ c.Accepted → (plannable f ≡ true) × Fine (tasks_of f) (masks_of f) l
  unfolding check_file
  file_fine h = checked_fine (plannable f) (eqb (length l) (length (masks_of f))) refl h

-- THE CHECKER ACCEPTS EXACTLY, for an accepted text with the syntax f.
module _ (s : List ℕ) (f : File) (t : Tables) (a : parse s ≡ parsed f) (b : answer f ≡ accepted t) (l : List ℕ) where
  check_is : check s l ≡ Ok (check_file f l)
  unfolding check check_parsed check_answered
  check_is = ap (λ (x : Parsed). check_parsed x l) a ∙ ap (λ (x : Answer). check_answered x f l) b

  pub text_fine : check s l ≡ Ok c.Accepted → (plannable f ≡ true) × Fine (tasks_of f) (masks_of f) l
  text_fine h = file_fine f l (ok_is (sym check_is ∙ h))

  pub fine_text : plannable f ≡ true → Fine (tasks_of f) (masks_of f) l → check s l ≡ Ok c.Accepted
  fine_text e h = check_is ∙ ap Ok (fine_checked f l e h)
