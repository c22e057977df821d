-- The answers of the functions. Assumes nothing.
use Prim.Native.Nat.{ℕ, ◌≤◌}
use mathlib.Core.List.{List}
use mathlib.Core.Path.{◌≡◌, refl, sym, ◌∙◌, ap, subst}
use lib.ListN.{length, take}
use Rattle.meaning.specs.Syntax.{File}
use Rattle.masks.specs.Rules.{Verdict, ChecksByRules, Outcome, PlansByRules}
use Rattle.masks.specs.Rules as rules
use Rattle.masks.specs.declared.Checked.{Checked}
use Rattle.masks.specs.declared.Planned.{Planned}
use Rattle.sources_reading.specs.Answering.{text}
use Rattle.placing.specs.Placed.{placed_tables}
use Rattle.lent_texts.specs.Answered.{place_of, TheAnswer}
use Rattle.lent_texts.specs.Expanded.{refusal_in, ExpandsTexts, Lent}
use Rattle.lent_texts.specs.declared.Expanded.{Expanded}
use Rattle.std.specs.Prelude.{Result, Ok, Err}
use Rattle.rows.specs.declared.Fault.{Fault}
use Rattle.lent_texts.proofs.Told.{AtOnce, by_1, by_30, at_once, There, there, answered_refused, answered_accepted}
use Rattle.masks_texts.specs.Masks.{ChecksTexts, PlansTexts, told_check, told_plan, ChecksExpanded, PlansExpanded}
use Rattle.masks_texts.specs.Masks as specs

-- ---- the inner functions

pub check_refused : {s g ms : List ℕ} {e : Expanded} {a : Result Checked Fault} {f r : Fault} → ChecksByRules s ms a → a ≡ Err f → r ≡ refusal_in g e f.number f.place →
    ChecksExpanded s g e ms (Err r)
unfolding told_check
check_refused {g = g} {e = e} {a = a} h i j = record { in_expanded = a; rules = h; told = ap Err j ∙ ap (told_check g e) (sym i) }

pub check_told : {s g ms : List ℕ} {e : Expanded} {a : Result Checked Fault} {v : Checked} → ChecksByRules s ms a → a ≡ Ok v → ChecksExpanded s g e ms (Ok v)
unfolding told_check
check_told {g = g} {e = e} {a = a} h q = record { in_expanded = a; rules = h; told = ap (told_check g e) (sym q) }

pub plan_refused : {s g ms ms' : List ℕ} {e : Expanded} {a : Result Planned Fault} {f r : Fault} → PlansByRules s ms ms' a → a ≡ Err f → r ≡ refusal_in g e f.number f.place →
    PlansExpanded s g e ms ms' (Err r)
unfolding told_plan
plan_refused {g = g} {e = e} {a = a} h i j = record { in_expanded = a; rules = h; told = ap Err j ∙ ap (told_plan g e) (sym i) }

pub plan_told : {s g ms ms' : List ℕ} {e : Expanded} {a : Result Planned Fault} {v : Planned} → PlansByRules s ms ms' a → a ≡ Ok v → PlansExpanded s g e ms ms' (Ok v)
unfolding told_plan
plan_told {g = g} {e = e} {a = a} h q = record { in_expanded = a; rules = h; told = ap (told_plan g e) (sym q) }

-- ---- the checker

check_once : {b l x g x' g' : List ℕ} (ms : List ℕ) (n : Fault) → AtOnce b l x g x' g' n → ChecksTexts b l x g x' g' ms (Err n)
check_once ms n (by_1 h i j k) = specs.short_rooms h (ap Err i) j k
check_once ms n (by_30 h i _ k f) = specs.refuses h f 30 0 k (ap Err i)

pub stopped_checks : {b l x g x' g' ms : List ℕ} {r : Lent} {n : Fault} {a : Result Checked Fault} → ExpandsTexts b l x g x' g' r → r ≡ Err n → a ≡ Err n → ChecksTexts b l x g x' g' ms a
stopped_checks {b} {l} {x} {g} {x'} {g'} {ms} {n = n} u q z = subst (ChecksTexts b l x g x' g' ms) (sym z) (check_once ms n (at_once n u q))

check_by : {b l x g x' g' : List ℕ} {e : Expanded} (ms : List ℕ) (a r : Result Checked Fault) → There b l x g x' g' e → ChecksByRules (text b l) ms a → r ≡ told_check g' e a
    → ChecksTexts b l x g x' g' ms r
unfolding told_check
check_by {b} {l} {g' = g'} {e = e} ms a r t (rules.refuses n q h i) z =
    let u = refusal_in g' e n q in
    specs.refuses t.rooms t.filled u.number u.place (answered_refused n q t.holds h u refl) (z ∙ ap (told_check g' e) i)
check_by {b} {l} {g' = g'} {e = e} ms a r t (rules.judges y h d v i w) z =
    specs.judges t.rooms t.filled (placed_tables (place_of b l) y) (answered_accepted y t.holds h) d v (z ∙ ap (told_check g' e) i) w

pub text_checks : {b l x g x' g' ms : List ℕ} {r : Lent} {e : Expanded} {a : Result Checked Fault} → ExpandsTexts b l x g x' g' r → r ≡ Ok e →
    ChecksExpanded (take e.length x') g' e ms a → ChecksTexts b l x g x' g' ms a
text_checks {ms = ms} {e = e} {a = a} u q w =
    let t = there e u q in
    check_by ms w.in_expanded a t (subst (λ (y : List ℕ). ChecksByRules y ms w.in_expanded) t.holds.bytes w.rules) w.told

-- ---- the planner

plan_once : {b l x g x' g' : List ℕ} (ms : List ℕ) (n : Fault) → AtOnce b l x g x' g' n → PlansTexts b l x g x' g' ms ms (Err n)
plan_once ms n (by_1 h i j k) = specs.short_rooms h (ap Err i) j k refl
plan_once ms n (by_30 h i _ k f) = specs.refuses h f 30 0 k (ap Err i) refl

pub stopped_plans : {b l x g x' g' ms : List ℕ} {r : Lent} {n : Fault} {a : Result Planned Fault} → ExpandsTexts b l x g x' g' r → r ≡ Err n → a ≡ Err n → PlansTexts b l x g x' g' ms ms a
stopped_plans {b} {l} {x} {g} {x'} {g'} {ms} {n = n} u q z = subst (PlansTexts b l x g x' g' ms ms) (sym z) (plan_once ms n (at_once n u q))

plan_by : {b l x g x' g' : List ℕ} {e : Expanded} (ms ms' : List ℕ) (a r : Result Planned Fault) → There b l x g x' g' e → PlansByRules (text b l) ms ms' a → r ≡ told_plan g' e a →
    PlansTexts b l x g x' g' ms ms' r
unfolding told_plan
plan_by {b} {l} {g' = g'} {e = e} ms ms' a r t (rules.refuses n q h i j) z =
    let u = refusal_in g' e n q in
    specs.refuses t.rooms t.filled u.number u.place (answered_refused n q t.holds h u refl) (z ∙ ap (told_plan g' e) i) j
plan_by {b} {l} {g' = g'} {e = e} ms ms' a r t (rules.judges y h d v i w) z =
    specs.judges t.rooms t.filled (placed_tables (place_of b l) y) (answered_accepted y t.holds h) d v (z ∙ ap (told_plan g' e) i) w

pub text_plans : {b l x g x' g' ms ms' : List ℕ} {r : Lent} {e : Expanded} {a : Result Planned Fault} → ExpandsTexts b l x g x' g' r → r ≡ Ok e →
    PlansExpanded (take e.length x') g' e ms ms' a → PlansTexts b l x g x' g' ms ms' a
text_plans {ms = ms} {ms' = ms'} {e = e} {a = a} u q w =
    let t = there e u q in
    plan_by ms ms' w.in_expanded a t (subst (λ (y : List ℕ). PlansByRules y ms ms' w.in_expanded) t.holds.bytes w.rules) w.told
