-- The answers of the functions. Assumes nothing.
use Prim.Native.Nat.{ℕ}
use mathlib.Core.List.{List}
use mathlib.Core.Path.{◌≡◌, refl, sym, ◌∙◌, ap}
use mathlib.Core.Path.{subst}
use lib.ListN.{take}
use Rattle.grammar.specs.Grammar.{Derivation}
use Rattle.meaning.specs.Syntax.{File}
use Rattle.standard.specs.Rules.{Verdict, ChecksByRules}
use Rattle.standard.specs.Rules as rules
use Rattle.standard.specs.Answered.{Checked, MaybeWrong, all_right, wrong_at}
use Rattle.rows.specs.Refusing.{refusing}
use Rattle.std.specs.Prelude.{Result, Ok, Err, Some, None}
use Rattle.sources_reading.specs.Answering.{text}
use Rattle.placing.specs.Placed.{place_in, placed_tables}
use Rattle.lent_texts.specs.Answered.{place_of, TheAnswer}
use Rattle.lent_texts.specs.Expanded.{refusal_in, Holds, ExpandsTexts, Lent}
use Rattle.lent_texts.specs.declared.Expanded.{Expanded}
use Rattle.rows.specs.declared.Fault.{Fault}
use Rattle.standard.specs.declared.Wrong.{Wrong}
use Rattle.lent_texts.proofs.Told.{AtOnce, by_1, by_30, at_once, There, there, answered_refused, answered_accepted}
use Rattle.standard_texts.specs.Checking.{placed_checked, ChecksTexts, told_in, ChecksExpanded}
use Rattle.standard_texts.specs.Checking as specs

-- ---- the inner function

pub refuses_expanded : {s g : List ℕ} {e : Expanded} {a : Checked} {f r : Fault} → ChecksByRules s a → a ≡ Err f → r ≡ refusal_in g e f.number f.place → ChecksExpanded s g e (Err r)
unfolding told_in
refuses_expanded {g = g} {e = e} {a = a} h i j = record { in_expanded = a; rules = h; told = ap Err j ∙ ap (told_in g e) (sym i) }

pub nothing_expanded : {s g : List ℕ} {e : Expanded} {a : Checked} {o : MaybeWrong} → ChecksByRules s a → a ≡ Ok o → o ≡ None → ChecksExpanded s g e all_right
unfolding told_in
nothing_expanded {g = g} {e = e} {a = a} h i j = record { in_expanded = a; rules = h; told = ap (told_in g e) (sym (i ∙ ap Ok j)) }

pub wrong_expanded : {s g : List ℕ} {e : Expanded} {a : Checked} {o : MaybeWrong} {w : Wrong} {q : ℕ} → ChecksByRules s a → a ≡ Ok o → o ≡ Some w → q ≡ place_in g e.length e.main w.place →
    ChecksExpanded s g e (wrong_at w.number q w.attribute)
unfolding told_in
wrong_expanded {g = g} {e = e} {a = a} {w = w} h i k j =
    record { in_expanded = a; rules = h; told = ap (λ (y : ℕ). wrong_at w.number y w.attribute) j ∙ ap (told_in g e) (sym (i ∙ ap Ok k)) }

-- ---- the public call

once : {b l x g x' g' : List ℕ} (n : Fault) → AtOnce b l x g x' g' n → ChecksTexts b l x g x' g' (Err n)
once n (by_1 h i j k) = specs.short_rooms h (ap Err i) j k
once n (by_30 h i _ k f) = specs.refuses h f 30 0 k (ap Err i)

pub stopped_checks : {b l x g x' g' : List ℕ} {r : Lent} {n : Fault} {a : Checked} → ExpandsTexts b l x g x' g' r → r ≡ Err n → a ≡ Err n → ChecksTexts b l x g x' g' a
stopped_checks {b} {l} {x} {g} {x'} {g'} {n = n} u q z = subst (ChecksTexts b l x g x' g') (sym z) (once n (at_once n u q))

verdict_placed : {b l x g : List ℕ} {e : Expanded} (f : File) (a : Checked) → Holds b l x g e → Verdict f a → told_in g e a ≡ placed_checked (place_of b l) a
unfolding told_in placed_checked
verdict_placed f _ k (rules.nothing_wrong h) = refl
verdict_placed f _ k (rules.wrong x h i) = ap (λ (y : ℕ). wrong_at x.number y x.attribute) (k.place x.place)

check_by : {b l x g x' g' : List ℕ} {e : Expanded} (a r : Checked) → There b l x g x' g' e → ChecksByRules (text b l) a → r ≡ told_in g' e a → ChecksTexts b l x g x' g' r
unfolding told_in
check_by {b} {l} {g' = g'} {e = e} a r t (rules.refuses n q h i) z =
    let u = refusal_in g' e n q in
    specs.refuses t.rooms t.filled u.number u.place (answered_refused n q t.holds h u refl) (z ∙ ap (told_in g' e) i)
check_by {b} {l} {g' = g'} {e = e} a r t (rules.judges y h d v) z =
    specs.judges t.rooms t.filled (placed_tables (place_of b l) y) (answered_accepted y t.holds h) d a v (z ∙ verdict_placed _ a t.holds (v d))

pub text_checks : {b l x g x' g' : List ℕ} {r : Lent} {e : Expanded} {a : Checked} → ExpandsTexts b l x g x' g' r → r ≡ Ok e →
    ChecksExpanded (take e.length x') g' e a → ChecksTexts b l x g x' g' a
text_checks {e = e} {a = a} u q w =
    let t = there e u q in
    check_by w.in_expanded a t (subst (λ (y : List ℕ). ChecksByRules y w.in_expanded) t.holds.bytes w.rules) w.told
