-- The checker and the planner over the rows and over an accepted text: their ways out. Assumes nothing.
use mathlib.Core.Path.{◌≡◌, refl, sym, ◌∙◌, ap, ap₂, subst}
use mathlib.Core.List.{List, ◌++◌}
use mathlib.Core.Bool.{Bool, true, false}
use mathlib.Core.Option.{Option, none, some}
use Prim.Native.Nat.{ℕ, ◌+◌, ◌≤◌, ◌<◌}
use native.Mathlib.Omega.{arith}
use lib.ListN.{length, get_or, take, drop, replicate, length-replicate, get_or-replicate}
use lib.Seq.{sets, sets-eq, length-take-le}
use lib.Dec.{eqb, ltb}
use borrow.Author.Tests.{eq-eqb, ne_eqb, lt-ltb, le-ltb}
use Rattle.rows.specs.Found.{Found}
use Rattle.std.specs.Prelude.{Some, None}
use Rattle.meaning.specs.Syntax.{File}
use Rattle.meaning.specs.Words.{choose}
use Rattle.writing.specs.Promises.{Tables}
use Rattle.masks.specs.Masks.{Task, breaking, before_plan, Plan, plan_from, plan}
use Rattle.grammar.specs.Grammar.{EVENT}
use Rattle.meaning.specs.Kinds.{kind_number}
use Rattle.reading.specs.declared.Spanned.{Spanned}
use Rattle.masks.specs.Events.{plannable, masks_of, tasks_of}
use Rattle.masks.specs.Marks.{tasks_at, masks_at, found_of, plan_of}
use Rattle.masks.specs.Members.{refers_at, Marked, event_rows_at, PutEvents, Filled, defines_mask}
use Rattle.masks.specs.Results.{named_first, check_file, Made, left, made, plan_file, Leaves}
use Rattle.masks.specs.Promises.{named_found, check_listed, plan_listed, ChecksRows, PlansRows, Delivers, HandsOut, ReadAs, ChecksRead, PlansRead}
use Rattle.masks.specs.declared.Checked.{Checked}
use Rattle.masks.specs.declared.Checked.TheVariants as c
use Rattle.masks.specs.declared.Planned.{Planned}
use Rattle.masks.specs.declared.Planned.TheVariants as p
use Rattle.masks.proofs.Scenes.{how_many, breaking_same, plan_same, few}
use Rattle.masks.proofs.Rules.{before_many}
use Rattle.masks.proofs.Plannables.{plannable_is}

found_named : (o : Option ℕ) → named_found (found_of o) ≡ named_first o
unfolding named_found found_of named_first
found_named none = refl
found_named (some i) = refl

pub named_at : (f : Found) (i : ℕ) → f ≡ Some i → c.Breaks i ≡ named_found f
unfolding named_found
named_at f i e = ap named_found (sym e)

pub named_nothing : (f : Found) → f ≡ None → c.Accepted ≡ named_found f
unfolding named_found
named_nothing f e = ap named_found (sym e)

-- The list stays.
leaves_left : (m : Made Planned) (r : Planned) (l : List ℕ) → m ≡ left r l → Leaves m l r
unfolding left
leaves_left m r l e = record { result = ap (λ (x : Made Planned). x.result) (sym e); list = ap (λ (x : Made Planned). x.list) (sym e) }

-- What the planner found, and its plan to the front of the list.
pub full_delivered : (x : Found) (ms l : List ℕ) (i : ℕ) → x ≡ Some i → Delivers (plan_of x ms) l l (p.Full i)
unfolding plan_of made
full_delivered x ms l i e = leaves_left _ (p.Full i) l (ap (λ (y : Found). made (plan_of y ms) l) e)

pub plan_delivered : (x : Found) (ms l l' : List ℕ) → x ≡ None → length ms ≤ length l → l' ≡ sets l 0 ms → Delivers (plan_of x ms) l l' (p.Made (length ms))
unfolding plan_of made
plan_delivered x ms l l' e h q =
    let z : 0 + length ms ≡ length ms = omega arith in
    let w : l' ≡ ms ++ drop (length ms) l = q ∙ sets-eq ms l 0 (omega (arith, h)) ∙ ap (λ (n : ℕ). ms ++ drop n l) z in
    subst (λ (y : Found). Delivers (plan_of y ms) l l' (p.Made (length ms))) (sym e) (record { result = refl; list = w })

-- The plan from the given masks on.
pub hands_out : (ts : List Task) (t : List ℕ) (k : ℕ) (ms₁ ms₂ l l' : List ℕ) (x : Found) (r : Planned) → ms₁ ≡ before_plan (masks_at t k 0)
    → plan_from ts ms₁ 0 (masks_at t (length ms₁) 0) ≡ plan_of x ms₂ → Delivers (plan_of x ms₂) l l' r → HandsOut ts (masks_at t k 0) l l' r
hands_out ts t k ms₁ ms₂ l l' x r e q h =
    let n : length ms₁ ≡ k = ap length e ∙ before_many t k 0 in
    let w : plan_from ts (before_plan (masks_at t k 0)) 0 (masks_at t k 0) ≡ plan_of x ms₂ =
    ap₂ (λ (y : List ℕ) (j : ℕ). plan_from ts y 0 (masks_at t j 0)) (sym e) (sym n) ∙ q in
    subst (λ (y : Plan). Leaves (made y l) l' r) (sym w) h

module _ {s d o v : List ℕ} {m n : ℕ} {rows₀ rows : List ℕ} {e : ℕ} (wide : 256 ≤ length rows₀) (q : PutEvents rows₀ (event_rows_at o m 0) rows e) where
  -- The list has another length than there are events.
  pub other_length : (l : List ℕ) → (e ≡ length l → ⊥) → ChecksRows s d o v m n l c.WrongLength
  unfolding check_listed choose
  other_length l h f t k =
      let z = how-many-of f t k in
      sym (ap (λ (b : Bool). choose b (λ _. named_first (breaking (tasks_of f) l 0 (masks_of f) l)) (λ _. c.WrongLength)) (ne_eqb (length l) (length (masks_of f)) (λ (q : length l ≡ length (masks_of f)). h (z ∙ sym q))))
    where
      how-many-of : (f : File) → Tables s d o v m n f → m ≤ 256 → e ≡ length (masks_of f)
      how-many-of f t k = how_many t k wide q

  -- More than 256 events there are not.
  pub too_many_events : (l : List ℕ) (r : Checked) → 256 < e → ChecksRows s d o v m n l r
  too_many_events l r h f t k = let z = few t k wide q in absurd (omega (arith, h, z))

  -- The first event that breaks its rule.
  pub found_checked : {marks₀ marks given₀ given : List ℕ} (l : List ℕ) (x : Found) (r : Checked) → ((a : ℕ) → a < 65536 → get_or marks₀ a 0 ≡ 0) → Marked marks₀ (refers_at o v n 0 0) marks → Filled s d v n rows e given₀ given
      → e ≡ length l → x ≡ found_of (breaking (tasks_at marks rows m 0) l 0 (masks_at given (length l) 0) l) → r ≡ named_found x → ChecksRows s d o v m n l r
  unfolding check_listed choose
  found_checked l x r clear a g h w y f t k =
      y ∙ ap named_found w ∙ found_named (breaking (tasks_at _ rows m 0) l 0 (masks_at _ (length l) 0) l)
      ∙ ap named_first (breaking_same t k wide q clear a g l (sym h))
      ∙ sym (ap (λ (b : Bool). choose b (λ _. named_first (breaking (tasks_of f) l 0 (masks_of f) l)) (λ _. c.WrongLength)) (eq-eqb (length l) (length (masks_of f)) (sym h ∙ how_many t k wide q)))

  -- The planner's list is shorter than the events.
  pub list_short : (l : List ℕ) → length l < e → PlansRows s d o v m n l l p.WrongLength
  unfolding plan_listed choose
  list_short l h f t k =
      let z = how_many t k wide q in
      leaves_left _ p.WrongLength l
      (ap (λ (b : Bool). choose b (λ _. left p.WrongLength l) (λ _. made (plan (tasks_of f) (masks_of f)) l)) (lt-ltb (length l) (length (masks_of f)) (omega (arith, h, z))))

  pub too_many_planned : (l l' : List ℕ) (r : Planned) → 256 < e → PlansRows s d o v m n l l' r
  too_many_planned l l' r h f t k = let z = few t k wide q in absurd (omega (arith, h, z))

  -- What the planner over the rows hands out.
  pub handed_out : {marks₀ marks given₀ given : List ℕ} (j : ℕ) (l l' : List ℕ) (r : Planned) → ((a : ℕ) → a < 65536 → get_or marks₀ a 0 ≡ 0) → Marked marks₀ (refers_at o v n 0 0) marks → Filled s d v n rows e given₀ given
      → j ≡ e → e ≤ length l → HandsOut (tasks_at marks rows m 0) (masks_at given j 0) l l' r → PlansRows s d o v m n l l' r
  unfolding plan_listed choose
  handed_out {marks = marks} {given = given} j l l' r clear a g h w y f t k =
      let z = how_many t k wide q in
      let u : plan_from (tasks_at marks rows m 0) (before_plan (masks_at given j 0)) 0 (masks_at given j 0) ≡ plan (tasks_of f) (masks_of f) =
      ap (λ (c : ℕ). plan_from (tasks_at marks rows m 0) (before_plan (masks_at given c 0)) 0 (masks_at given c 0)) h
      ∙ plan_same t k wide q clear a g (before_plan (masks_at given e 0)) (before_many given e 0) refl in
      let x : made (plan_from (tasks_at marks rows m 0) (before_plan (masks_at given j 0)) 0 (masks_at given j 0)) l ≡ plan_listed f l =
      ap (λ (c : Plan). made c l) u
      ∙ sym (ap (λ (b : Bool). choose b (λ _. left p.WrongLength l) (λ _. made (plan (tasks_of f) (masks_of f)) l)) (le-ltb (length l) (length (masks_of f)) (omega (arith, w, z)))) in
      subst (λ (c : Made Planned). Leaves c l' r) x y

pub cleared : (a : ℕ) → a < 65536 → ◌≡◌ {A = ℕ} (get_or {A = ℕ} (replicate {A = ℕ} 65536 0) a 0) 0
cleared a h = get_or-replicate 65536 a 0 0 h

-- The front of an array of 256.
pub front_long : (e : ℕ) → e ≤ 256 → e ≡ length (take e (replicate {A = ℕ} 256 0))
front_long e h = let w : length (replicate {A = ℕ} 256 0) ≡ 256 = length-replicate {A = ℕ} 256 0 in sym (length-take-le e (replicate {A = ℕ} 256 0) (omega (arith, h, w)))

pub front_within : (e n : ℕ) → e ≤ 256 → e ≤ n → length (take e (replicate {A = ℕ} 256 0)) ≤ n
front_within e n h k = let w = front_long e h in omega (arith, w, k)

pub array_wide : 256 ≤ length (replicate {A = ℕ} 256 0)
array_wide = let e : length (replicate {A = ℕ} 256 0) ≡ 256 = length-replicate {A = ℕ} 256 0 in omega (arith, e)

-- An accepted text -------------------------------------------------------------------------------------------------------------------------

module _ {s d o v : List ℕ} {w : Spanned} where
  defines : {f : File} → ReadAs s d o v w f → defines_mask s d (get_or w.places 7 0) w.reading.definitions ≡ plannable f
  unfolding kind_number
  defines h = plannable_is h.tables.situation h.tables.definitions h.definitions (h.places.place EVENT)

  module _ (b : Bool) (q : b ≡ defines_mask s d (get_or w.places 7 0) w.reading.definitions) where
    pub check_not : b ≡ false → (l : List ℕ) → ChecksRead s d o v w l c.NotPlannable
    unfolding check_file choose
    check_not e l f h =
        sym (ap (λ (x : Bool). choose x (λ _. choose (eqb (length l) (length (masks_of f))) (λ _. named_first (breaking (tasks_of f) l 0 (masks_of f) l)) (λ _. c.WrongLength)) (λ _. c.NotPlannable))
        (sym (defines h) ∙ sym q ∙ e))

    pub plan_not : b ≡ false → (l : List ℕ) → PlansRead s d o v w l l p.NotPlannable
    unfolding plan_file choose
    plan_not e l f h =
        leaves_left _ p.NotPlannable l
        (ap (λ (x : Bool). choose x (λ _. choose (ltb (length l) (length (masks_of f))) (λ _. left p.WrongLength l) (λ _. made (plan (tasks_of f) (masks_of f)) l)) (λ _. left p.NotPlannable l))
        (sym (defines h) ∙ sym q ∙ e))

    pub check_so : b ≡ true → (l : List ℕ) (r : Checked) → ChecksRows s d o v w.reading.objects w.reading.values l r → ChecksRead s d o v w l r
    unfolding check_file check_listed choose
    check_so e l r k f h =
        k f h.tables h.few
        ∙ sym (ap (λ (x : Bool). choose x (λ _. choose (eqb (length l) (length (masks_of f))) (λ _. named_first (breaking (tasks_of f) l 0 (masks_of f) l)) (λ _. c.WrongLength)) (λ _. c.NotPlannable))
        (sym (defines h) ∙ sym q ∙ e))

    pub plan_so : b ≡ true → (l l' : List ℕ) (r : Planned) → PlansRows s d o v w.reading.objects w.reading.values l l' r → PlansRead s d o v w l l' r
    unfolding plan_file plan_listed choose
    plan_so e l l' r k f h =
        subst (λ (x : Made Planned). Leaves x l' r)
        (sym (ap (λ (x : Bool). choose x (λ _. choose (ltb (length l) (length (masks_of f))) (λ _. left p.WrongLength l) (λ _. made (plan (tasks_of f) (masks_of f)) l)) (λ _. left p.NotPlannable l))
        (sym (defines h) ∙ sym q ∙ e)))
        (k f h.tables h.few)
