-- The loop over all attributes: what is told is the foremost finding. Assumes nothing.
use mathlib.Core.Path.{◌≡◌, refl, sym, ◌∙◌, ap, ap₂}
use mathlib.Core.List.{List, [], ◌∷◌, ◌++◌}
use mathlib.Core.Bool.{Bool, true, false}
use mathlib.Core.Option.{Option, none, some}
use Rattle.std.specs.Prelude.{Option as Maybe, Some, None}
use Prim.Native.Nat.{ℕ, zero, suc, ◌-◌, ◌≤◌, ◌<◌}
use native.Mathlib.Omega.{arith}
use lib.ListN.{length, drop}
use Rattle.token.specs.Find.{pick}
use Rattle.meaning.specs.Syntax.{Word, Defined, File}
use Rattle.meaning.specs.Scopes.{find_definition}
use Rattle.scopes.specs.Situations.{Nth}
use Rattle.standard.specs.Asking.{Asked, asked, Scope, scope_of, along, differs, Finding, finding_if, found, in_scope, finding, findings_of, findings, not_behind, earlier, foremost}
use Rattle.standard.specs.Section.{standard}
use Rattle.standard.specs.Findings.{Knows, RowsAre, told_as, first_told, Finds, as_told, sooner, TellsForemost}
use Rattle.standard.specs.declared.Known.{Known}
use Rattle.standard.specs.declared.Told.{Told}
use Rattle.standard.proofs.Members.{Has, here, later, split_by, has_none}
use Rattle.standard.proofs.Theorem.{least_told}
use Rattle.standard.proofs.Sound.{asked_many}

-- One attribute has one finding at most ------------------------------------------------------------------------------------------------------------

pub data Single (n : ℕ) : List Finding → Type 0 where
  nothing : Single n []
  single : {x : Finding} → x.attribute ≡ n → 0 < x.number → Single n (x ∷ [])

single_if : (b : Bool) (p k n : ℕ) → 0 < k → Single n (finding_if b p k n)
unfolding finding_if
single_if true p k n h = single refl h
single_if false p k n h = nothing

single_found : (u : Word) (w : Defined) (o : Option Defined) → Single w.definition.row (found u w o)
unfolding found
single_found u w none = single_if true u.place 25 w.definition.row (omega arith)
single_found u w (some d) = single_if (differs w d) d.definition.name.place 26 w.definition.row (omega arith)

single_scope : (w : Defined) (o : Option Scope) → Single w.definition.row (in_scope w o)
unfolding in_scope
single_scope w none = nothing
single_scope w (some x) = single_found x.word w (find_definition x.definitions w.definition.name)

pub single_finding : (f : File) (a : Asked) → Single a.wanted.definition.row (finding f a)
unfolding finding
single_finding f a = single_scope a.wanted (along (scope_of f a.kind) a.path)

-- Each finding has a number.
single_number : {n : ℕ} {l : List Finding} {y : Finding} → Single n l → Has y l → 0 < y.number
single_number nothing m = absurd (has_none m refl)
single_number (single e h) here = h
single_number (single e h) (later m) = absurd (has_none m refl)

numbered : (f : File) (l : List Asked) {y : Finding} → Has y (findings_of f l) → 0 < y.number
unfolding findings_of
numbered f [] m = absurd (has_none m refl)
numbered f (a ∷ l) m = split_by (finding f a) (findings_of f l) m (λ n. single_number (single_finding f a) n) (λ n. numbered f l n)

pub foremost_number : (f : File) (l : List Asked) {y : Finding} → foremost (findings_of f l) ≡ some y → 0 < y.number
foremost_number f l {y} e = numbered f l (least_told (findings_of f l) y e).is_one

-- What is sooner -----------------------------------------------------------------------------------------------------------------------------------

sooner_of : (o p : Option Finding) → sooner (as_told o) (as_told p) ≡ as_told (earlier o p)
unfolding as_told earlier
sooner_of none p = refl
sooner_of (some x) none = refl
sooner_of (some x) (some y) = by (not_behind x y)
  where
    by : (b : Bool) → ◌≡◌ {A = Maybe Told} (Some (pick b (told_as x) (told_as y))) (Some (told_as (pick b x y)))
    by true = refl
    by false = refl

-- One more attribute.
step_told : {n : ℕ} (l r : List Finding) → Single n l → sooner (first_told l) (as_told (foremost r)) ≡ as_told (foremost (l ++ r))
unfolding first_told foremost as_told
step_told l r nothing = refl
step_told l r (single {x} e h) = sooner_of (some x) (foremost r)

-- The loop -------------------------------------------------------------------------------------------------------------------------------------------

nth_drop : {A : Type 0} (l : List A) (i : ℕ) → i < length l → {R : Type 0} → ((a : A) → Nth l i a → drop i l ≡ a ∷ drop (suc i) l → R) → R
nth_drop [] i h f = absurd (omega (arith, h))
nth_drop (a ∷ l) zero h f = f a (record { front = []; rest = l; whole = refl; place = refl }) refl
nth_drop (a ∷ l) (suc i) h f =
    nth_drop l i (omega (arith, h)) (λ b n e. f b (record { front = a ∷ n.front; rest = n.rest; whole = ap (λ (t : List _). a ∷ t) n.whole; place = ap suc n.place }) e)

drop_all : {A : Type 0} (l : List A) (n : ℕ) → length l ≤ n → drop n l ≡ []
drop_all [] zero h = refl
drop_all [] (suc n) h = refl
drop_all (a ∷ l) zero h = absurd (omega (arith, h))
drop_all (a ∷ l) (suc n) h = drop_all l n (omega (arith, h))

-- The attributes from i on have been looked at.
abbrev pub TellsFrom : (g rs ws s d e : List ℕ) → Known → ℕ → Maybe Told → Type 0
TellsFrom g rs ws s d e x i r = (f : File) → Knows s d e x f → RowsAre g rs ws → r ≡ as_told (foremost (findings_of f (drop i (asked standard))))

-- At attribute i of the loop.
pub record Telling (g rs ws s d e : List ℕ) (x : Known) (i : ℕ) (r : Maybe Told) : Type 0 where
  pub few : i ≤ 36
  pub tells : TellsFrom g rs ws s d e x i r

module _ (g rs ws s d e : List ℕ) (x : Known) where
  told_next : (i j : ℕ) (b c t : Maybe Told) → i ≤ 36 → 0 < i → j ≡ i - 1 → TellsFrom g rs ws s d e x i b → Finds g rs ws s d e x j t → c ≡ sooner t b → TellsFrom g rs ws s d e x j c
  unfolding findings_of
  told_next i j b c t l p q h w v f k r =
      let m : j < length (asked standard) = let z = asked_many in omega (arith, z, l, p, q) in
      let o : i ≡ suc j = omega (arith, p, q) in
      nth_drop (asked standard) j m (λ a n y.
      let z = r j a n in
      let rest = findings_of f (drop (suc j) (asked standard)) in
      v
      ∙ ap₂ (λ (u n' : Maybe Told). sooner u n') (w f a k z) (h f k r ∙ ap (λ (i' : ℕ). as_told (foremost (findings_of f (drop i' (asked standard))))) o)
      ∙ step_told (finding f a) rest (single_finding f a)
      ∙ sym (ap (λ (l' : List Asked). as_told (foremost (findings_of f l'))) y))

  told_last : (i : ℕ) (b : Maybe Told) → i ≤ 0 → TellsFrom g rs ws s d e x i b → TellsForemost g rs ws s d e x b
  unfolding findings
  told_last i b l h f k r = h f k r ∙ ap (λ (i' : ℕ). as_told (foremost (findings_of f (drop i' (asked standard))))) (zero_is i l)
    where
      zero_is : (n : ℕ) → n ≤ 0 → n ≡ 0
      zero_is n h = omega (arith, h)

  pub tell_start : Telling g rs ws s d e x 36 None
  unfolding as_told foremost findings_of
  tell_start = record { few = omega arith; tells = λ f k h. sym (ap (λ (l : List Asked). as_told (foremost (findings_of f l))) (drop_all (asked standard) 36 (let z = asked_many in omega (arith, z)))) }

  pub tell_step : (i j : ℕ) (b c t : Maybe Told) → 0 < i → j ≡ i - 1 → Telling g rs ws s d e x i b → Finds g rs ws s d e x j t → c ≡ sooner t b → Telling g rs ws s d e x j c
  tell_step i j b c t p q h w v = record { few = let l = h.few in omega (arith, l, q); tells = told_next i j b c t h.few p q h.tells w v }

  pub tell_end : (i : ℕ) (b : Maybe Told) → i ≤ 0 → Telling g rs ws s d e x i b → TellsForemost g rs ws s d e x b
  tell_end i b l h = told_last i b l h.tells
